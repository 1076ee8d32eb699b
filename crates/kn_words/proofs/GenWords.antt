-- The words of `gen`.
use Rattle.std.proofs.Common.{◌≡◌, ℕ, Bool, false, List, [], ◌∷◌, length, get_or, sym}
use Rattle.std.proofs.Common.{ap, ◌∙◌, arith, Option, Some, None, subst}
use Rattle.std.specs.Prelude.{not, codes, IfSome, IfNone}
use Rattle.kn_base.specs.Decimal.{decimal_of}
use Rattle.std.specs.Str.{bytes_eq}
use Rattle.kn_words.specs.declared.gen_words.GenNumbers.{GenNumbers}
use Rattle.kn_words.specs.Commands.{AreGenNumbers, AreNoGenNumbers, GenFor, IsNo}
use Rattle.kn_words.proofs.CommandWords.{same_word}

three_words : (words : List (List ℕ)) (first second third : List ℕ) → length words ≡ 3 → first ≡ get_or words 0 first
    → second ≡ get_or words 1 second → third ≡ get_or words 2 third → words ≡ first ∷ second ∷ third ∷ []
three_words [] first second third count a b c = absurd (omega arith)
three_words (x ∷ []) first second third count a b c = absurd (omega arith)
three_words (x ∷ y ∷ []) first second third count a b c = absurd (omega arith)
three_words (x ∷ y ∷ z ∷ []) first second third count a b c = cc
three_words (x ∷ y ∷ z ∷ w ∷ ws) first second third count a b c = absurd (omega arith)

-- the words are `gen` and two more, where the first doesn't differ from it
pub spell_gen : (words : List (List ℕ)) (first second third given gen start count : List ℕ) (differs : Bool)
    → length words ≡ 3 → first ≡ get_or words 0 first → second ≡ get_or words 1 second → third ≡ get_or words 2 third
    → start ≡ second → count ≡ third → given ≡ first → gen ≡ codes "gen" → differs ≡ not (bytes_eq given gen)
    → differs ≡ false → words ≡ codes "gen" ∷ start ∷ count ∷ []
spell_gen words first second third given gen start count differs three a b c d e same is tested none =
    three_words words first second third three a b c
    ∙ ap (λ (w : List ℕ). w ∷ second ∷ third ∷ []) (same_word first given gen (codes "gen") differs same is tested none)
    ∙ ap (λ (w : List ℕ). codes "gen" ∷ w ∷ third ∷ []) (sym d)
    ∙ ap (λ (w : List ℕ). codes "gen" ∷ start ∷ w ∷ []) (sym e)

-- what two words spell is what the words of `gen` ask for
pub gen_some : (words : List (List ℕ)) (first second : List ℕ) (found : Option GenNumbers)
    → words ≡ codes "gen" ∷ first ∷ second ∷ [] → IfSome found (λ n. AreGenNumbers first second n)
    → IfSome found (λ n. GenFor words n)
gen_some words first second None spelled are = tt
gen_some words first second (Some n) spelled are =
    record { first = first; second = second; spelled = spelled; are = are }

pub gen_none : (words : List (List ℕ)) (first second : List ℕ) (found : Option GenNumbers)
    → words ≡ codes "gen" ∷ first ∷ second ∷ [] → IfNone found (AreNoGenNumbers first second)
    → IfNone found (IsNo GenFor words)
gen_none words first second None spelled none = λ numbers gen.
    let both : codes "gen" ∷ gen.first ∷ gen.second ∷ [] ≡ codes "gen" ∷ first ∷ second ∷ [] =
    sym gen.spelled ∙ spelled in
    let a : gen.first ≡ first = cc in
    let b : gen.second ≡ second = cc in
    none numbers (subst (λ (x : List ℕ). AreGenNumbers x second numbers) a
    (subst (λ (y : List ℕ). AreGenNumbers gen.first y numbers) b gen.are))
gen_none words first second (Some n) spelled none = tt

pub no_count : (first second : List ℕ) → None ≡ decimal_of second → AreNoGenNumbers first second
no_count first second none numbers are = let both : None ≡ Some numbers.count = none ∙ are.count in absurd (cc)
