-- The words of a command, one by one.
use Rattle.std.proofs.Common.{◌≡◌, ℕ, ◌≤◌, Bool, true, false, List, [], ◌∷◌, length, get_or, sym, ◌∙◌, ap, ⊎_elim}
use Rattle.std.proofs.Common.{arith, Option, Some, None}
use Rattle.std.specs.Prelude.{◌==◌, not, codes, slice_get, option_to_list}
use Rattle.std.specs.Str.{bytes_eq}
use Rattle.std.proofs.lemmas.Bool.{cases_Bool}
use Rattle.std.proofs.lemmas.Slice.Eq.{bytes_eq-Decides}
use Rattle.kn_words.specs.Names.{AskNames, ask_order, CheckNames, in_order, VerifyNames, verify_order}

-- a word that doesn't differ from a text is that text
pub same_word : (first given text literal : List ℕ) (differs : Bool) → given ≡ first → text ≡ literal
    → differs ≡ not (bytes_eq given text) → differs ≡ false → first ≡ literal
same_word first given text literal differs same is tested none =
    let equal : bytes_eq given text ≡ true =
    ⊎_elim (λ (e : bytes_eq given text ≡ true). e)
    (λ (e : bytes_eq given text ≡ false). let wrong : false ≡ not false = sym none ∙ tested ∙ ap not e in absurd (cc))
    (cases_Bool (bytes_eq given text)) in
    sym same ∙ (bytes_eq-Decides given text).0 equal ∙ is

-- a first word that is the same as a text is that text
pub first_word : (words : List (List ℕ)) (first given text literal : List ℕ) (empty same : Bool)
    → empty ≡ (length words == 0) → empty ≡ false → first ≡ get_or words 0 first → given ≡ first → text ≡ literal
    → same ≡ bytes_eq given text → same ≡ true → slice_get words 0 ≡ Some literal
first_word [] first given text literal empty same counted some at is of tested equal =
    let wrong : false ≡ true = sym some ∙ counted in absurd (cc)
first_word (x ∷ xs) first given text literal empty same counted some at is of tested equal =
    ap (λ (w : List ℕ). Some w) (sym at ∙ sym is ∙ (bytes_eq-Decides given text).0 (sym tested ∙ equal) ∙ of)

-- two or three words are these
two_or_three : (words : List (List ℕ)) (first second : List ℕ) (third : Option (List ℕ)) → 2 ≤ length words
    → length words ≤ 3 → first ≡ get_or words 0 first → second ≡ get_or words 1 second → third ≡ slice_get words 2
    → words ≡ first ∷ second ∷ option_to_list third
two_or_three [] first second third least most a b c = absurd (omega arith)
two_or_three (x ∷ []) first second third least most a b c = absurd (omega arith)
two_or_three (x ∷ y ∷ []) first second third least most a b c = let is : third ≡ None = c in rw is (cc)
two_or_three (x ∷ y ∷ z ∷ []) first second third least most a b c = let is : third ≡ Some z = c in rw is (cc)
two_or_three (x ∷ y ∷ z ∷ w ∷ ws) first second third least most a b c = absurd (omega arith)

two_words : (words : List (List ℕ)) (first second : List ℕ) → length words ≡ 2 → first ≡ get_or words 0 first
    → second ≡ get_or words 1 second → words ≡ first ∷ second ∷ []
two_words [] first second count a b = absurd (omega arith)
two_words (x ∷ []) first second count a b = absurd (omega arith)
two_words (x ∷ y ∷ []) first second count a b = cc
two_words (x ∷ y ∷ z ∷ ws) first second count a b = absurd (omega arith)

-- and four
four_words : (words : List (List ℕ)) (first second third fourth : List ℕ) → length words ≡ 4 →
    first ≡ get_or words 0 first → second ≡ get_or words 1 second → third ≡ get_or words 2 third
    → fourth ≡ get_or words 3 fourth → words ≡ first ∷ second ∷ third ∷ fourth ∷ []
four_words [] first second third fourth count a b c d = absurd (omega arith)
four_words (x ∷ []) first second third fourth count a b c d = absurd (omega arith)
four_words (x ∷ y ∷ []) first second third fourth count a b c d = absurd (omega arith)
four_words (x ∷ y ∷ z ∷ []) first second third fourth count a b c d = absurd (omega arith)
four_words (x ∷ y ∷ z ∷ w ∷ []) first second third fourth count a b c d = cc
four_words (x ∷ y ∷ z ∷ w ∷ v ∷ vs) first second third fourth count a b c d = absurd (omega arith)

-- the words are `ask` and one or two more, where the first doesn't differ from it
pub spell_ask : (words : List (List ℕ)) (names : AskNames) (first second given ask : List ℕ) (third : Option (List ℕ))
    (differs : Bool) → 2 ≤ length words → length words ≤ 3 → first ≡ get_or words 0 first
    → second ≡ get_or words 1 second → third ≡ slice_get words 2 → names.policy ≡ second → names.keys ≡ third
    → given ≡ first → ask ≡ codes "ask" → differs ≡ not (bytes_eq given ask) → differs ≡ false
    → words ≡ codes "ask" ∷ ask_order names
spell_ask words names first second given ask third differs least most a b c policy keys same is tested none =
    two_or_three words first second third least most a b c
    ∙ ap (λ (w : List ℕ). w ∷ second ∷ option_to_list third)
    (same_word first given ask (codes "ask") differs same is tested none)
    ∙ ap (λ (w : List ℕ). codes "ask" ∷ w ∷ option_to_list third) (sym policy)
    ∙ ap (λ (k : Option (List ℕ)). codes "ask" ∷ names.policy ∷ option_to_list k) (sym keys)

-- the words are `check` and three more
pub spell_check : (words : List (List ℕ)) (names : CheckNames) (first second third fourth given check : List ℕ)
    (differs : Bool) → length words ≡ 4 → first ≡ get_or words 0 first → second ≡ get_or words 1 second
    → third ≡ get_or words 2 third → fourth ≡ get_or words 3 fourth → names.policy ≡ second → names.script ≡ third
    → names.reply ≡ fourth → given ≡ first → check ≡ codes "check" → differs ≡ not (bytes_eq given check)
    → differs ≡ false → words ≡ codes "check" ∷ in_order names
spell_check words names first second third fourth given check differs count a b c d policy script reply same is tested
    none =
    four_words words first second third fourth count a b c d
    ∙ ap (λ (w : List ℕ). w ∷ second ∷ third ∷ fourth ∷ [])
    (same_word first given check (codes "check") differs same is tested none)
    ∙ ap (λ (w : List ℕ). codes "check" ∷ w ∷ third ∷ fourth ∷ []) (sym policy)
    ∙ ap (λ (w : List ℕ). codes "check" ∷ names.policy ∷ w ∷ fourth ∷ []) (sym script)
    ∙ ap (λ (w : List ℕ). codes "check" ∷ names.policy ∷ names.script ∷ w ∷ []) (sym reply)

-- the words are `verify` and three more
pub spell_verify : (words : List (List ℕ)) (names : VerifyNames) (first second third fourth given verify : List ℕ)
    (differs : Bool) → length words ≡ 4 → first ≡ get_or words 0 first → second ≡ get_or words 1 second
    → third ≡ get_or words 2 third → fourth ≡ get_or words 3 fourth → names.policy ≡ second → names.script ≡ third
    → names.replies ≡ fourth → given ≡ first → verify ≡ codes "verify" → differs ≡ not (bytes_eq given verify)
    → differs ≡ false → words ≡ codes "verify" ∷ verify_order names
spell_verify words names first second third fourth given verify differs count a b c d policy script replies same is
    tested none =
    four_words words first second third fourth count a b c d
    ∙ ap (λ (w : List ℕ). w ∷ second ∷ third ∷ fourth ∷ [])
    (same_word first given verify (codes "verify") differs same is tested none)
    ∙ ap (λ (w : List ℕ). codes "verify" ∷ w ∷ third ∷ fourth ∷ []) (sym policy)
    ∙ ap (λ (w : List ℕ). codes "verify" ∷ names.policy ∷ w ∷ fourth ∷ []) (sym script)
    ∙ ap (λ (w : List ℕ). codes "verify" ∷ names.policy ∷ names.script ∷ w ∷ []) (sym replies)

-- the words are `follow` and one more
pub spell_follow : (words : List (List ℕ)) (name first second given follow : List ℕ) (differs : Bool)
    → length words ≡ 2 → first ≡ get_or words 0 first → second ≡ get_or words 1 second → name ≡ second
    → given ≡ first → follow ≡ codes "follow" → differs ≡ not (bytes_eq given follow) → differs ≡ false
    → words ≡ codes "follow" ∷ name ∷ []
spell_follow words name first second given follow differs count a b named same is tested none =
    two_words words first second count a b
    ∙ ap (λ (w : List ℕ). w ∷ second ∷ []) (same_word first given follow (codes "follow") differs same is tested none)
    ∙ ap (λ (w : List ℕ). codes "follow" ∷ w ∷ []) (sym named)
