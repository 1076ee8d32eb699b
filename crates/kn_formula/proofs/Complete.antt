-- What is spelled is read.
use Rattle.std.proofs.Common.{◌≡◌, ℕ, zero, suc, ◌+◌, ◌*◌, ◌≤◌, List, [], ◌∷◌, ◌++◌, length, codes, Some, None, refl}
use Rattle.std.proofs.Common.{arith, length-append}
use Rattle.kn_fields.specs.Words.{Word, itself}
use Rattle.kn_fields.specs.Reading.{taken, read_mark, named}
use Rattle.kn_fields.specs.Words.Word.{sign as sign_word}
use Rattle.kn_fields.proofs.Levels.{IsComplete, level_complete, closed_complete}
use Rattle.kn_formula.specs.Trees.{need_of}
use Rattle.kn_formula.specs.Grammar.{Form, Both, One, Forms, form_words, both_words, one_words, forms_words, form_parts}
use Rattle.kn_formula.specs.Grammar.{both_parts, one_tree, forms_parts, form_tree}
use Rattle.kn_formula.specs.Grammar.Form.{both, either}
use Rattle.kn_formula.specs.Grammar.Both.{one, each}
use Rattle.kn_formula.specs.Grammar.One.{group, literal, name, some_of}
use Rattle.kn_formula.specs.Grammar.Forms.{last, further}
use Rattle.kn_formula.specs.Reading.{parts_at, one_at}
use Rattle.kn_formula.specs.declared.written.Rule.TheVariants.{All, Any, AtLeast}
use Rattle.kn_formula.proofs.Lists.{both_tree, form_level, both_level, forms_level}
use Rattle.kn_formula.proofs.Sound.{list_tree}

-- a derivation has words
pub one_some : (o : One) → 1 ≤ length (one_words o)
unfolding one_words
one_some (group f) = omega arith
one_some (literal value) = omega arith
one_some (name text) = omega arith
one_some (some_of digits fs) = omega arith

pub both_some : (b : Both) → 1 ≤ length (both_words b)
unfolding both_words
both_some (one o) = one_some o
both_some (each o b) = omega (arith, one_some o, length-append (one_words o) (sign_word (codes "&&") ∷ both_words b))

pub form_some : (f : Form) → 1 ≤ length (form_words f)
unfolding form_words
form_some (both b) = both_some b
form_some (either b f) =
    omega (arith, both_some b, length-append (both_words b) (sign_word (codes "||") ∷ form_words f))

pub forms_some : (fs : Forms) → 1 ≤ length (forms_words fs)
unfolding forms_words
forms_some (last f) = form_some f
forms_some (further f fs) =
    omega (arith, form_some f, length-append (form_words f) (sign_word (codes ",") ∷ forms_words fs))

-- no part goes on with these words
abbrev StopsOne : List Word → Type 0
StopsOne rest = Unit {0}

abbrev StopsBoth : List Word → Type 0
StopsBoth rest = read_mark (codes "&&") rest ≡ None

abbrev pub StopsForm : List Word → Type 0
StopsForm rest = StopsBoth rest × (read_mark (codes "||") rest ≡ None)

pub nil_stops : StopsForm []
unfolding taken
nil_stops = (refl, refl)

or_stops : (words : List Word) → StopsBoth (sign_word (codes "||") ∷ words)
unfolding taken itself
or_stops words = refl

close_stops : (words : List Word) → StopsForm (sign_word (codes ")") ∷ words)
unfolding taken itself
close_stops words = (refl, refl)

comma_stops : (words : List Word) → StopsForm (sign_word (codes ",") ∷ words)
unfolding taken itself
comma_stops words = (refl, refl)

close_last : (words : List Word) → read_mark (codes ",") (sign_word (codes ")") ∷ words) ≡ None
unfolding taken itself
close_last words = refl

abbrev IsListComplete : ℕ → Type 0
IsListComplete n =
    (need : ℕ) (fs : Forms) (rest : List Word) → 3 * length (forms_words fs) + 1 ≤ n → StopsForm rest
    → read_mark (codes ",") rest ≡ None
    → parts_at n (AtLeast need) (forms_words fs ++ rest) ≡ Some (list_tree need fs, rest)

one_complete : (n : ℕ) → IsComplete 3 n 0 form_words form_tree StopsForm (parts_at n Any) → IsListComplete n
    → IsComplete 3 (suc n) 2 one_words one_tree StopsOne (one_at (suc n))
unfolding one_at one_words one_tree taken named itself
one_complete n form forms (group f) rest few stops =
    let size = length-append (form_words f) (sign_word (codes ")") ∷ []) in
    closed_complete (codes ")") (parts_at n Any) (form_words f) rest (form_tree f)
    (form f (sign_word (codes ")") ∷ rest) (omega (arith, few, size)) (close_stops rest))
one_complete n form forms (literal value) rest few stops = refl
one_complete n form forms (name text) rest few stops = refl
one_complete n form forms (some_of digits fs) rest few stops =
    let size = length-append (forms_words fs) (sign_word (codes ")") ∷ []) in
    closed_complete (codes ")") (parts_at n (AtLeast (need_of digits))) (forms_words fs) rest
    (list_tree (need_of digits) fs)
    (forms (need_of digits) fs (sign_word (codes ")") ∷ rest) (omega (arith, few, size)) (close_stops rest)
    (close_last rest))

mutual
  unfolding parts_at one_at form_words form_parts both_words both_parts forms_words forms_parts

  pub complete_form : (n : ℕ) → IsComplete 3 n 0 form_words form_tree StopsForm (parts_at n Any)
  complete_form zero d rest few stops = absurd (omega (arith, few, form_some d))
  complete_form (suc n) d rest few stops =
      level_complete form_level (parts_at n All) StopsBoth (suc n) d rest
      (λ i rest short stops. complete_both n i rest (omega (arith, few, short)) stops)
      (λ s rest fits. or_stops rest)
      (omega (arith, few, form_some d)) stops.0 stops.1

  complete_both : (n : ℕ) → IsComplete 3 n 1 both_words both_tree StopsBoth (parts_at n All)
  complete_both zero d rest few stops = absurd (omega (arith, few, both_some d))
  complete_both (suc n) d rest few stops =
      level_complete both_level (one_at n) StopsOne (suc n) d rest
      (λ i rest short stops. complete_one n i rest (omega (arith, few, short)) stops) (λ s rest fits. tt)
      (omega (arith, few, both_some d)) tt stops

  complete_one : (n : ℕ) → IsComplete 3 n 2 one_words one_tree StopsOne (one_at n)
  complete_one zero d rest few stops = absurd (omega (arith, few, one_some d))
  complete_one (suc n) d rest few stops = one_complete n (complete_form n) (complete_forms n) d rest few stops

  complete_forms : (n : ℕ) → IsListComplete n
  complete_forms zero need fs rest few stops alone = absurd (omega (arith, few))
  complete_forms (suc n) need fs rest few stops alone =
      level_complete (forms_level need) (parts_at n Any) StopsForm (suc n) fs rest
      (λ i rest short stops. complete_form n i rest (omega (arith, few, short)) stops)
      (λ s rest fits. comma_stops rest)
      (omega (arith, few)) stops alone
