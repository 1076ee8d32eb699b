-- What is spelled is read.
use Rattle.std.proofs.Common.{◌≡◌, ℕ, zero, suc, true, List, [], ◌∷◌, ◌++◌, codes, None, refl, arith, length-append}
use Rattle.std.proofs.lemmas.List.{append_assoc}
use Rattle.kn_trees.specs.declared.program.Comparison.{Comparison}
use Rattle.kn_trees.specs.declared.program.Comparison.TheVariants.{Eq}
use Rattle.kn_trees.specs.declared.program.Operation.{Operation}
use Rattle.kn_fields.specs.Words.{Word, itself}
use Rattle.kn_fields.specs.Reading.{taken, read_mark}
use Rattle.kn_fields.specs.Words.Word.{sign as sign_word}
use Rattle.kn_program.specs.Signs.{operation_text, operation_of, comparison_text, comparison_of, prefix_text, prefix_of}
use Rattle.kn_program.specs.Signs.{is_at}
use Rattle.kn_program.specs.Grammar.{or_words, and_words, not_words, cmp_words, sum_words, product_words, power_words}
use Rattle.kn_program.specs.Grammar.{unary_words, atom_words, or_parts, and_parts, not_tree, cmp_tree, sum_first}
use Rattle.kn_program.specs.Grammar.{sum_links, product_first, product_links, power_first, power_links, unary_tree}
use Rattle.kn_program.specs.Grammar.{atom_tree, or_tree}
use Rattle.kn_program.proofs.Derivations.{cmp, negated, sum, compared, atom, signed, group, literal, number, truth}
use Rattle.kn_program.proofs.Derivations.{name}
use Rattle.kn_program.specs.Reading.{tests_at, negation_at, comparison_at, chain_at, operand_at, atom_at}
use Rattle.kn_program.specs.declared.signs.Joint.TheVariants as joint
use Rattle.kn_program.specs.declared.signs.Precedence.TheVariants as level
use Rattle.kn_program.proofs.SignLemmas.{comparison_there, prefix_there}
use Rattle.kn_fields.proofs.Words.{taken_there, marked_there}
use Rattle.kn_fields.proofs.Levels.{IsComplete, level_complete, closed_complete}
use Rattle.kn_program.proofs.Fronts.{test_some, operand_some, atom_starts, unary_starts, power_starts, product_starts}
use Rattle.kn_program.proofs.Fronts.{sum_starts, cmp_starts, not_starts, and_starts, or_starts, atom_no_prefix}
use Rattle.kn_program.proofs.Lists.{and_tree, sum_tree, product_tree, power_tree, or_level, and_level, sum_level}
use Rattle.kn_program.proofs.Lists.{product_level, power_level}

-- no operand, power .. goes on with these words
abbrev pub StopsOperand : List Word → Type 0
StopsOperand rest = Unit {0}

abbrev pub StopsPower : List Word → Type 0
StopsPower rest = taken (operation_of level.Power) rest ≡ None

abbrev pub StopsProduct : List Word → Type 0
StopsProduct rest = StopsPower rest × (taken (operation_of level.Product) rest ≡ None)

abbrev pub StopsSum : List Word → Type 0
StopsSum rest = StopsProduct rest × (taken (operation_of level.Sum) rest ≡ None)

abbrev pub StopsCmp : List Word → Type 0
StopsCmp rest = StopsSum rest × (taken comparison_of rest ≡ None)

abbrev pub StopsAnd : List Word → Type 0
StopsAnd rest = StopsCmp rest × (read_mark (codes "&&") rest ≡ None)

abbrev pub StopsOr : List Word → Type 0
StopsOr rest = StopsAnd rest × (read_mark (codes "||") rest ≡ None)

product_stops : (s : Operation) (rest : List Word) → is_at level.Product s ≡ true
    → StopsPower (sign_word (operation_text s) ∷ rest)
unfolding taken operation_of
product_stops s rest e = grind arith

sum_stops : (s : Operation) (rest : List Word) → is_at level.Sum s ≡ true
    → StopsProduct (sign_word (operation_text s) ∷ rest)
unfolding taken operation_of
sum_stops s rest e = grind arith

comparison_stops : (s : Comparison) (rest : List Word) → StopsSum (sign_word (comparison_text s) ∷ rest)
unfolding taken operation_of
comparison_stops Eq rest = ((refl, refl), refl)
comparison_stops _ rest = ((refl, refl), refl)

and_stops : (rest : List Word) → StopsCmp (sign_word (codes "&&") ∷ rest)
unfolding taken operation_of comparison_of
and_stops rest = (((refl, refl), refl), refl)

or_stops : (rest : List Word) → StopsAnd (sign_word (codes "||") ∷ rest)
unfolding taken operation_of comparison_of itself
or_stops rest = ((((refl, refl), refl), refl), refl)

pub nil_stops : StopsOr []
unfolding taken
nil_stops = (((((refl, refl), refl), refl), refl), refl)

pub bracket_stops : (rest : List Word) → StopsOr (sign_word (codes ")") ∷ rest)
unfolding taken operation_of comparison_of itself
bracket_stops rest = (((((refl, refl), refl), refl), refl), refl)

pub arrow_stops : (rest : List Word) → StopsOr (sign_word (codes "->") ∷ rest)
unfolding taken operation_of comparison_of itself
arrow_stops rest = (((((refl, refl), refl), refl), refl), refl)

pub semicolon_stops : (rest : List Word) → StopsOr (sign_word (codes ";") ∷ rest)
unfolding taken operation_of comparison_of itself
semicolon_stops rest = (((((refl, refl), refl), refl), refl), refl)

pub brace_stops : (rest : List Word) → StopsOr (sign_word (codes "}") ∷ rest)
unfolding taken operation_of comparison_of itself
brace_stops rest = (((((refl, refl), refl), refl), refl), refl)

not_complete : (n : ℕ) → IsComplete 10 n 3 cmp_words cmp_tree StopsCmp (comparison_at n)
    → IsComplete 10 n 2 not_words not_tree StopsCmp (negation_at n)
    → IsComplete 10 (suc n) 2 not_words not_tree StopsCmp (negation_at (suc n))
unfolding negation_at not_words not_tree
not_complete n below same (cmp c) rest few stops = rw (cmp_starts c rest).1 (below c rest (omega (arith, few)) stops)
not_complete n below same (negated m) rest few stops =
    rw (marked_there (codes "!") (not_words m ++ rest), same m rest (omega (arith, few)) stops) refl

cmp_complete : (n : ℕ) → IsComplete 10 n 4 sum_words sum_tree StopsSum (chain_at n level.Sum)
    → IsComplete 10 (suc n) 3 cmp_words cmp_tree StopsCmp (comparison_at (suc n))
unfolding comparison_at cmp_words cmp_tree
cmp_complete n below (sum s) rest few stops = rw (below s rest (omega (arith, few)) stops.0, stops.1) refl
cmp_complete n below (compared s sign t) rest few stops =
    let size = length-append (sum_words s) (sign_word (comparison_text sign) ∷ sum_words t) in
    let left : List Word = sum_words t ++ rest in
    rw (
      append_assoc (sum_words s) (sign_word (comparison_text sign) ∷ sum_words t) rest,
      below s (sign_word (comparison_text sign) ∷ left) (omega (arith, few, size)) (comparison_stops sign left),
      taken_there comparison_of (comparison_text sign) left sign (comparison_there sign),
      below t rest (omega (arith, few, size)) stops.0,
    ) refl

unary_complete : (n : ℕ) → IsComplete 10 n 8 atom_words atom_tree StopsOperand (atom_at n)
    → IsComplete 10 n 7 unary_words unary_tree StopsOperand (operand_at n)
    → IsComplete 10 (suc n) 7 unary_words unary_tree StopsOperand (operand_at (suc n))
unfolding operand_at unary_words unary_tree
unary_complete n below same (atom a) rest few stops =
    rw (atom_no_prefix a rest) (below a rest (omega (arith, few)) stops)
unary_complete n below same (signed sign u) rest few stops =
    rw (
      taken_there prefix_of (prefix_text sign) (unary_words u ++ rest) sign (prefix_there sign),
      same u rest (omega (arith, few)) stops,
    ) refl

atom_complete : (n : ℕ) → IsComplete 10 n 0 or_words or_tree StopsOr (tests_at n joint.Or)
    → IsComplete 10 (suc n) 8 atom_words atom_tree StopsOperand (atom_at (suc n))
unfolding atom_at atom_words atom_tree
atom_complete n below (group o) rest few stops =
    let size = length-append (or_words o) (sign_word (codes ")") ∷ []) in
    rw (marked_there (codes "(") ((or_words o ++ sign_word (codes ")") ∷ []) ++ rest))
    (closed_complete (codes ")") (tests_at n joint.Or) (or_words o) rest (or_tree o)
    (below o (sign_word (codes ")") ∷ rest) (omega (arith, few, size)) (bracket_stops rest)))
atom_complete n below (literal value) rest few stops = refl
atom_complete n below (number digits value is) rest few stops = rw is refl
atom_complete n below (truth text value is) rest few stops = rw is refl
atom_complete n below (name text is) rest few stops = rw is refl

mutual
  unfolding tests_at negation_at comparison_at chain_at operand_at atom_at or_words or_parts and_words and_parts
      sum_words sum_first sum_links product_words product_first product_links power_words power_first power_links

  pub complete_or : (n : ℕ) → IsComplete 10 n 0 or_words or_tree StopsOr (tests_at n joint.Or)
  complete_or zero d rest few stops = absurd (omega (arith, few, test_some _ (or_starts d)))
  complete_or (suc n) d rest few stops =
      level_complete or_level (tests_at n joint.And) StopsAnd (suc n) d rest
      (λ i rest short stops. complete_and n i rest (omega (arith, few, short)) stops) (λ s rest fits. or_stops rest)
      (omega (arith, few, test_some _ (or_starts d))) stops.0 stops.1

  pub complete_and : (n : ℕ) → IsComplete 10 n 1 and_words and_tree StopsAnd (tests_at n joint.And)
  complete_and zero d rest few stops = absurd (omega (arith, few, test_some _ (and_starts d)))
  complete_and (suc n) d rest few stops =
      level_complete and_level (negation_at n) StopsCmp (suc n) d rest
      (λ i rest short stops. complete_not n i rest (omega (arith, few, short)) stops)
      (λ s rest fits. and_stops rest)
      (omega (arith, few, test_some _ (and_starts d))) stops.0 stops.1

  pub complete_not : (n : ℕ) → IsComplete 10 n 2 not_words not_tree StopsCmp (negation_at n)
  complete_not zero d rest few stops = absurd (omega (arith, few, test_some _ (not_starts d)))
  complete_not (suc n) d rest few stops = not_complete n (complete_cmp n) (complete_not n) d rest few stops

  pub complete_cmp : (n : ℕ) → IsComplete 10 n 3 cmp_words cmp_tree StopsCmp (comparison_at n)
  complete_cmp zero d rest few stops = absurd (omega (arith, few, operand_some _ (cmp_starts d)))
  complete_cmp (suc n) d rest few stops = cmp_complete n (complete_sum n) d rest few stops

  pub complete_sum : (n : ℕ) → IsComplete 10 n 4 sum_words sum_tree StopsSum (chain_at n level.Sum)
  complete_sum zero d rest few stops = absurd (omega (arith, few, operand_some _ (sum_starts d)))
  complete_sum (suc n) d rest few stops =
      level_complete sum_level (chain_at n level.Product) StopsProduct (suc n) d rest
      (λ i rest short stops. complete_product n i rest (omega (arith, few, short)) stops) sum_stops
      (omega (arith, few, operand_some _ (sum_starts d))) stops.0 stops.1

  pub complete_product : (n : ℕ) → IsComplete 10 n 5 product_words product_tree StopsProduct (chain_at n level.Product)
  complete_product zero d rest few stops = absurd (omega (arith, few, operand_some _ (product_starts d)))
  complete_product (suc n) d rest few stops =
      level_complete product_level (chain_at n level.Power) StopsPower (suc n) d rest
      (λ i rest short stops. complete_power n i rest (omega (arith, few, short)) stops) product_stops
      (omega (arith, few, operand_some _ (product_starts d))) stops.0 stops.1

  pub complete_power : (n : ℕ) → IsComplete 10 n 6 power_words power_tree StopsPower (chain_at n level.Power)
  complete_power zero d rest few stops = absurd (omega (arith, few, operand_some _ (power_starts d)))
  complete_power (suc n) d rest few stops =
      level_complete power_level (operand_at n) StopsOperand (suc n) d rest
      (λ i rest short stops. complete_unary n i rest (omega (arith, few, short)) stops) (λ s rest fits. tt)
      (omega (arith, few, operand_some _ (power_starts d))) tt stops

  pub complete_unary : (n : ℕ) → IsComplete 10 n 7 unary_words unary_tree StopsOperand (operand_at n)
  complete_unary zero d rest few stops = absurd (omega (arith, few, operand_some _ (unary_starts d)))
  complete_unary (suc n) d rest few stops = unary_complete n (complete_atom n) (complete_unary n) d rest few stops

  pub complete_atom : (n : ℕ) → IsComplete 10 n 8 atom_words atom_tree StopsOperand (atom_at n)
  complete_atom zero d rest few stops = absurd (omega (arith, few, operand_some _ (atom_starts d)))
  complete_atom (suc n) d rest few stops = atom_complete n (complete_or n) d rest few stops
