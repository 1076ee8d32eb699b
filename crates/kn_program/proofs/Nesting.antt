-- What the words of a derivation open and how many prefix signs stand in a row there, at each place.
use Rattle.std.proofs.Common.{◌≡◌, ℕ, ◌+◌, List, ◌∷◌, ◌++◌, [], codes, refl, ap, subst, ◌∙◌, arith}
use Rattle.kn_fields.specs.Words.{Word}
use Rattle.kn_fields.specs.Words.Word.{sign as sign_word}
use Rattle.kn_fields.proofs.Nesting.{word_run, Fits, after, Closes, IsPlain, closes_between, closes_group}
use Rattle.kn_trees.specs.declared.program.Comparison.{Comparison}
use Rattle.kn_trees.specs.declared.program.Operation.{Operation}
use Rattle.kn_program.specs.Signs.{operation_text, comparison_text, prefix_text}
use Rattle.kn_program.specs.Grammar.{Or, And, Not, Cmp, Sum, Product, Power, Unary, Atom, or_words, and_words}
use Rattle.kn_program.specs.Grammar.{not_words, cmp_words, sum_words, product_words, power_words, unary_words}
use Rattle.kn_program.specs.Grammar.{atom_words, Program, Entry, Clause, program_words, entry_words, clause_words}
use Rattle.kn_program.proofs.Derivations.{ands, either, nots, each, cmp, negated, sum, compared, product, added, power}
use Rattle.kn_program.proofs.Derivations.{multiplied, unary, raised, atom, signed, group, literal, number, truth, name}
use Rattle.kn_program.proofs.Derivations.{ends, goes_on, nothing, something, bare, valued, nested}
use Rattle.kn_program.specs.declared.signs.Prefix.{Prefix}

pub plain_operation : (sign : Operation) → IsPlain (sign_word (operation_text sign))
plain_operation sign depth = grind arith

pub plain_comparison : (sign : Comparison) → IsPlain (sign_word (comparison_text sign))
plain_comparison sign depth = grind arith

plain_prefix : (sign : Prefix) → IsPlain (sign_word (prefix_text sign))
plain_prefix sign depth = grind arith

prefix_run : (run : ℕ) (sign : Prefix) → word_run run (sign_word (prefix_text sign)) ≡ run + 1
prefix_run run sign = grind arith

-- behind a prefix sign the run is longer by one
pub fits_prefix : (depth run : ℕ) (sign : Prefix) (words : List Word)
    → Fits depth run (sign_word (prefix_text sign) ∷ words) → Fits depth (run + 1) words
unfolding Fits
fits_prefix depth run sign words fits =
    subst (λ run. Fits depth run words) (prefix_run run sign)
    (subst (λ depth. Fits depth (word_run run (sign_word (prefix_text sign))) words) (plain_prefix sign depth) fits.2)

pub fits_not : (depth run : ℕ) (words : List Word) → Fits depth run (sign_word (codes "!") ∷ words)
    → Fits depth (run + 1) words
unfolding Fits
fits_not depth run words fits = fits.2

mutual
  unfolding after or_words and_words not_words cmp_words sum_words product_words power_words unary_words atom_words

  pub or_closes : (o : Or) → Closes (or_words o)
  or_closes (ands a) = and_closes a
  or_closes (either a o) =
      closes_between (and_words a) (or_words o) (sign_word (codes "||")) (and_closes a) (λ depth. refl) (or_closes o)

  pub and_closes : (a : And) → Closes (and_words a)
  and_closes (nots n) = not_closes n
  and_closes (each n a) =
      closes_between (not_words n) (and_words a) (sign_word (codes "&&")) (not_closes n) (λ depth. refl) (and_closes a)

  pub not_closes : (n : Not) → Closes (not_words n)
  not_closes (cmp c) = cmp_closes c
  not_closes (negated n) = λ depth. not_closes n depth

  pub cmp_closes : (c : Cmp) → Closes (cmp_words c)
  cmp_closes (sum s) = sum_closes s
  cmp_closes (compared s sign t) =
      closes_between (sum_words s) (sum_words t) (sign_word (comparison_text sign)) (sum_closes s)
      (plain_comparison sign) (sum_closes t)

  pub sum_closes : (s : Sum) → Closes (sum_words s)
  sum_closes (product p) = product_closes p
  sum_closes (added p sign is s) =
      closes_between (product_words p) (sum_words s) (sign_word (operation_text sign)) (product_closes p)
      (plain_operation sign) (sum_closes s)

  pub product_closes : (p : Product) → Closes (product_words p)
  product_closes (power p) = power_closes p
  product_closes (multiplied p sign is q) =
      closes_between (power_words p) (product_words q) (sign_word (operation_text sign)) (power_closes p)
      (plain_operation sign) (product_closes q)

  pub power_closes : (p : Power) → Closes (power_words p)
  power_closes (unary u) = unary_closes u
  power_closes (raised u sign is p) =
      closes_between (unary_words u) (power_words p) (sign_word (operation_text sign)) (unary_closes u)
      (plain_operation sign) (power_closes p)

  pub unary_closes : (u : Unary) → Closes (unary_words u)
  unary_closes (atom a) = atom_closes a
  unary_closes (signed sign u) = λ depth. ap (λ depth. after depth (unary_words u)) (plain_prefix sign depth)
      ∙ unary_closes u depth

  pub atom_closes : (a : Atom) → Closes (atom_words a)
  atom_closes (group o) depth = closes_group depth (or_words o) (sign_word (codes ")")) (or_closes o) (omega arith)
  atom_closes (literal value) depth = refl
  atom_closes (number digits value is) depth = refl
  atom_closes (truth text value is) depth = refl
  atom_closes (name text is) depth = refl

mutual
  unfolding after program_words entry_words clause_words

  pub program_closes : (p : Program) → Closes (program_words p)
  program_closes (ends e) = entry_closes e
  program_closes (goes_on e p) =
      closes_between (entry_words e) (program_words p) (sign_word (codes ";")) (entry_closes e) (λ depth. refl)
      (program_closes p)

  pub entry_closes : (e : Entry) → Closes (entry_words e)
  entry_closes nothing = λ depth. refl
  entry_closes (something c) = clause_closes c

  pub clause_closes : (c : Clause) → Closes (clause_words c)
  clause_closes (bare test) = or_closes test
  clause_closes (valued test value) =
      closes_between (or_words test) (or_words value) (sign_word (codes "->")) (or_closes test) (λ depth. refl)
      (or_closes value)
  clause_closes (nested test p) =
      closes_between (or_words test) (sign_word (codes "{") ∷ (program_words p ++ sign_word (codes "}") ∷ []))
      (sign_word (codes "->")) (or_closes test) (λ depth. refl)
      (λ depth. closes_group depth (program_words p) (sign_word (codes "}")) (program_closes p) (omega arith))
