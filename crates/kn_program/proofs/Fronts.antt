-- With which word an expression begins.
use Rattle.std.proofs.Common.{◌≡◌, ◌≤◌, true, length, arith, List, [], ◌∷◌, ◌++◌, codes, None, refl}
use Rattle.std.proofs.lemmas.List.{append_assoc}
use Rattle.kn_fields.specs.Words.{Word, itself}
use Rattle.kn_fields.specs.Reading.{taken, read_mark}
use Rattle.kn_program.specs.Signs.{prefix_of}
use Rattle.kn_program.specs.Grammar.{Or, And, Not, Cmp, Sum, Product, Power, Unary, Atom, or_words, and_words}
use Rattle.kn_program.specs.Grammar.{not_words, cmp_words, sum_words, product_words, power_words, unary_words}
use Rattle.kn_program.specs.Grammar.{atom_words}
use Rattle.kn_program.proofs.Derivations.{ands, either, nots, each, cmp, negated, sum, compared, product, added, power}
use Rattle.kn_program.proofs.Derivations.{multiplied, unary, raised, atom, signed, group}
use Rattle.kn_program.specs.Reading.{has_clause}
use Rattle.kn_program.specs.declared.signs.Prefix.TheVariants.{Minus, Number, Deref}

-- the words begin with neither `;` nor `}`, nor `{`
abbrev pub StartsTest : List Word → Type 0
StartsTest words = (has_clause words ≡ true) × (read_mark (codes "{") words ≡ None)

-- nor with `!`
abbrev pub StartsOperand : List Word → Type 0
StartsOperand words = StartsTest words × (read_mark (codes "!") words ≡ None)

mutual
  unfolding taken itself or_words and_words not_words cmp_words sum_words product_words power_words unary_words
      atom_words

  pub atom_starts : (a : Atom) (rest : List Word) → StartsOperand (atom_words a ++ rest)
  atom_starts (group o) rest = ((refl, refl), refl)
  atom_starts _ rest = ((refl, refl), refl)

  pub unary_starts : (u : Unary) (rest : List Word) → StartsOperand (unary_words u ++ rest)
  unary_starts (atom a) rest = atom_starts a rest
  unary_starts (signed Minus u) rest = ((refl, refl), refl)
  unary_starts (signed Number u) rest = ((refl, refl), refl)
  unary_starts (signed Deref u) rest = ((refl, refl), refl)

  pub power_starts : (p : Power) (rest : List Word) → StartsOperand (power_words p ++ rest)
  power_starts (unary u) rest = unary_starts u rest
  power_starts (raised u sign is p) rest = rw append_assoc (unary_starts u _)

  pub product_starts : (p : Product) (rest : List Word) → StartsOperand (product_words p ++ rest)
  product_starts (power p) rest = power_starts p rest
  product_starts (multiplied p sign is q) rest = rw append_assoc (power_starts p _)

  pub sum_starts : (s : Sum) (rest : List Word) → StartsOperand (sum_words s ++ rest)
  sum_starts (product p) rest = product_starts p rest
  sum_starts (added p sign is s) rest = rw append_assoc (product_starts p _)

  pub cmp_starts : (c : Cmp) (rest : List Word) → StartsOperand (cmp_words c ++ rest)
  cmp_starts (sum s) rest = sum_starts s rest
  cmp_starts (compared s sign t) rest = rw append_assoc (sum_starts s _)

  pub not_starts : (n : Not) (rest : List Word) → StartsTest (not_words n ++ rest)
  not_starts (cmp c) rest = (cmp_starts c rest).0
  not_starts (negated n) rest = (refl, refl)

  pub and_starts : (a : And) (rest : List Word) → StartsTest (and_words a ++ rest)
  and_starts (nots n) rest = not_starts n rest
  and_starts (each n a) rest = rw append_assoc (not_starts n _)

  pub or_starts : (o : Or) (rest : List Word) → StartsTest (or_words o ++ rest)
  or_starts (ands a) rest = and_starts a rest
  or_starts (either a o) rest = rw append_assoc (and_starts a _)

-- so there are some
pub starts_some : (words : List Word) → ((rest : List Word) → has_clause (words ++ rest) ≡ true) → 1 ≤ length words
starts_some [] starts = let none = starts [] in absurd (cc)
starts_some (word ∷ words) starts = omega arith

pub test_some : (words : List Word) → ((rest : List Word) → StartsTest (words ++ rest)) → 1 ≤ length words
test_some words starts = starts_some words (λ rest. (starts rest).0)

pub operand_some : (words : List Word) → ((rest : List Word) → StartsOperand (words ++ rest)) → 1 ≤ length words
operand_some words starts = test_some words (λ rest. (starts rest).0)

pub atom_no_prefix : (a : Atom) (rest : List Word) → taken prefix_of (atom_words a ++ rest) ≡ None
unfolding taken prefix_of atom_words
atom_no_prefix (group o) rest = refl
atom_no_prefix _ rest = refl
