-- Reading step by step.
use Rattle.std.proofs.Common.{◌≡◌, ℕ, zero, suc, ◌-◌, ◌<◌, ◌≤◌, List, [], codes, Some, None, refl, sym, ap, arith}
use Rattle.kn_fields.specs.Words.{Word}
use Rattle.kn_fields.specs.Reading.{Read, map_read, then_read, behind_sign, tail_at, list_at, one_part, taken}
use Rattle.kn_fields.specs.Reading.{read_mark}
use Rattle.kn_fields.proofs.Steps.{Going, going_list, tail_step}
use Rattle.kn_trees.specs.declared.program.Expr.{Expr}
use Rattle.kn_trees.specs.declared.program.Expr.TheVariants as E
use Rattle.kn_trees.specs.declared.program.Link2.{Link2}
use Rattle.kn_trees.specs.declared.program.Operation.{Operation}
use Rattle.kn_trees.specs.declared.program.Clause.{Clause}
use Rattle.kn_trees.specs.declared.program.Then.TheVariants.{Top}
use Rattle.kn_program.specs.Signs.{joint_text, height, operation_of, comparison_of, prefix_of}
use Rattle.kn_program.specs.Trees.{joined, chained, with_prefix}
use Rattle.kn_program.specs.declared.signs.Joint.{Joint}
use Rattle.kn_program.specs.declared.signs.Joint.TheVariants.{Or, And}
use Rattle.kn_program.specs.declared.signs.Precedence.{Precedence}
use Rattle.kn_program.specs.declared.signs.Precedence.TheVariants.{Sum, Product, Power}
use Rattle.kn_program.specs.Reading.{one_link, atom_front, tests_at, negation_at, comparison_at, chain_at, operand_at}
use Rattle.kn_program.specs.Reading.{atom_at, test_at, more_tests_at, side_at, links_at, more_links_at, climb_at}
use Rattle.kn_program.specs.Reading.{first_at, entry_at, one_entry, with_entry, clause_with, value_after, program_at}
use Rattle.kn_program.specs.Reading.{clause_at}

one_less : (n : ℕ) → suc n - 1 ≡ n
one_less n = omega arith

-- tests with a joint between them: a first one, and where a joint stands behind it, the others
pub tests_step : (budget : ℕ) (joint : Joint) (words : List Word) → (budget ≡ 0 → ⊥) → tests_at budget joint words
    ≡ then_read (test_at (budget - 1) joint words) (λ first rest.
    behind_sign (read_mark (joint_text joint) rest) (Some (first, rest))
    (λ mark. more_tests_at (budget - 1) joint first))
unfolding tests_at list_at tail_at joined
tests_step zero joint words some = absurd (some refl)
tests_step (suc n) Or words some = simp one_less (grind arith)
tests_step (suc n) And words some = simp one_less (grind arith)

-- tests of which so much is read
abbrev pub Tests : Joint → ℕ → ℕ → List Expr → List Word → Read Expr → Type 0
Tests joint budget left parts words all =
    Going (read_mark (joint_text joint)) one_part (test_at budget joint) (joined joint) left tt parts words all

-- operands with operations of a level between them

chain_step : (budget : ℕ) (level : Precedence) (words : List Word)
    → chain_at budget level words ≡ then_read (side_at (budget - 1) level words) (links_at budget level)
unfolding chain_at list_at tail_at
chain_step zero level words = grind arith
chain_step (suc n) Sum words =
    ap (λ m. list_at (taken (operation_of Sum)) one_link chained (chain_at m Product) (suc n) words) (sym (one_less n))
chain_step (suc n) Product words =
    ap (λ m. list_at (taken (operation_of Product)) one_link chained (chain_at m Power) (suc n) words)
    (sym (one_less n))
chain_step (suc n) Power words =
    ap (λ m. list_at (taken (operation_of Power)) one_link chained (operand_at m) (suc n) words) (sym (one_less n))

-- a first operand, and the operations behind it
pub chain_is : (level : Precedence) (budget : ℕ) (words : List Word)
    → chain_at budget level words ≡ then_read (operand_at (budget - height level) words) (climb_at budget level)
chain_is Power budget words = chain_step budget Power words
chain_is Product budget words =
    let same : budget - 2 ≡ budget - 1 - 1 = omega arith in
    rw (chain_step budget Product words, chain_step (budget - 1) Power words, same) (grind arith)
chain_is Sum budget words =
    let same : budget - 3 ≡ budget - 1 - 1 - 1 = omega arith in
    rw (
      chain_step budget Sum words,
      chain_step (budget - 1) Product words,
      chain_step (budget - 1 - 1) Power words,
      same,
    ) (grind arith)

-- the operations of the tighter levels come first
pub climb_step : (budget : ℕ) (level : Precedence) (operand : Expr) (words : List Word)
    → climb_at budget level operand words
    ≡ then_read (first_at (budget - 1) level operand words) (links_at budget level)
climb_step budget Sum operand words = refl
climb_step budget Product operand words = refl
climb_step budget Power operand words = refl

-- a first side, and where an operation stands behind it, the others
pub links_step : (budget : ℕ) (level : Precedence) (first : Expr) (words : List Word) → 0 < budget
    → links_at budget level first words ≡ behind_sign (taken (operation_of level) words) (Some (first, words))
    (more_links_at (budget - 1) level first)
unfolding chained
links_step budget level first words some =
    grind (arith, tail_step (taken (operation_of level)) one_link (side_at (budget - 1) level) budget words some)

pub some_levels : (level : Precedence) → 0 < height level
some_levels Sum = omega arith
some_levels Product = omega arith
some_levels Power = omega arith

-- the links of which so much is read
abbrev pub Links : Precedence → Expr → ℕ → ℕ → Operation → List Link2 → List Word → Read Expr → Type 0
Links level first budget left sign links words all =
    Going (taken (operation_of level)) one_link (side_at budget level) (chained first) left sign links words all

-- an operand with no operation behind it
links_none : (budget : ℕ) (level : Precedence) (first : Expr) (words : List Word) → 0 < budget
    → None ≡ taken (operation_of level) words
    → links_at budget level first words ≡ Some (first, words)
links_none budget level first words some none = grind (arith, links_step budget level first words some)

pub climb_none : (level : Precedence) (budget : ℕ) (operand : Expr) (words : List Word) → height level ≤ budget
    → ((tier : Precedence) → height tier ≤ height level → None ≡ taken (operation_of tier) words)
    → climb_at budget level operand words ≡ Some (operand, words)
climb_none Power budget operand words enough ends =
    links_none budget Power operand words enough (ends Power (omega arith))
climb_none Product budget operand words enough ends =
    rw (links_none (budget - 1) Power operand words (omega (arith, enough)) (ends Power (omega arith)))
    (links_none budget Product operand words (omega (arith, enough)) (ends Product (omega arith)))
climb_none Sum budget operand words enough ends =
    rw (
      links_none (budget - 1 - 1) Power operand words (omega (arith, enough)) (ends Power (omega arith)),
      links_none (budget - 1) Product operand words (omega (arith, enough)) (ends Product (omega arith)),
    )
    (links_none budget Sum operand words (omega (arith, enough)) (ends Sum (omega arith)))

-- what each step reads, of which there are some

pub negation_step : (budget : ℕ) (words : List Word) → (budget ≡ 0 → ⊥)
    → negation_at budget words ≡ behind_sign (read_mark (codes "!") words) (comparison_at (budget - 1) words)
    (λ mark rest. map_read E.Not (negation_at (budget - 1) rest))
unfolding negation_at
negation_step zero words some = absurd (some refl)
negation_step (suc n) words some = simp one_less

pub comparison_step : (budget : ℕ) (words : List Word) → (budget ≡ 0 → ⊥) → comparison_at budget words
    ≡ then_read (chain_at (budget - 1) Sum words) (λ left rest.
    behind_sign (taken comparison_of rest) (Some (left, rest))
    (λ found behind. map_read (E.Compare found left) (chain_at (budget - 1) Sum behind)))
unfolding comparison_at
comparison_step zero words some = absurd (some refl)
comparison_step (suc n) words some = simp one_less

pub operand_step : (budget : ℕ) (words : List Word) → (budget ≡ 0 → ⊥)
    → operand_at budget words ≡ behind_sign (taken prefix_of words) (atom_at (budget - 1) words)
    (λ found rest. map_read (with_prefix found) (operand_at (budget - 1) rest))
unfolding operand_at
operand_step zero words some = absurd (some refl)
operand_step (suc n) words some = simp one_less

pub atom_step : (budget : ℕ) (words : List Word) → (budget ≡ 0 → ⊥)
    → atom_at budget words ≡ atom_front words (tests_at (budget - 1) Or)
unfolding atom_at
atom_step zero words some = absurd (some refl)
atom_step (suc n) words some = simp one_less

pub clause_step : (budget : ℕ) (words : List Word) → (budget ≡ 0 → ⊥) → clause_at budget words
    ≡ then_read (tests_at (budget - 1) Or words)
    (λ test rest. behind_sign (read_mark (codes "->") rest) (Some (clause_with test Top, rest)) (λ mark behind.
    map_read (clause_with test) (value_after behind (tests_at (budget - 1) Or) (program_at (budget - 1)))))
unfolding clause_at
clause_step zero words some = absurd (some refl)
clause_step (suc n) words some = simp one_less

-- programs

program_step : (budget : ℕ) (words : List Word)
    → program_at budget words ≡ list_at (read_mark (codes ";")) one_entry with_entry (entry_at (clause_at (budget - 1)))
    budget words
unfolding program_at list_at tail_at
program_step zero words = grind arith
program_step (suc n) words =
    ap (λ m. list_at (read_mark (codes ";")) one_entry with_entry (entry_at (clause_at m)) (suc n) words)
    (sym (one_less n))

-- clauses of which so much is read
abbrev pub Clauses : ℕ → ℕ → List Clause → List Word → List Word → Type 0
Clauses budget left list words all =
    Going (read_mark (codes ";")) one_entry (entry_at (clause_at (budget - 1))) (λ clauses. clauses) left tt list words
    (program_at budget all)

pub program_start : (budget : ℕ) (list : List Clause) (words : List Word) → list ≡ []
    → Clauses budget budget list words words
program_start budget list words none =
    rw (program_step budget words)
    (going_list (read_mark (codes ";")) one_entry (entry_at (clause_at (budget - 1))) (λ clauses. clauses) with_entry
    budget tt list words none (λ entry clauses. refl))

pub ruleset climbs = (climb_step, links_step, some_levels)
