-- The value of conditions is one of the compliance values.
use Rattle.std.proofs.Common.{◌≡◌, ℕ, zero, suc, ◌<◌, ◌≤◌, ◌⊎◌, true, false, cond, nat_lt, Option, None, Some, List, []}
use Rattle.std.proofs.Common.{◌∷◌, length, map, slice_index, sym, subst, inl, inr, arith}
use Rattle.std.specs.List.{position_or_len}
use Rattle.std.specs.Option.{option_map_or}
use Rattle.std.specs.Str.{bytes_eq}
use Rattle.std.proofs.lemmas.Bool.{cases_lt}
use Rattle.std.proofs.lemmas.Bool.Decides.{nat_tests}
use Rattle.kn_env.specs.Environment.{Environment}
use Rattle.kn_trees.specs.declared.program.Program.{Program, roll-Program}
use Rattle.kn_trees.specs.declared.program.Clause.{Clause, roll-Clause}
use Rattle.kn_trees.specs.declared.program.Then.{Then, roll-Then}
use Rattle.kn_trees.specs.declared.program.Then.TheOpen.{Program-F, Clause-F, Then-F}
use Rattle.kn_trees.specs.declared.program.Then.TheOpen.Then-F.{Top, Value, Block}
use Rattle.kn_trees.specs.declared.program.Then.TheFolds.{fold-roll-Then, fold-roll-Clause, fold-roll-Program}
use Rattle.kn_trees.specs.declared.program.Then.TheFolds.{ind-Program, map-Then, map-Clause, map-Program}
use Rattle.kn_cond.specs.Meaning.{Meaning, truth, text, meaning_of}
use Rattle.kn_cond.specs.Programs.{value_of, where_true, highest, then_step, clause_step, program_step, then_value}
use Rattle.kn_cond.specs.Programs.{clause_value, program_value, field_value}

value-within : (e : Environment) → 0 < length e.asked.values → (m : Meaning) → value_of e m < length e.asked.values
value-within e some (text name) =
    by (position_or_len (λ value. bytes_eq value name) e.asked.values)
    (cases_lt (position_or_len (λ value. bytes_eq value name) e.asked.values) (length e.asked.values))
  where
    by : (n : ℕ) → ((n < length e.asked.values) ⊎ (length e.asked.values ≤ n))
        → option_map_or (λ index. index) (cond (nat_lt n (length e.asked.values)) (Some n) None) 0
        < length e.asked.values
    by n (inl within) = let yes_now : nat_lt n (length e.asked.values) ≡ true = grind (arith, nat_tests) in
        subst (λ b. option_map_or (λ index. index) (cond b (Some n) None) 0 < length e.asked.values)
        (sym yes_now) within
    by n (inr past) = let not_now : nat_lt n (length e.asked.values) ≡ false = grind (arith, nat_tests) in
        subst (λ b. option_map_or (λ index. index) (cond b (Some n) None) 0 < length e.asked.values) (sym not_now) some
value-within e some m = some

true-within : (n : ℕ) → 0 < n → (m : Meaning) (value : ℕ) → value < n → where_true m value < n
true-within n some (truth true) value within = within
true-within n some m value within = some

highest-within : (n : ℕ) (values : List ℕ) → 0 < n → ((i : ℕ) → slice_index values i < n) → highest values < n
highest-within n [] some low = some
highest-within n (value ∷ values) some low =
    let first : value < n = low 0 in
    let rest : highest values < n = highest-within n values some (λ i. low (suc i)) in
    omega (arith, first, rest)

module _ (e : Environment) (some : 0 < length e.asked.values) where
  abbrev IsThen : Then → Type 0
  IsThen t = then_value e t < length e.asked.values

  abbrev IsClause : Clause → Type 0
  IsClause c = clause_value e c < length e.asked.values

  abbrev IsProgram : Program → Type 0
  IsProgram p = program_value e p < length e.asked.values

  then-roll : (x : Then-F Then Clause Program)
      → then_value e (roll-Then x)
      ≡ then_step e (map-Then Then Clause Program ℕ ℕ ℕ (then_value e) (clause_value e) (program_value e) x)
  unfolding then_value clause_value program_value
  then-roll x = fold-roll-Then ℕ ℕ ℕ (then_step e) (clause_step e) (program_step e) x

  clause-roll : (x : Clause-F Then Clause Program)
      → clause_value e (roll-Clause x)
      ≡ clause_step e (map-Clause Then Clause Program ℕ ℕ ℕ (then_value e) (clause_value e) (program_value e) x)
  unfolding then_value clause_value program_value
  clause-roll x = fold-roll-Clause ℕ ℕ ℕ (then_step e) (clause_step e) (program_step e) x

  program-roll : (x : Program-F Then Clause Program)
      → program_value e (roll-Program x)
      ≡ program_step e (map-Program Then Clause Program ℕ ℕ ℕ (then_value e) (clause_value e) (program_value e) x)
  unfolding then_value clause_value program_value
  program-roll x = fold-roll-Program ℕ ℕ ℕ (then_step e) (clause_step e) (program_step e) x

  clauses-within : (cs : List ((c : Clause) × IsClause c)) (i : ℕ)
      → slice_index (map (clause_value e) (map (λ c. c.0) cs)) i < length e.asked.values
  clauses-within [] i = some
  clauses-within (c ∷ cs) zero = c.1
  clauses-within (c ∷ cs) (suc i) = clauses-within cs i

  then-layer : (y : Then-F ((t : Then) × IsThen t) ((c : Clause) × IsClause c) ((p : Program) × IsProgram p))
      → then_step e (map-Then Then Clause Program ℕ ℕ ℕ (then_value e) (clause_value e) (program_value e)
      (map-Then ((t : Then) × IsThen t) ((c : Clause) × IsClause c) ((p : Program)
      × IsProgram p) Then Clause Program (λ x. x.0) (λ x. x.0) (λ x. x.0) y)) < length e.asked.values
  then-layer Top = omega (arith, some)
  then-layer (Value name) = value-within e some (meaning_of e name)
  then-layer (Block block) = block.1

  clause-layer : (y : Clause-F ((t : Then) × IsThen t) ((c : Clause) × IsClause c) ((p : Program) × IsProgram p))
      → clause_step e (map-Clause Then Clause Program ℕ ℕ ℕ (then_value e) (clause_value e) (program_value e)
      (map-Clause ((t : Then) × IsThen t) ((c : Clause) × IsClause c) ((p : Program)
      × IsProgram p) Then Clause Program (λ x. x.0) (λ x. x.0) (λ x. x.0) y)) < length e.asked.values
  clause-layer y = true-within (length e.asked.values) some (meaning_of e y.test) (then_value e y.then.0) y.then.1

  program-layer : (y : Program-F ((t : Then) × IsThen t) ((c : Clause) × IsClause c) ((p : Program) × IsProgram p))
      → program_step e
      (map-Program Then Clause Program ℕ ℕ ℕ (then_value e) (clause_value e) (program_value e)
      (map-Program ((t : Then) × IsThen t) ((c : Clause) × IsClause c) ((p : Program)
      × IsProgram p) Then Clause Program (λ x. x.0) (λ x. x.0) (λ x. x.0) y)) < length e.asked.values
  program-layer y = highest-within (length e.asked.values) _ some (clauses-within y.clauses)

  program-within : (p : Program) → IsProgram p
  program-within = ind-Program IsThen IsClause IsProgram
      (λ x y is. subst (λ z. IsThen (roll-Then z)) is
      (subst (λ n. n < length e.asked.values)
      (sym (then-roll (map-Then ((t : Then) × IsThen t) ((c : Clause) × IsClause c) ((p : Program)
      × IsProgram p) Then Clause Program (λ x. x.0) (λ x. x.0) (λ x. x.0) y))) (then-layer y)))
      (λ x y is. subst (λ z. IsClause (roll-Clause z)) is
      (subst (λ n. n < length e.asked.values)
      (sym (clause-roll (map-Clause ((t : Then) × IsThen t) ((c : Clause) × IsClause c) ((p : Program)
      × IsProgram p) Then Clause Program (λ x. x.0) (λ x. x.0) (λ x. x.0) y))) (clause-layer y)))
      (λ x y is. subst (λ z. IsProgram (roll-Program z)) is
      (subst (λ n. n < length e.asked.values)
      (sym (program-roll (map-Program ((t : Then) × IsThen t) ((c : Clause) × IsClause c) ((p : Program)
      × IsProgram p) Then Clause Program (λ x. x.0) (λ x. x.0) (λ x. x.0) y))) (program-layer y)))

  pub field_value-within : (conditions : Option Program) → field_value e conditions < length e.asked.values
  field_value-within None = omega (arith, some)
  field_value-within (Some program) = program-within program
