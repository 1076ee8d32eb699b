-- What a base is for assertions: built without a query, it is the system of each query with the query's requesters and
-- ceilings (keynoted's own).
use Rattle.std.specs.Prelude.{ℕ, ◌≡◌, ◌-◌, ◌≤◌, Bool, List, [], ◌∷◌, length, map, take, if◌then◌else◌}
use Rattle.kn_env.specs.Environment.{Asked}
use Rattle.kn_meaning.specs.Equations.{Part, equations_over, statement_of}
use Rattle.kn_meaning.specs.Critical.{equation_nodes}
use Rattle.kn_system.specs.Equations.{SystemEquations, node_total}
use Rattle.kn_settle.specs.QuerySystem.{query_system}
use Rattle.kn_rows.specs.Numbering.{IsSystemOf}
use Rattle.kn_rows.specs.BaseRows.{AreNumbersOf, IsBaseOf}
use Rattle.kn_answer.specs.Removed.{capped_statement, capped_statements, kept_of, query_equations}

-- the names of a base's principals, each at its number, its system, and for each row whether its assertion is still
-- there
pub record BaseView : Type 0 where
  pub names : List (List ℕ)
  pub system : SystemEquations
  pub live : List Bool

-- The first principals of a base are those of another one, under their numbers, and its first rows are the other's.
pub record GoesOn (old new : BaseView) : Type 0 where
  pub names : take (length old.names) new.names ≡ old.names
  pub rows : take (length old.system.rows) new.system.rows ≡ old.system.rows

-- the ceilings of a base's rows in a query, 0 for those of assertions that were removed
abbrev pub ceilings_of : Asked → List Part → List Bool → List ℕ
ceilings_of asked parts live = map (λ k. (capped_statement k).ceiling) (kept_of asked parts live)

-- the values of the conditions of assertions in a query
abbrev pub condition_values : Asked → List Part → List ℕ
condition_values asked parts = map (λ part. (statement_of asked part).ceiling) parts

-- these values, but 0 for those of assertions that were removed
abbrev pub capped_values : List ℕ → List Bool → List ℕ
capped_values [] live = []
capped_values (value ∷ values) [] = []
capped_values (value ∷ values) (flag ∷ live) = (if flag then value else 0) ∷ capped_values values live

-- a base is the system of each query over its assertions
abbrev pub BasesStateQueries : Type 0
BasesStateQueries =
    (parts : List Part) (names : List (List ℕ)) (base : SystemEquations) → IsBaseOf parts names base
    → length names ≡ length base.requesters
    → (asked : Asked) (live : List Bool) (numbers : List ℕ) → 1 ≤ length asked.values → length live ≡ length parts
    → AreNumbersOf names asked.requesters numbers
    → IsSystemOf (query_equations (length asked.values - 1) asked.requesters
    (capped_statements (kept_of asked parts live))) names
    (query_system base (length asked.values) numbers (ceilings_of asked parts live))

-- and has the nodes of their formulas, whatever is asked
abbrev pub BasesHaveNodes : Type 0
BasesHaveNodes =
    (parts : List Part) (names : List (List ℕ)) (base : SystemEquations) → IsBaseOf parts names base
    → (asked : Asked) → node_total base.rows ≡ equation_nodes (equations_over asked parts)
