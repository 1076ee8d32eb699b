-- The equations of a query (RFC 2704, section 5) over named principals, and their least solution.
use Rattle.std.specs.Prelude.{ℕ, ◌≡◌, ◌-◌, ◌≤◌, List, [], ◌∷◌, length, map, Bool, min, max, Option, Some, None}
use Rattle.std.specs.Prelude.{if◌then◌else◌}
use Rattle.std.specs.List.{list_any}
use Rattle.std.specs.Str.{bytes_eq}
use Rattle.kn_principal.specs.Principals.{policy}
use Rattle.kn_trees.specs.declared.formula.Formula.{Formula}
use Rattle.kn_trees.specs.declared.assertion.Assertion.{Assertion}
use Rattle.kn_env.specs.Environment.{Asked}
use Rattle.kn_cond.specs.Programs.{field_value}
use Rattle.kn_proof.specs.declared.named.Id.{Id}
use Rattle.kn_meaning.specs.Formulas.{Levels, formula_level}

-- an assertion of a query, by its id
pub record Part : Type 0 where
  pub id : Id
  pub assertion : Assertion

-- an assertion in a query, with the compliance value of its conditions there
pub record Statement : Type 0 where
  pub id : Id
  pub authorizer : List ℕ
  pub ceiling : ℕ
  pub licensees : Option Formula

-- what an assertion states in a query; a name in its conditions has the value of its own local constant first
abbrev pub statement_of : Asked → Part → Statement
statement_of asked part = record {
  id = part.id;
  authorizer = part.assertion.authorizer;
  ceiling = field_value (record { asked = asked; constants = part.assertion.constants }) part.assertion.conditions;
  licensees = part.assertion.licensees;
}

-- what a query asks: the greatest compliance value, who requests, and what is stated
pub record Equations : Type 0 where
  pub top : ℕ
  pub requesters : List (List ℕ)
  pub statements : List Statement

-- what is asked of these assertions
abbrev pub equations_over : Asked → List Part → Equations
equations_over asked parts = record {
  top = length asked.values - 1;
  requesters = asked.requesters;
  statements = map (statement_of asked) parts;
}

-- the level of an assertion's licensees; a missing field has the lowest
abbrev pub licensees_level : ℕ → Levels → Option Formula → ℕ
licensees_level top at None = 0
licensees_level top at (Some formula) = formula_level top at formula

-- what an assertion is worth: the lower of its conditions' and its licensees' value
abbrev pub worth : ℕ → Levels → Statement → ℕ
worth top at s = min s.ceiling (licensees_level top at s.licensees)

-- the highest worth among the assertions of which the principal is authorizer, and 0 where there is none
abbrev pub highest_worth : ℕ → Levels → List ℕ → List Statement → ℕ
highest_worth top at name [] = 0
highest_worth top at name (s ∷ ss) =
    max (if bytes_eq s.authorizer name then worth top at s else 0) (highest_worth top at name ss)

abbrev pub is_requester : Equations → List ℕ → Bool
is_requester e name = list_any (bytes_eq name) e.requesters

-- a requester has the top, and another principal the highest worth among the assertions of which it is authorizer
abbrev pub round : Equations → Levels → Levels
round e at name = if is_requester e name then e.top else highest_worth e.top at name e.statements

-- The least fixed point: the levels solve the equations, and are at or below all levels that a round does not raise. On
-- cycles the least solution is meant (keynoted's own choice).
pub record IsLeast (e : Equations) (at : Levels) : Type 0 where
  pub solves : (name : List ℕ) → round e at name ≡ at name
  pub least : (other : Levels) → ((name : List ℕ) → round e other name ≤ other name) → (name : List ℕ)
      → at name ≤ other name

-- the policy's level in the least fixed point is this
pub record IsPolicyLevel (e : Equations) (level : ℕ) : Type 0 where
  pub levels : Levels
  pub least : IsLeast e levels
  pub here : levels policy ≡ level
