-- The assertions without which the policy's level would be lower (keynoted's own).
use Rattle.std.specs.Prelude.{ℕ, ◌≡◌, ◌⊎◌, ◌<◌, Bool, true, false, ◌==◌, not, List, [], ◌∷◌, filter, sum_by, Option}
use Rattle.std.specs.Prelude.{Some, None}
use Rattle.std.specs.List.{list_any}
use Rattle.kn_env.specs.Environment.{Asked}
use Rattle.kn_trees.specs.declared.formula.Formula.{Formula}
use Rattle.kn_trees.specs.Formulas.{formula_nodes}
use Rattle.kn_proof.specs.declared.named.Id.{Id}
use Rattle.kn_proof.specs.declared.named.Id.TheVariants.{Shared, Private}
use Rattle.kn_proof.specs.declared.named.NamedRow.{NamedRow}
use Rattle.kn_meaning.specs.Equations.{Part, Equations, equations_over, IsPolicyLevel}

abbrev pub is_same_id : Id → Id → Bool
is_same_id (Shared a) (Shared b) = a == b
is_same_id (Shared a) (Private b) = false
is_same_id (Private a) (Shared b) = false
is_same_id (Private a) (Private b) = a == b

-- the others
abbrev pub without_part : Id → List Part → List Part
without_part id parts = filter (λ p. not (is_same_id p.id id)) parts

-- without the assertion of this id the policy's level is lower
pub record IsCritical (asked : Asked) (parts : List Part) (id : Id) : Type 0 where
  pub level : ℕ
  pub lower : ℕ
  pub least : IsPolicyLevel (equations_over asked parts) level
  pub least_without : IsPolicyLevel (equations_over asked (without_part id parts)) lower
  pub lowers : lower < level

-- of these assertions, in their order, just those of these ids are critical among all
abbrev pub AreCritical : Asked → List Part → List Part → List Id → Type 0
AreCritical asked parts [] ids = ids ≡ []
AreCritical asked parts (p ∷ ps) ids = (others : List Id) × AreCritical asked parts ps others
    × ((IsCritical asked parts p.id × (ids ≡ p.id ∷ others)) ⊎ ((IsCritical asked parts p.id → ⊥) × (ids ≡ others)))

-- a row of these names the assertion
abbrev pub is_row_by : List NamedRow → Id → Bool
is_row_by rows id = list_any (λ r. is_same_id r.id id) rows

-- How large a query is.

-- how many nodes a Licensees field has: a missing one is a list of no parts
abbrev pub licensees_nodes : Option Formula → ℕ
licensees_nodes None = 1
licensees_nodes (Some formula) = formula_nodes formula

-- the nodes of all formulas of a query
abbrev pub equation_nodes : Equations → ℕ
equation_nodes e = sum_by (λ s. licensees_nodes s.licensees) e.statements
