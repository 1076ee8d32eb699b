-- The principals of a query (RFC 2704, section 5): the policy, the requesters, and all that its assertions name.
use Rattle.std.specs.Prelude.{ℕ, List, [], ◌∷◌, ◌++◌, flat_map, Option, Some, None}
use Rattle.kn_principal.specs.Principals.{policy}
use Rattle.kn_trees.specs.declared.formula.Formula.{Formula}
use Rattle.kn_trees.specs.declared.formula.Formula.TheOpen.{Formula-F}
use Rattle.kn_trees.specs.declared.formula.Formula.TheOpen.Formula-F.{Who, All, Any, Threshold}
use Rattle.kn_trees.specs.declared.formula.Formula.TheFolds.{fold-Formula}
use Rattle.kn_meaning.specs.Equations.{Equations, Statement}

abbrev pub names_step : Formula-F (List (List ℕ)) → List (List ℕ)
names_step (Who name) = name ∷ []
names_step (All parts) = flat_map (λ names. names) parts
names_step (Any parts) = flat_map (λ names. names) parts
names_step (Threshold need parts) = flat_map (λ names. names) parts

-- the principals of a formula
unfoldable pub formula_names : Formula → List (List ℕ)
formula_names = fold-Formula (List (List ℕ)) names_step

abbrev pub licensees_names : Option Formula → List (List ℕ)
licensees_names None = []
licensees_names (Some formula) = formula_names formula

-- the principals of an assertion
abbrev pub statement_names : Statement → List (List ℕ)
statement_names s = s.authorizer ∷ licensees_names s.licensees

-- the policy, the requesters, and all that occur in the assertions
abbrev pub occurring : Equations → List (List ℕ)
occurring e = policy ∷ e.requesters ++ flat_map statement_names e.statements
