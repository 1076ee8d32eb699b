use Rattle.std.proofs.Common.{◌≡◌, ◌≤◌, ℕ, List, codes, arith, if◌then◌else◌}
use Rattle.std.specs.Str.{bytes_eq}
use Rattle.kn_meaning.specs.Formulas.{Levels}
use Rattle.kn_meaning.specs.Equations.{round}
use Rattle.kn_meaning.specs.Examples.{question, direct_policy, cyclic_policy}
use Rattle.kn_meaning.proofs.Walks.{formula_level_who}
use Rattle.kn_meaning.proofs.worked.policy_levels.Goals as goal

pub returns-clause-granted : goal.returns-clause-granted
returns-clause-granted c at least =
    omega (arith, least.solves (codes "POLICY"), least.solves (codes "alice"), formula_level_who 1 at (codes "alice"))

pub returns-clause-denied : goal.returns-clause-denied
returns-clause-denied c at least =
    omega (arith, least.solves (codes "POLICY"), least.solves (codes "alice"), formula_level_who 1 at (codes "alice"))

-- all but the requester at 0
levels_above : Levels
levels_above name = if bytes_eq name (codes "c") then 1 else 0

no_rise : (name : List ℕ) → round (question (codes "c") cyclic_policy) levels_above name ≤ levels_above name
unfolding levels_above
no_rise name = grind (arith, formula_level_who 1 levels_above (codes "a"), formula_level_who 1 levels_above (codes "b"))

pub returns-clause-cycle : goal.returns-clause-cycle
unfolding levels_above
returns-clause-cycle c at least = omega (arith, least.least levels_above no_rise (codes "POLICY"))

-- alice and the policy at the top
levels_granted : Levels
levels_granted name = if bytes_eq name (codes "alice") then 1 else (if bytes_eq (codes "POLICY") name then 1 else 0)

granted_solves : (name : List ℕ) → round (question (codes "alice") direct_policy) levels_granted name
    ≡ levels_granted name
unfolding levels_granted
granted_solves name = grind (arith, formula_level_who 1 levels_granted (codes "alice"))

granted_below : (other : Levels)
    → ((name : List ℕ) → round (question (codes "alice") direct_policy) other name ≤ other name) → (name : List ℕ)
    → levels_granted name ≤ other name
unfolding levels_granted
granted_below other closed name =
    grind (arith, formula_level_who 1 other (codes "alice"), closed (codes "alice"), closed name)

pub returns-clause-some : goal.returns-clause-some
returns-clause-some c = (levels_granted, record { solves = granted_solves; least = granted_below })
