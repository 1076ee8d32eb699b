-- For which earlier versions the policy has the level that it has over a later one (keynoted's own).
use Rattle.std.specs.Prelude.{ℕ, ◌≤◌, List, length, take}
use Rattle.kn_env.specs.Environment.{Asked}
use Rattle.kn_meaning.specs.Equations.{IsPolicyLevel, equations_over}
use Rattle.kn_history.specs.declared.update.Update.{Update}
use Rattle.kn_query.specs.SharedParts.{shared_parts}
use Rattle.kn_query.specs.declared.steady.Steady.{Steady}

-- whatever is asked, the policy has the level over the credentials of the later version that it has over those of the
-- earlier one
abbrev pub KeepsLevel : List Update → List Update → Type 0
KeepsLevel earlier later = (asked : Asked) (level : ℕ)
    → IsPolicyLevel (equations_over asked (shared_parts earlier)) level
    → IsPolicyLevel (equations_over asked (shared_parts later)) level

-- the number is one of those from the first to the last
abbrev pub Covers : Steady → ℕ → Type 0
Covers steady n = (steady.from ≤ n) × (n ≤ steady.to)

-- Over this version the policy has the level that it has over each of those.
pub record IsSteady (version : List Update) (steady : Steady) : Type 0 where
  pub within : steady.to ≤ length version
  pub keeps : (n : ℕ) → Covers steady n → KeepsLevel (take n version) version
