-- Where the policy keeps its level while assertions of a base come and go (keynoted's own).
use Rattle.std.specs.Prelude.{ℕ, ◌≡◌, Bool, List, length, slice_get}
use Rattle.std.specs.List.{Contains}
use Rattle.kn_env.specs.Environment.{Asked}
use Rattle.kn_meaning.specs.Equations.{Part, IsPolicyLevel, equations_over}
use Rattle.kn_rows.specs.BaseRows.{IsBaseOf}
use Rattle.kn_answer.specs.Based.{BaseView}
use Rattle.kn_answer.specs.Removed.{live_parts}

-- the flags are the same, but for those of these rows
abbrev pub AreSameBut : List ℕ → List Bool → List Bool → Type 0
AreSameBut rows old new = (i : ℕ) → (Contains rows i → ⊥) → slice_get old i ≡ slice_get new i

-- Whatever is asked, the policy has the same level over the assertions that were there as over those that are, where
-- only those of these rows came or went.
abbrev pub KeepsPolicyLevel : List ℕ → BaseView → Type 0
KeepsPolicyLevel rows base =
    (parts : List Part) → IsBaseOf parts base.names base.system
    → (old new : List Bool) → length old ≡ length parts → length new ≡ length parts → AreSameBut rows old new
    → (asked : Asked) (level : ℕ) → IsPolicyLevel (equations_over asked (live_parts parts old)) level
    → IsPolicyLevel (equations_over asked (live_parts parts new)) level
