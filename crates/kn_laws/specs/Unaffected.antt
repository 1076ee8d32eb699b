-- Whom a change of assertions can't affect (keynoted's own).
use Rattle.std.specs.Prelude.{ℕ, ◌≡◌, Bool, true, false, not, List, filter, All}
use Rattle.std.specs.List.{list_any}
use Rattle.std.specs.Str.{bytes_eq}
use Rattle.kn_env.specs.Environment.{Asked}
use Rattle.kn_principal.specs.Principals.{policy}
use Rattle.kn_meaning.specs.Equations.{Part, equations_over, IsPolicyLevel}
use Rattle.kn_meaning.specs.Occurring.{licensees_names}

-- if the assertion names an affected principal, its authorizer is affected
abbrev pub IsUserAffected : (List ℕ → Bool) → Part → Type 0
IsUserAffected affected part =
    (name : List ℕ) → list_any (bytes_eq name) (licensees_names part.assertion.licensees) ≡ true
    → affected name ≡ true → affected part.assertion.authorizer ≡ true

-- the assertions whose authorizers aren't affected
abbrev pub unaffected_parts : (List ℕ → Bool) → List Part → List Part
unaffected_parts affected parts = filter (λ part. not (affected part.assertion.authorizer)) parts

-- Where assertions change, but none whose authorizer isn't affected, and with a principal the authorizers of all
-- assertions that name it are affected, before and after, then an unaffected policy keeps its level.
abbrev pub UnaffectedKeepLevel : Type 0
UnaffectedKeepLevel =
    (asked : Asked) (affected : List ℕ → Bool) (old new : List Part)
    → All (IsUserAffected affected) old → All (IsUserAffected affected) new
    → unaffected_parts affected old ≡ unaffected_parts affected new → affected policy ≡ false
    → (level : ℕ) → IsPolicyLevel (equations_over asked old) level → IsPolicyLevel (equations_over asked new) level
