-- What later updates make of the credentials of a version (keynoted's own).
use Rattle.std.specs.Prelude.{ℕ, ◌≡◌, ◌<◌, ◌≤◌, Bool, not, List, [], ◌∷◌, filter, length, if◌then◌else◌}
use Rattle.std.specs.List.{AllByRecursion, list_any}
use Rattle.kn_history.specs.declared.update.Numbered.{Numbered}
use Rattle.kn_history.specs.History.{NumberedText, is_removal_of}
use Rattle.kn_answer.specs.Based.{BaseView}

-- one of these changes removes this id
abbrev pub is_removed_by : List Numbered → ℕ → Bool
is_removed_by changes id = list_any (λ c. is_removal_of id c.change c.id) changes

-- those of these credentials that none of these changes removes
abbrev pub without_removed : List Numbered → List NumberedText → List NumberedText
without_removed changes credentials = filter (λ c. not (is_removed_by changes c.id)) credentials

-- no id is above this
abbrev pub AreUpTo : ℕ → List NumberedText → Type 0
AreUpTo most credentials = AllByRecursion (λ c. c.id ≤ most) credentials

-- each id is above this
abbrev pub AreAbove : ℕ → List NumberedText → Type 0
AreAbove low credentials = AllByRecursion (λ c. low < c.id) credentials

-- those of these credentials whose flags say that they are still there
abbrev pub live_credentials : List NumberedText → List Bool → List NumberedText
live_credentials [] flags = []
live_credentials (c ∷ credentials) [] = []
live_credentials (c ∷ credentials) (flag ∷ flags) =
    if flag then c ∷ live_credentials credentials flags else live_credentials credentials flags

-- A base whose rows are of these credentials stays as it was, but that those are no more there which these changes
-- remove.
pub record FollowsRemovals (changes : List Numbered) (rows : List NumberedText) (old new : BaseView) : Type 0 where
  pub names : new.names ≡ old.names
  pub system : new.system ≡ old.system
  pub flags : length new.live ≡ length old.live
  pub live : live_credentials rows new.live ≡ without_removed changes (live_credentials rows old.live)
