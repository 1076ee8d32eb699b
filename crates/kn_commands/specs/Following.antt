-- Why following the log in a file ends, and what it leaves (keynoted's own).
use Rattle.std.specs.Prelude.{ℕ, ◌≡◌, ◌⊎◌, List, [], ◌∷◌, length}
use Rattle.kn_outside.specs.Seen.{FilesSeen}
use Rattle.kn_outside.specs.Asked.{HasAsked, HasFailed}
use Rattle.kn_history.specs.declared.update.Update.{Update}
use Rattle.kn_history.specs.History.{credentials_of}
use Rattle.kn_follow.specs.declared.fault.FollowFault.{FollowFault}
use Rattle.kn_follow.specs.declared.fault.FollowFault.TheVariants as F
use Rattle.kn_follow.specs.Files.{IsLogFile, IsLogFault}
use Rattle.kn_endings.specs.declared.follow_ending.FollowEnding.{FollowEnding}
use Rattle.kn_endings.specs.declared.follow_ending.FollowEnding.TheVariants.{FileFailed, FileTooLarge, Memory}
use Rattle.kn_endings.specs.declared.follow_ending.FollowEnding.TheVariants.{Line, Gap, Refused, Followed}
use Rattle.kn_inputs.specs.Held.{IsTooLarge, IsFileRead}

-- The file was read, and its replies, applied one after the other to a replica that holds no update, make one of so
-- many updates, with so many live credentials.
pub record IsFollowed (f f' : FilesSeen) (name : List ℕ) (version live : ℕ) : Type 0 where
  pub log : List ℕ
  pub read : IsFileRead name f f' log
  pub replica : List Update
  pub follows : IsLogFile log replica
  pub updates : version ≡ length replica
  pub credentials : live ≡ length (credentials_of replica)

-- the file was read, and the first of its replies that isn't applied has this fault
pub record HasLogFault (f f' : FilesSeen) (name : List ℕ) (fault : FollowFault) : Type 0 where
  pub log : List ℕ
  pub read : IsFileRead name f f' log
  pub is : IsLogFault log fault

-- why `follow` ends so, and what it leaves of the files
abbrev pub FollowCause : FilesSeen → FilesSeen → List ℕ → FollowEnding → Type 0
FollowCause f f' name FileFailed = HasFailed (name ∷ []) f f'
FollowCause f f' name FileTooLarge = HasAsked (name ∷ []) f f' × IsTooLarge f name
FollowCause f f' name Memory = (f' ≡ f) ⊎ HasAsked (name ∷ []) f f'
FollowCause f f' name (Line at) = HasLogFault f f' name (F.Line at)
FollowCause f f' name (Gap from have) = HasLogFault f f' name (F.Gap from have)
FollowCause f f' name (Refused place) = HasLogFault f f' name (F.Refused place)
FollowCause f f' name (Followed version live) = IsFollowed f f' name version live
