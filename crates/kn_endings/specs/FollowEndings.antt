-- How following the log in a file ended: its status, and the line that tells it (keynoted's own).
use Rattle.std.specs.Prelude.{ℕ, List, ◌++◌, codes, decimal}
use Rattle.kn_inputs.specs.InputFaults.{input_fault_line}
use Rattle.kn_inputs.specs.declared.input_fault.InputFault.TheVariants as S
use Rattle.kn_endings.specs.declared.follow_ending.FollowEnding.{FollowEnding}
use Rattle.kn_endings.specs.declared.follow_ending.FollowEnding.TheVariants.{FileFailed, FileTooLarge, Memory}
use Rattle.kn_endings.specs.declared.follow_ending.FollowEnding.TheVariants.{Line, Gap, Refused, Followed}

abbrev pub status_of_follow : FollowEnding → ℕ
status_of_follow FileFailed = 2
status_of_follow FileTooLarge = 2
status_of_follow Memory = 5
status_of_follow (Line at) = 11
status_of_follow (Gap from have) = 11
status_of_follow (Refused place) = 11
status_of_follow (Followed version live) = 0

-- the line that tells how many updates the replica holds, and how many credentials of them are live
unfoldable pub followed_line : ℕ → ℕ → List ℕ
followed_line version live = codes "FOLLOW " ++ decimal version ++ codes " " ++ decimal live ++ codes "\n"

-- the line that tells the number and the place of a reply's fault
unfoldable pub log_line : ℕ → ℕ → List ℕ
log_line fault place = codes "error log " ++ decimal fault ++ codes " " ++ decimal place ++ codes "\n"

-- The line that is due. The place of a fault is the first byte at which a reply departs from its form, counted from its
-- own first byte; the number of updates that its client holds; or the place of an update in the history, from 1 on.
abbrev pub line_of_follow : List ℕ → FollowEnding → List ℕ
line_of_follow name FileFailed = input_fault_line name S.FileFailed
line_of_follow name FileTooLarge = input_fault_line name S.FileTooLarge
line_of_follow name Memory = codes "error memory\n"
line_of_follow name (Line at) = log_line 1 at
line_of_follow name (Gap from have) = log_line 2 from
line_of_follow name (Refused place) = log_line 3 place
line_of_follow name (Followed version live) = followed_line version live
