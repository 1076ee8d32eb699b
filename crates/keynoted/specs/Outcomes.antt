-- How a run of the program ends (keynoted's own): with one outcome, which has a status, a line and a cause.
use Rattle.std.specs.Prelude.{ℕ, ◌≡◌, true, false, List, codes, slice_get, All, Option, Some, None, IfSome, ◌⊎◌}
use Rattle.std.specs.Str.{IsUtf8}
use Rattle.kn_outside.specs.Seen.{FilesSeen, LinkSeen}
use Rattle.kn_outside.specs.Printing.{Writes}
use Rattle.kn_workers.specs.Connections.{ServedSeen}
use Rattle.kn_workers.specs.Doors.{DoorSeen}
use Rattle.kn_workers.specs.Nets.{NetSeen}
use Rattle.kn_words.specs.Names.{AskNames, CheckNames, VerifyNames}
use Rattle.kn_words.specs.Orders.{Order}
use Rattle.kn_endings.specs.AskEndings.{status_of_ask, line_of_ask}
use Rattle.kn_endings.specs.CheckEndings.{status_of_check, line_of_check}
use Rattle.kn_endings.specs.FollowEndings.{status_of_follow, line_of_follow}
use Rattle.keynoted.specs.ServeEndings.{status_of_serve, line_of_serve}
use Rattle.kn_endings.specs.VerifyEndings.{status_of_verify, line_of_verify}
use Rattle.kn_endings.specs.declared.ask_ending.AskEnding.{AskEnding}
use Rattle.kn_endings.specs.declared.check_ending.CheckEnding.{CheckEnding}
use Rattle.kn_endings.specs.declared.follow_ending.FollowEnding.{FollowEnding}
use Rattle.keynoted.specs.declared.serve_ending.ServeEnding.{ServeEnding}
use Rattle.kn_endings.specs.declared.verify_ending.VerifyEnding.{VerifyEnding}
use Rattle.kn_commands.specs.Asking.{AskCause}
use Rattle.kn_commands.specs.Checking.{CheckCause}
use Rattle.kn_commands.specs.Following.{FollowCause}
use Rattle.kn_commands.specs.Generating.{IsGenLine}
use Rattle.keynoted.specs.Serving.{ServeCause}
use Rattle.kn_commands.specs.Verifying.{VerifyCause}
use Rattle.kn_words.specs.declared.gen_words.GenNumbers.{GenNumbers}
use Rattle.kn_words.specs.Commands.{AskFor, CheckFor, FollowFor, GenFor, ServeFor, VerifyFor, IsNoCommand}

-- all that is seen of what a run is given: its files, its net, the link that `ask` serves, and the output for its line
pub record OutsideSeen (R : Type 0) : Type 0 where
  pub files : FilesSeen
  pub net : NetSeen R
  pub link : LinkSeen
  pub output : LinkSeen

-- How a run ends: the words were those of no command; memory ran out while those of `serve` were read; or a command
-- over these files or numbers ended so. `gen` made its line, or memory ran out.
pub data Outcome : Type 0 where
  NoCommand : Outcome
  WordsLackMemory : Outcome
  AskEnded : AskNames → AskEnding → Outcome
  ServeEnded : Order → ServeEnding → Outcome
  CheckEnded : CheckNames → CheckEnding → Outcome
  FollowEnded : List ℕ → FollowEnding → Outcome
  VerifyEnded : VerifyNames → VerifyEnding → Outcome
  GenEnded : GenNumbers → Option (List ℕ) → Outcome

-- the exit status
abbrev pub status_of : Outcome → ℕ
status_of NoCommand = 1
status_of WordsLackMemory = 5
status_of (AskEnded names ending) = status_of_ask ending
status_of (ServeEnded order ending) = status_of_serve ending
status_of (CheckEnded names ending) = status_of_check ending
status_of (FollowEnded name ending) = status_of_follow ending
status_of (VerifyEnded names ending) = status_of_verify ending
status_of (GenEnded numbers (Some line)) = 0
status_of (GenEnded numbers None) = 5

-- the line that tells it
abbrev pub line_of : Outcome → List ℕ
line_of NoCommand = codes "error words\n"
line_of WordsLackMemory = codes "error memory\n"
line_of (AskEnded names ending) = line_of_ask names ending
line_of (ServeEnded order ending) = line_of_serve order ending
line_of (CheckEnded names ending) = line_of_check names ending
line_of (FollowEnded name ending) = line_of_follow name ending
line_of (VerifyEnded names ending) = line_of_verify names ending
line_of (GenEnded numbers (Some line)) = line
line_of (GenEnded numbers None) = codes "error memory\n"

-- files, net and link are as they were
pub record IsUntouched {R : Type 0} (before after : OutsideSeen R) : Type 0 where
  pub files : after.files ≡ before.files
  pub net : after.net ≡ before.net
  pub link : after.link ≡ before.link

-- the words are those of which `clap` says what they ask: the first is `serve`, and all are UTF-8
pub record AreServeTexts (given : List (List ℕ)) : Type 0 where
  pub serve : slice_get given 0 ≡ Some (codes "serve")
  pub texts : All IsUtf8 given

-- the line was written whole, and the status is its own; or writing it failed, the status is 9 and a front of it stands
abbrev pub IsPrintedOrCut : List ℕ → ℕ → LinkSeen → LinkSeen → ℕ → Type 0
IsPrintedOrCut line due s s' status = ((status ≡ due) × Writes true line s s') ⊎ ((status ≡ 9) × Writes false line s s')

module _ {C R : Type 0} (door : R → DoorSeen (ServedSeen C)) (connection : C → LinkSeen)
    (given : List (List ℕ)) (before after : OutsideSeen R) where
  -- Why a run of these words has this outcome, and what it leaves of its files, its net and its link.
  abbrev pub IsOutcome : Outcome → Type 0
  IsOutcome NoCommand = IsNoCommand given × IsUntouched before after
  IsOutcome WordsLackMemory = AreServeTexts given × IsUntouched before after
  IsOutcome (AskEnded names ending) = AskFor given names
      × AskCause before.files after.files before.link after.link names ending × (after.net ≡ before.net)
  IsOutcome (ServeEnded order ending) = ServeFor given order
      × ServeCause door connection before.files after.files before.net after.net order ending
      × (after.link ≡ before.link)
  IsOutcome (CheckEnded names ending) = CheckFor given names
      × CheckCause before.files after.files names ending × (after.net ≡ before.net) × (after.link ≡ before.link)
  IsOutcome (FollowEnded name ending) = FollowFor given name
      × FollowCause before.files after.files name ending × (after.net ≡ before.net) × (after.link ≡ before.link)
  IsOutcome (VerifyEnded names ending) = VerifyFor given names
      × VerifyCause before.files after.files names ending × (after.net ≡ before.net) × (after.link ≡ before.link)
  IsOutcome (GenEnded numbers made) = GenFor given numbers
      × IfSome made (λ line. IsGenLine numbers line) × IsUntouched before after

  -- a run of these words ended: it had one outcome, whose line was printed, and whose status is its own
  pub record IsEnded (status : ℕ) : Type 0 where
    pub outcome : Outcome
    pub cause : IsOutcome outcome
    pub printed : IsPrintedOrCut (line_of outcome) (status_of outcome) before.output after.output status
