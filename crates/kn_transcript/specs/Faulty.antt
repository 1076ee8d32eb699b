-- Why a transcript isn't accepted (keynoted's own).
use Rattle.std.specs.Prelude.{ℕ, ◌≡◌, ◌≢◌, ◌+◌, true, false, List, [], ◌∷◌, length}
use Rattle.kn_history.specs.declared.update.Update.{Update}
use Rattle.kn_wire.specs.Requests.{Request}
use Rattle.kn_reply.specs.Replies.{Reply}
use Rattle.kn_reply_reader.specs.Texts.{BeginsWith}
use Rattle.kn_daemon.specs.Shapes.{shape_of}
use Rattle.kn_daemon.specs.Daemon.{State}
use Rattle.kn_transcript.specs.declared.fault.TranscriptFault.{TranscriptFault}
use Rattle.kn_transcript.specs.declared.fault.TranscriptFault.TheVariants as F
use Rattle.kn_transcript.specs.Followed.{Answered, IsPermitted}
use Rattle.kn_transcript.specs.Accepted.{IsFollowed, is_foreign, text_in}

-- The requests before this one were answered. It has this number, counted from 1, and these bytes are left for it and
-- for those behind it.
pub record IsReached (past : List Update) (script replies : List ℕ) (request : Request) (number : ℕ)
    (left : List ℕ) : Type 0 where
  pub answered : List Answered
  pub others : List Request
  pub history : List Update
  pub state : State
  pub followed : IsFollowed past script replies answered (request ∷ others) left history state
  pub place : number ≡ length answered + 1

-- a request that a transcript judges is reached
pub record IsJudged (past : List Update) (script replies : List ℕ) (number : ℕ) (left : List ℕ) : Type 0 where
  pub request : Request
  pub reached : IsReached past script replies request number left
  pub judged : is_foreign request ≡ false

-- bytes are left for a request, and no text of a reply begins them
pub record HasNoText (past : List Update) (script replies : List ℕ) (number : ℕ) : Type 0 where
  pub left : List ℕ
  pub at : IsJudged past script replies number left
  pub some : left ≢ []
  pub none : (reply : Reply) → ¬ BeginsWith left reply

-- a text of a reply begins them, and that of none that is permitted
pub record IsWrong (past : List Update) (script replies : List ℕ) (number : ℕ) : Type 0 where
  pub left : List ℕ
  pub at : IsJudged past script replies number left
  pub some : (reply : Reply) × BeginsWith left reply
  pub none : (reply : Reply) (new : State) → BeginsWith left reply
      → ¬ IsPermitted at.reached.history at.reached.state (shape_of at.request) reply new

-- all requests that are meant are answered, and bytes are left behind so many
pub record HasRest (past : List Update) (script replies : List ℕ) (at : ℕ) : Type 0 where
  pub answered : List Answered
  pub left : List ℕ
  pub history : List Update
  pub state : State
  pub followed : IsFollowed past script replies answered [] left history state
  pub some : left ≢ []
  pub place : at ≡ length (text_in answered)

-- the request of this number is reached, and isn't judged
pub record IsForeign (past : List Update) (script replies : List ℕ) (number : ℕ) : Type 0 where
  pub request : Request
  pub left : List ℕ
  pub reached : IsReached past script replies request number left
  pub foreign_is : is_foreign request ≡ true

-- The first fault of a transcript. Of one request that isn't judged nothing else is said.
abbrev pub IsFaultyTranscript : List Update → List ℕ → List ℕ → TranscriptFault → Type 0
IsFaultyTranscript past script replies (F.Missing number) = IsJudged past script replies number []
IsFaultyTranscript past script replies (F.Text number) = HasNoText past script replies number
IsFaultyTranscript past script replies (F.Wrong number) = IsWrong past script replies number
IsFaultyTranscript past script replies (F.Rest at) = HasRest past script replies at
IsFaultyTranscript past script replies (F.Foreign number) = IsForeign past script replies number
IsFaultyTranscript past script replies F.NoMemory = ⊥
