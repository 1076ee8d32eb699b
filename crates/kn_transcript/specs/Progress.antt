-- A transcript that is being verified, request by request.
use Rattle.std.specs.Prelude.{ℕ, ◌≡◌, ◌≢◌, ◌+◌, ⊤, Bool, true, false, ◌==◌, List, [], ◌∷◌, ◌++◌, length, All}
use Rattle.std.specs.Prelude.{count_by, Option, Some, None, Result, Ok, Err, if◌then◌else◌}
use Rattle.std.specs.List.{list_any}
use Rattle.kn_history.specs.declared.update.Update.{Update}
use Rattle.kn_wire.specs.Requests.{Request, AreRequests}
use Rattle.kn_wire.specs.Feeding.{Held, next_of}
use Rattle.kn_daemon.specs.Shapes.{shape_of}
use Rattle.kn_daemon.specs.Daemon.{State, first_state}
use Rattle.kn_daemon.specs.Played.{is_last}
use Rattle.kn_reply.specs.Replies.{Reply}
use Rattle.kn_reply_reader.specs.Texts.{HasText, BeginsWith, BeginsWithReply}
use Rattle.kn_play.specs.Playing.{IsFed, TakesRequest, IsSpent}
use Rattle.kn_transcript.specs.declared.fault.TranscriptFault.{TranscriptFault}
use Rattle.kn_transcript.specs.declared.fault.TranscriptFault.TheVariants as F
use Rattle.kn_transcript.specs.declared.progress.Progress.{Progress}
use Rattle.kn_transcript.specs.declared.verifying.Verified.{Verified}
use Rattle.kn_transcript.specs.Followed.{Answered, Follows, IsPermitted}
use Rattle.kn_transcript.specs.Accepted.{is_foreign, is_value, meant_of, requests_in, text_in}
use Rattle.kn_transcript.specs.Judging.{state_of, Takes}

-- the first byte is that of a reply that gives a value
abbrev pub begins_with_value : List ℕ → Bool
begins_with_value [] = false
begins_with_value (b ∷ left) = b == 86

-- so many replies gave a value, and perhaps one more
abbrev pub count_value : ℕ → Bool → ℕ
count_value n more = if more then n + 1 else n

-- A permitted reply to the request was taken.
pub record IsAnsweredBy (old : Progress) (request : Request) (new : Progress) : Type 0 where
  pub judged : is_foreign request ≡ false
  pub takes : Takes old.book (state_of old.connection) (shape_of request) old.left.now new.left.now new.book
      (state_of new.connection)
  pub values : new.answers ≡ count_value old.answers (is_value takes.reply)

-- what is amiss with bytes that begin with no permitted reply
abbrev pub IsMissed : List ℕ → ℕ → TranscriptFault → Type 0
IsMissed left number (F.Missing n) = (n ≡ number) × (left ≡ [])
IsMissed left number (F.Text n) = (n ≡ number) × (left ≢ []) × ¬ BeginsWithReply left
IsMissed left number (F.Wrong n) = (n ≡ number) × BeginsWithReply left
IsMissed left number (F.Rest at) = ⊥
IsMissed left number (F.Foreign n) = ⊥
IsMissed left number F.NoMemory = ⊥

-- no reply that is permitted stands at the front of the bytes
abbrev pub NoneIsPermitted : Progress → Request → Type 0
NoneIsPermitted old request = (reply : Reply) (new : State) → BeginsWith old.left.now reply
    → ¬ IsPermitted old.book (state_of old.connection) (shape_of request) reply new

-- The request of this number has this fault. When out of memory nothing is said.
abbrev pub IsFaultAt : Progress → Request → ℕ → TranscriptFault → Type 0
IsFaultAt old request number (F.Missing n) = (is_foreign request ≡ false) × IsMissed old.left.now number (F.Missing n)
IsFaultAt old request number (F.Text n) = (is_foreign request ≡ false) × IsMissed old.left.now number (F.Text n)
IsFaultAt old request number (F.Wrong n) =
    (is_foreign request ≡ false) × IsMissed old.left.now number (F.Wrong n) × NoneIsPermitted old request
IsFaultAt old request number (F.Rest at) = ⊥
IsFaultAt old request number (F.Foreign n) = (is_foreign request ≡ true) × (n ≡ number)
IsFaultAt old request number F.NoMemory = ⊤

-- the reply to the request of this number was judged
abbrev pub IsRequestJudged : {X : Type 0} → Progress → Request → ℕ → Progress → Result X TranscriptFault → Type 0
IsRequestJudged {X} old request number new (Ok done) = IsAnsweredBy old request new
IsRequestJudged {X} old request number new (Err fault) = IsFaultAt old request number fault

-- these bytes are left behind a reply
pub record IsBehindReply (old : Progress) (rest : List ℕ) (new : Progress) : Type 0 where
  pub book : new.book ≡ old.book
  pub connection : new.connection ≡ old.connection
  pub left : new.left.now ≡ rest
  pub values : new.answers ≡ count_value old.answers (begins_with_value old.left.now)

-- these bytes are left behind the reply that was found, or it is said what is amiss where none was
abbrev pub IsMovedOn : {X : Type 0} → Progress → Option (List ℕ) → ℕ → Progress → Result X TranscriptFault → Type 0
IsMovedOn {X} old None number new (Ok done) = ⊥
IsMovedOn {X} old None number new (Err fault) = IsMissed old.left.now number fault
IsMovedOn {X} old (Some rest) number new (Ok done) = IsBehindReply old rest new
IsMovedOn {X} old (Some rest) number new (Err fault) = ⊥

-- The next request was spent and its reply judged, if there is a whole one. The answer is whether it is the last.
abbrev pub IsNextJudged : ℕ → Progress → Held → Progress → Held → Result (Option Bool) TranscriptFault → Type 0
IsNextJudged number old held new after (Ok None) = (next_of held ≡ None) × (after ≡ held) × (new ≡ old)
IsNextJudged number old held new after (Ok (Some last)) =
    (request : Request) × (next_of held ≡ Some (request, after)) × (last ≡ is_last request)
    × IsAnsweredBy old request new
IsNextJudged number old held new after (Err fault) =
    (request : Request) × (next_of held ≡ Some (request, after)) × IsFaultAt old request number fault

-- the same of a script, of which these requests were taken before
abbrev pub IsNextOfScript : List ℕ → List Request → ℕ → Progress → ℕ → Held → Progress
    → Result (Option Bool) TranscriptFault → Type 0
IsNextOfScript script requests number old from held new (Ok None) = IsSpent script requests from held × (new ≡ old)
IsNextOfScript script requests number old from held new (Ok (Some last)) =
    (request : Request) × TakesRequest script requests from held request × (last ≡ is_last request)
    × IsAnsweredBy old request new
IsNextOfScript script requests number old from held new (Err fault) =
    (request : Request) × TakesRequest script requests from held request × IsFaultAt old request number fault

-- these requests are the first ones that a script means, and these are those behind them
pub record AreMeant (script : List ℕ) (requests behind : List Request) : Type 0 where
  pub all : List Request
  pub rest : List ℕ
  pub read : AreRequests script all rest
  pub cut : meant_of all ≡ requests ++ behind

-- So far these requests were answered, and this is what they came to.
pub record HasComeTo (past : List Update) (replies : List ℕ) (answered : List Answered) (progress : Progress)
    : Type 0 where
  pub judged : list_any is_foreign (requests_in answered) ≡ false
  pub texts : replies ≡ text_in answered ++ progress.left.now
  pub each : All (λ a. HasText a.reply) answered
  pub follows : Follows past first_state answered progress.book (state_of progress.connection)
  pub values : progress.answers ≡ count_by (λ a. is_value a.reply) answered

-- So many bytes of the script were fed, and none of the requests so far is the last.
pub record IsBeingVerified (past : List Update) (script replies : List ℕ) (from : ℕ) (held : Held)
    (answered : List Answered) (progress : Progress) : Type 0 where
  pub fed : IsFed script from held (requests_in answered)
  pub goes_on : list_any is_last (requests_in answered) ≡ false
  pub come : HasComeTo past replies answered progress

-- all requests are answered: what that comes to
abbrev pub IsConcluded : List ℕ → Progress → Result Verified TranscriptFault → Type 0
IsConcluded replies progress (Ok verified) =
    (progress.left.now ≡ []) × (verified.answers ≡ progress.answers) × (verified.version ≡ length progress.book)
IsConcluded replies progress (Err (F.Rest at)) =
    (progress.left.now ≢ []) × (at + length progress.left.now ≡ length replies)
IsConcluded replies progress (Err (F.Missing n)) = ⊥
IsConcluded replies progress (Err (F.Text n)) = ⊥
IsConcluded replies progress (Err (F.Wrong n)) = ⊥
IsConcluded replies progress (Err (F.Foreign n)) = ⊥
IsConcluded replies progress (Err F.NoMemory) = ⊥
