-- Which status a run has, where its words, its files and its input are known (keynoted's own).
use Rattle.std.specs.Prelude.{ℕ, ◌≡◌, ◌≤◌, ◌<◌, List, length, Option, Some, None, IsSomeAnd, ◌⊎◌}
use Rattle.kn_base.specs.declared.limits.TheConstants.{FILE_BYTES}
use Rattle.kn_outside.specs.Seen.{FilesSeen, LinkSeen}
use Rattle.kn_outside.specs.Faults.{Rose}
use Rattle.kn_auth.specs.KeyFiles.{IsKeyFile}
use Rattle.kn_auth.specs.declared.key_file.KeyFile.{KeyFile}
use Rattle.kn_files.specs.Pieces.{pieces_of}
use Rattle.kn_follow.specs.Files.{IsLogFile}
use Rattle.kn_proof.specs.declared.reply.ReadReply.{ReadReply}
use Rattle.kn_proof.specs.Reading.{IsReplyText}
use Rattle.kn_session.specs.Sessions.{Session}
use Rattle.kn_history.specs.declared.update.Update.{Update}
use Rattle.kn_history.specs.History.{loaded_history}
use Rattle.kn_history.specs.Loading.{IsLoadable}
use Rattle.kn_meaning.specs.Proofs.{IsProof}
use Rattle.kn_daemon.specs.Daemon.{equations_of}
use Rattle.kn_play.specs.LastQueries.{Means}
use Rattle.kn_verify.specs.Verdicts.{IsReplyTo}
use Rattle.kn_serve.specs.Serving.{IsOrderly, IsFaultless}
use Rattle.kn_transcript.specs.Accepted.{IsAcceptedTranscript}
use Rattle.kn_words.specs.Names.{AskNames, CheckNames, VerifyNames}
use Rattle.kn_words.specs.Orders.{Order}
use Rattle.kn_words.specs.declared.gen_words.GenNumbers.{GenNumbers}
use Rattle.kn_words.specs.Commands.{AskFor, CheckFor, FollowFor, GenFor, ServeFor, VerifyFor}
use Rattle.keynoted.specs.Outcomes.{OutsideSeen, AreServeTexts}

-- the contents of the files are specified, and the file of this name has these bytes
abbrev pub Holds : FilesSeen → List ℕ → List ℕ → Type 0
Holds f name bytes = IsSomeAnd f.content (λ content_of. content_of name ≡ Some bytes)

-- and isn't too large
abbrev pub HoldsWithin : FilesSeen → List ℕ → List ℕ → Type 0
HoldsWithin f name bytes = Holds f name bytes × (length bytes ≤ FILE_BYTES)

-- and is too large
abbrev pub HoldsTooMuch : FilesSeen → List ℕ → List ℕ → Type 0
HoldsTooMuch f name bytes = Holds f name bytes × (FILE_BYTES < length bytes)

-- A file is tried: it is too large, which has status 2; or what it holds fails, which has this status; or what stands
-- behind it decides.
pub data FileCallsFor (f : FilesSeen) (name : List ℕ) (Fails : List ℕ → Type 0) (failed : ℕ)
    (On : List ℕ → ℕ → Type 0) (status : ℕ) : Type 0 where
  TooLarge : (bytes : List ℕ) → HoldsTooMuch f name bytes → status ≡ 2 → FileCallsFor f name Fails failed On status
  Failed : (bytes : List ℕ) → HoldsWithin f name bytes → Fails bytes → status ≡ failed
      → FileCallsFor f name Fails failed On status
  Passed : (bytes : List ℕ) → HoldsWithin f name bytes → On bytes status → FileCallsFor f name Fails failed On status

-- the file of this name is tried as a policy: it fails where its assertions make no history
abbrev pub PolicyCallsFor : FilesSeen → List ℕ → (List ℕ → ℕ → Type 0) → ℕ → Type 0
PolicyCallsFor f name On status = FileCallsFor f name (λ bytes. ¬ IsLoadable (pieces_of bytes)) 3
    (λ bytes next. IsLoadable (pieces_of bytes) × On bytes next) status

-- the file of this name is tried as a key file
abbrev pub KeysCallFor : FilesSeen → Option (List ℕ) → (ℕ → Type 0) → ℕ → Type 0
KeysCallFor f None On status = On status
KeysCallFor f (Some name) On status = FileCallsFor f name (λ text. (keys : KeyFile) → ¬ IsKeyFile text keys) 8
    (λ text next. (keys : KeyFile) × IsKeyFile text keys × On next) status

-- the files of `ask` are tried
abbrev pub AskCallsFor : FilesSeen → AskNames → (ℕ → Type 0) → ℕ → Type 0
AskCallsFor f names On status = PolicyCallsFor f names.policy (λ bytes next. KeysCallFor f names.keys On next) status

-- the text is that of a reply to the query, and its rows are a proof of its value
pub record IsTextOfProof (session : Session) (values : List (List ℕ)) (text : List ℕ) (reply : ReadReply) : Type 0 where
  pub read : IsReplyText text reply
  pub to_query : IsReplyTo (length session.pinned) values reply
  pub proof : IsProof (equations_of session values) reply.rows reply.value

-- the file of this name is tried as the reply to a query: a proof has status 0
abbrev pub ReplyCallsFor : FilesSeen → List ℕ → Session → List (List ℕ) → ℕ → Type 0
ReplyCallsFor f name session values status =
    FileCallsFor f name (λ text. (reply : ReadReply) → ¬ IsTextOfProof session values text reply) 6
    (λ text next. (reply : ReadReply) × IsTextOfProof session values text reply × (next ≡ 0)) status

-- over a policy of these bytes the script means no query
abbrev pub MeansNothing : List ℕ → List ℕ → Type 0
MeansNothing bytes script =
    (session : Session) (values : List (List ℕ)) → ¬ Means (loaded_history (pieces_of bytes)) script session values

-- the script is tried over a policy of these bytes: it fails where it means no query
abbrev pub ScriptCallsFor : FilesSeen → CheckNames → List ℕ → ℕ → Type 0
ScriptCallsFor f names bytes status = FileCallsFor f names.script (λ script. MeansNothing bytes script) 10
    (λ script next. (session : Session) × (values : List (List ℕ))
    × Means (loaded_history (pieces_of bytes)) script session values
    × ReplyCallsFor f names.reply session values next) status

-- the files of `check` are tried
abbrev pub CheckCallsFor : FilesSeen → CheckNames → ℕ → Type 0
CheckCallsFor f names status = PolicyCallsFor f names.policy (λ bytes next. ScriptCallsFor f names bytes next) status

-- the file of `follow` is tried: it fails where it isn't replies to LOG that make some replica
abbrev pub LogCallsFor : FilesSeen → List ℕ → ℕ → Type 0
LogCallsFor f name status = FileCallsFor f name (λ log. (replica : List Update) → ¬ IsLogFile log replica) 11
    (λ log next. (replica : List Update) × IsLogFile log replica × (next ≡ 0)) status

-- over a policy of these bytes the replies are those of an accepted transcript of the script
abbrev pub IsAccepted : List ℕ → List ℕ → List ℕ → Type 0
IsAccepted bytes script replies = (answers : ℕ) × (version : ℕ)
    × IsAcceptedTranscript (loaded_history (pieces_of bytes)) script replies answers version

-- the file of this name is tried as the replies to a script over a policy of these bytes: it fails where the transcript
-- isn't accepted
abbrev pub RepliesCallFor : FilesSeen → List ℕ → List ℕ → List ℕ → ℕ → Type 0
RepliesCallFor f name bytes script status = FileCallsFor f name (λ replies. ¬ IsAccepted bytes script replies) 12
    (λ replies next. IsAccepted bytes script replies × (next ≡ 0)) status

-- the script is tried over a policy of these bytes: each text is one, and none fails
abbrev pub TranscriptScriptCallsFor : FilesSeen → VerifyNames → List ℕ → ℕ → Type 0
TranscriptScriptCallsFor f names bytes status =
    FileCallsFor f names.script (λ script. ⊥) 12 (λ script next. RepliesCallFor f names.replies bytes script next)
    status

-- the files of `verify` are tried
abbrev pub TranscriptCallsFor : FilesSeen → VerifyNames → ℕ → Type 0
TranscriptCallsFor f names status =
    PolicyCallsFor f names.policy (λ bytes next. TranscriptScriptCallsFor f names bytes next) status

-- the link's input is specified and in order, and no call of the link failed
pub record IsOrderlyLink (o o' : LinkSeen) : Type 0 where
  pub input : List ℕ
  pub left : o.left ≡ Some input
  pub orderly : IsOrderly input
  pub faultless : IsFaultless o o'

-- no read of a file failed
abbrev pub NoReadFailed : FilesSeen → FilesSeen → Type 0
NoReadFailed f f' = ¬ Rose f.faults f'.faults

module _ {R : Type 0} (given : List (List ℕ)) (before after : OutsideSeen R) where
  -- The words call for this status: by the files that they name, which are tried in their order, and behind these by
  -- the link's input for `ask`, and where no call of the net failed for `serve`; `gen` needs nothing.
  pub data CallsFor (status : ℕ) : Type 0 where
    ByAsk : (names : AskNames) → AskFor given names → NoReadFailed before.files after.files
        → AskCallsFor before.files names (λ next. IsOrderlyLink before.link after.link × (next ≡ 0)) status
        → CallsFor status
    ByServe : (order : Order) → ServeFor given order → NoReadFailed before.files after.files
        → ¬ Rose before.net.faults after.net.faults
        → AskCallsFor before.files order.files (λ next. next ≡ 0) status → CallsFor status
    ByCheck : (names : CheckNames) → CheckFor given names → NoReadFailed before.files after.files
        → CheckCallsFor before.files names status → CallsFor status
    ByFollow : (name : List ℕ) → FollowFor given name → NoReadFailed before.files after.files
        → LogCallsFor before.files name status → CallsFor status
    ByVerify : (names : VerifyNames) → VerifyFor given names → NoReadFailed before.files after.files
        → TranscriptCallsFor before.files names status → CallsFor status
    ByGen : (numbers : GenNumbers) → GenFor given numbers → status ≡ 0 → CallsFor status

-- the run has this status, or memory ran out
abbrev pub EndsWith : ℕ → ℕ → Type 0
EndsWith due status = (status ≡ due) ⊎ (status ≡ 5)

-- words of no command end with status 1, or with 9 in its place; only those that `clap` reads may run out of memory
abbrev pub EndsRefused : List (List ℕ) → LinkSeen → LinkSeen → ℕ → Type 0
EndsRefused given s s' status =
    (status ≡ 1) ⊎ (((status ≡ 9) × Rose s.faults s'.faults) ⊎ ((status ≡ 5) × AreServeTexts given))
