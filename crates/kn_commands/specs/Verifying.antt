-- Why verifying a transcript ends, and what it leaves (keynoted's own).
use Rattle.std.specs.Prelude.{ℕ, ◌≡◌, ◌⊎◌, List, [], ◌∷◌, ◌++◌}
use Rattle.kn_outside.specs.Seen.{FilesSeen}
use Rattle.kn_outside.specs.Asked.{HasAsked, HasFailed}
use Rattle.kn_files.specs.Pieces.{pieces_of}
use Rattle.kn_history.specs.declared.update.Update.{Update}
use Rattle.kn_history.specs.History.{loaded_history}
use Rattle.kn_transcript.specs.declared.fault.TranscriptFault.{TranscriptFault}
use Rattle.kn_transcript.specs.declared.fault.TranscriptFault.TheVariants as F
use Rattle.kn_transcript.specs.Accepted.{IsAcceptedTranscript}
use Rattle.kn_transcript.specs.Faulty.{IsFaultyTranscript}
use Rattle.kn_words.specs.Names.{VerifyNames, verify_order}
use Rattle.kn_inputs.specs.declared.input_fault.InputFault.{InputFault}
use Rattle.kn_inputs.specs.declared.input_fault.InputFault.TheVariants.{FileFailed, FileTooLarge, Memory}
use Rattle.kn_endings.specs.declared.verify_ending.VerifyEnding.{VerifyEnding}
use Rattle.kn_endings.specs.declared.verify_ending.VerifyEnding.TheVariants.{PolicyStopped, ScriptStopped}
use Rattle.kn_endings.specs.declared.verify_ending.VerifyEnding.TheVariants.{RepliesStopped, Faulty, Verified}
use Rattle.kn_inputs.specs.Inputs.{StopsAtPolicy}
use Rattle.kn_inputs.specs.Held.{HasContent, IsTooLarge, IsPolicy}

-- why reading a file stops a command, behind files of these names
abbrev pub StopsAtFile : FilesSeen → FilesSeen → List (List ℕ) → List ℕ → InputFault → Type 0
StopsAtFile f f' front name FileFailed = HasFailed (front ++ name ∷ []) f f'
StopsAtFile f f' front name FileTooLarge = HasAsked (front ++ name ∷ []) f f' × IsTooLarge f name
StopsAtFile f f' front name Memory = HasAsked front f f'
StopsAtFile f f' front name stop = ⊥

-- the policy file is a policy, and this stops the command at the script
pub record IsScriptStopped (f f' : FilesSeen) (names : VerifyNames) (stop : InputFault) : Type 0 where
  pub bytes : List ℕ
  pub policy : IsPolicy f names.policy bytes
  pub stops : StopsAtFile f f' (names.policy ∷ []) names.script stop

-- the script is read behind it, and this stops the command at the replies
pub record AreRepliesStopped (f f' : FilesSeen) (names : VerifyNames) (stop : InputFault) : Type 0 where
  pub bytes : List ℕ
  pub policy : IsPolicy f names.policy bytes
  pub script : List ℕ
  pub script_is : HasContent f names.script script
  pub stops : StopsAtFile f f' (names.policy ∷ names.script ∷ []) names.replies stop

-- The files were read: a policy, a script and its replies. This holds of them over the policy's history.
pub record IsTranscriptRead (f f' : FilesSeen) (names : VerifyNames)
    (Is : List Update → List ℕ → List ℕ → Type 0) : Type 0 where
  pub asked : HasAsked (verify_order names) f f'
  pub bytes : List ℕ
  pub policy : IsPolicy f names.policy bytes
  pub script : List ℕ
  pub script_is : HasContent f names.script script
  pub replies : List ℕ
  pub replies_are : HasContent f names.replies replies
  pub holds : Is (loaded_history (pieces_of bytes)) script replies

-- what is known of a transcript that isn't accepted: its fault, or that memory ran out
abbrev pub IsRefused : TranscriptFault → List Update → List ℕ → List ℕ → Type 0
IsRefused fault past script replies = (fault ≡ F.NoMemory) ⊎ IsFaultyTranscript past script replies fault

-- why `verify` ends so, and what it leaves of the files
abbrev pub VerifyCause : FilesSeen → FilesSeen → VerifyNames → VerifyEnding → Type 0
VerifyCause f f' names (PolicyStopped stop) = StopsAtPolicy f f' names.policy stop
VerifyCause f f' names (ScriptStopped stop) = IsScriptStopped f f' names stop
VerifyCause f f' names (RepliesStopped stop) = AreRepliesStopped f f' names stop
VerifyCause f f' names (Faulty fault) = IsTranscriptRead f f' names (IsRefused fault)
VerifyCause f f' names (Verified answers version) =
    IsTranscriptRead f f' names (λ past script replies. IsAcceptedTranscript past script replies answers version)
