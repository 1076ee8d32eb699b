-- Files that are read one after another before a transcript is verified.
use Rattle.std.proofs.Common.{ℕ, List, [], ◌∷◌, sym, subst}
use Rattle.kn_outside.specs.Seen.{FilesSeen}
use Rattle.kn_outside.specs.Asked.{HasAsked}
use Rattle.kn_files.specs.Pieces.{pieces_of}
use Rattle.kn_history.specs.declared.update.Update.{Update}
use Rattle.kn_history.specs.History.{loaded_history}
use Rattle.kn_inputs.specs.declared.input_fault.InputFault.{InputFault}
use Rattle.kn_inputs.specs.declared.input_fault.InputFault.TheVariants.{Words, FileFailed, FileTooLarge, Policy, Limit}
use Rattle.kn_inputs.specs.declared.input_fault.InputFault.TheVariants.{KeyLine}
use Rattle.kn_inputs.specs.declared.input_fault.InputFault.TheVariants.{Memory}
use Rattle.kn_words.specs.Names.{VerifyNames}
use Rattle.kn_inputs.specs.Held.{HasContent, IsPolicy}
use Rattle.kn_inputs.specs.Stopping.{IsUnread}
use Rattle.kn_commands.specs.Verifying.{StopsAtFile, IsTranscriptRead}
use Rattle.kn_inputs.proofs.Files.{content_there, too_large_there, keeps_content, asked_both, failed_behind}

-- all three files were read
pub transcript_read : (f mid last f' : FilesSeen) (names : VerifyNames) (bytes script replies : List ℕ)
    (Is : List Update → List ℕ → List ℕ → Type 0) → IsPolicy f names.policy bytes → HasAsked (names.policy ∷ []) f mid
    → HasAsked (names.script ∷ []) mid last → HasAsked (names.replies ∷ []) last f' → HasContent mid names.script script
    → HasContent last names.replies replies → Is (loaded_history (pieces_of bytes)) script replies
    → IsTranscriptRead f f' names Is
transcript_read f mid last f' names bytes script replies Is policy first second third content texts holds =
    let front : HasAsked (names.policy ∷ names.script ∷ []) f last =
    asked_both (names.policy ∷ []) (names.script ∷ []) f mid last first second in
    record {
      asked = asked_both (names.policy ∷ names.script ∷ []) (names.replies ∷ []) f last f' front third;
      bytes = bytes;
      policy = policy;
      script = script;
      script_is = content_there f mid names.script script (keeps_content (names.policy ∷ []) f mid first) content;
      replies = replies;
      replies_are =
          content_there f last names.replies replies
          (keeps_content (names.policy ∷ names.script ∷ []) f last front) texts;
      holds = holds;
    }
