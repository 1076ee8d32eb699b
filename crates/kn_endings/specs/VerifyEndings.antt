-- How verifying a transcript ended: its status, and the line that tells it (keynoted's own).
use Rattle.std.specs.Prelude.{ℕ, List, ◌++◌, codes, decimal}
use Rattle.kn_transcript.specs.declared.fault.TranscriptFault.{TranscriptFault}
use Rattle.kn_transcript.specs.declared.fault.TranscriptFault.TheVariants as F
use Rattle.kn_words.specs.Names.{VerifyNames}
use Rattle.kn_inputs.specs.InputFaults.{status_of, input_fault_line}
use Rattle.kn_endings.specs.declared.verify_ending.VerifyEnding.{VerifyEnding}
use Rattle.kn_endings.specs.declared.verify_ending.VerifyEnding.TheVariants.{PolicyStopped, ScriptStopped}
use Rattle.kn_endings.specs.declared.verify_ending.VerifyEnding.TheVariants.{RepliesStopped, Faulty, Verified}

abbrev pub status_of_transcript : TranscriptFault → ℕ
status_of_transcript F.NoMemory = 5
status_of_transcript fault = 12

abbrev pub status_of_verify : VerifyEnding → ℕ
status_of_verify (PolicyStopped stop) = status_of stop
status_of_verify (ScriptStopped stop) = status_of stop
status_of_verify (RepliesStopped stop) = status_of stop
status_of_verify (Faulty fault) = status_of_transcript fault
status_of_verify (Verified answers version) = 0

-- the line that tells how many replies of the transcript give a value, and how many updates there are behind it
unfoldable pub verified_line : ℕ → ℕ → List ℕ
verified_line answers version = codes "VERIFIED " ++ decimal answers ++ codes " " ++ decimal version ++ codes "\n"

-- the line that tells the number and the place of a transcript's fault
unfoldable pub transcript_line : ℕ → ℕ → List ℕ
transcript_line fault place = codes "error transcript " ++ decimal fault ++ codes " " ++ decimal place ++ codes "\n"

-- The line of a fault. Its place is the number of the request, counted from 1, or how many bytes the replies to all
-- requests have.
abbrev pub line_of_transcript : TranscriptFault → List ℕ
line_of_transcript (F.Missing request) = transcript_line 1 request
line_of_transcript (F.Text request) = transcript_line 2 request
line_of_transcript (F.Wrong request) = transcript_line 3 request
line_of_transcript (F.Rest at) = transcript_line 4 at
line_of_transcript (F.Foreign request) = transcript_line 5 request
line_of_transcript F.NoMemory = codes "error memory\n"

-- the line that is due
abbrev pub line_of_verify : VerifyNames → VerifyEnding → List ℕ
line_of_verify names (PolicyStopped stop) = input_fault_line names.policy stop
line_of_verify names (ScriptStopped stop) = input_fault_line names.script stop
line_of_verify names (RepliesStopped stop) = input_fault_line names.replies stop
line_of_verify names (Faulty fault) = line_of_transcript fault
line_of_verify names (Verified answers version) = verified_line answers version
