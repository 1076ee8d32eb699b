-- How serving a link over a policy ended: its status, and the line that tells it (keynoted's own).
use Rattle.std.specs.Prelude.{ℕ, List, [], ◌++◌, codes, decimal}
use Rattle.std.specs.Option.{unwrap_or}
use Rattle.kn_daemon.specs.declared.ended.Ended.{Ended}
use Rattle.kn_daemon.specs.declared.ended.Ended.TheVariants as E
use Rattle.kn_words.specs.Names.{AskNames}
use Rattle.kn_inputs.specs.InputFaults.{status_of, input_fault_line}
use Rattle.kn_endings.specs.declared.ask_ending.AskEnding.{AskEnding}
use Rattle.kn_endings.specs.declared.ask_ending.AskEnding.TheVariants.{PolicyStopped, KeysStopped, Served}

abbrev pub status_of_ended : Ended → ℕ
status_of_ended E.Done = 0
status_of_ended E.Memory = 5
status_of_ended ended = 4

abbrev pub status_of_ask : AskEnding → ℕ
status_of_ask (PolicyStopped stop) = status_of stop
status_of_ask (KeysStopped stop) = status_of stop
status_of_ask (Served ended) = status_of_ended ended

-- the line that tells that the input ended while so many bytes of an unfinished request were held
unfoldable pub cut_line : ℕ → List ℕ
cut_line held = codes "error link cut " ++ decimal held ++ codes "\n"

-- the line that tells that a block of so many bytes was refused
unfoldable pub block_line : ℕ → List ℕ
block_line n = codes "error link block " ++ decimal n ++ codes "\n"

-- the line that tells how a connection ended; where it is done there is none
abbrev pub line_of_ended : Ended → List ℕ
line_of_ended E.Done = []
line_of_ended E.Memory = codes "error memory\n"
line_of_ended E.ReadFault = codes "error link read\n"
line_of_ended E.WriteFault = codes "error link write\n"
line_of_ended (E.Cut held) = cut_line held
line_of_ended (E.Block n) = block_line n
line_of_ended E.Budget = codes "error link budget\n"

-- the line that is due
abbrev pub line_of_ask : AskNames → AskEnding → List ℕ
line_of_ask names (PolicyStopped stop) = input_fault_line names.policy stop
line_of_ask names (KeysStopped stop) = input_fault_line (unwrap_or names.keys []) stop
line_of_ask names (Served ended) = line_of_ended ended
