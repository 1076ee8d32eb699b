-- How checking a reply ended: its status, and the line that tells it (keynoted's own).
use Rattle.std.specs.Prelude.{ℕ, List, ◌++◌, codes, decimal}
use Rattle.kn_check.specs.declared.reject.Reject.{Reject}
use Rattle.kn_check.specs.Rejects.{reason_numbers}
use Rattle.kn_endings.specs.declared.check_ending.CheckEnding.{CheckEnding}
use Rattle.kn_endings.specs.declared.check_ending.CheckEnding.TheVariants.{Stopped, NoQuery, Faulty, Rejected, Proved}
use Rattle.kn_words.specs.Names.{CheckNames}
use Rattle.kn_words.specs.Sources.{name_of}
use Rattle.kn_inputs.specs.InputFaults.{input_fault_line, status_of}

abbrev pub status_of_check : CheckEnding → ℕ
status_of_check (Stopped source stop) = status_of stop
status_of_check NoQuery = 10
status_of_check (Faulty fault line) = 6
status_of_check (Rejected reject) = 6
status_of_check (Proved value name) = 0

-- the line that tells a fault in the text of a reply
unfoldable pub text_line : ℕ → ℕ → List ℕ
text_line fault line = codes "error proof text " ++ decimal fault ++ codes " " ++ decimal line ++ codes "\n"

-- the line that tells why rows are no proof
unfoldable pub reject_line : Reject → List ℕ
reject_line reject =
    codes "error proof reject " ++ decimal (reason_numbers reject).0 ++ codes " " ++ decimal (reason_numbers reject).1
    ++ codes " " ++ decimal (reason_numbers reject).2 ++ codes "\n"

unfoldable pub proved_line : ℕ → List ℕ → List ℕ
proved_line value name = codes "PROVED " ++ decimal value ++ codes " " ++ name ++ codes "\n"

-- the line that is due
abbrev pub line_of_check : CheckNames → CheckEnding → List ℕ
line_of_check names (Stopped source stop) = input_fault_line (name_of names source) stop
line_of_check names NoQuery = codes "error query\n"
line_of_check names (Faulty fault line) = text_line fault line
line_of_check names (Rejected reject) = reject_line reject
line_of_check names (Proved value name) = proved_line value name
