-- How `serve` ended: its status, and the line that tells it (keynoted's own).
use Rattle.std.specs.Prelude.{ℕ, List, [], ◌++◌, codes, decimal, unwrap_or}
use Rattle.kn_words.specs.Orders.{Order}
use Rattle.kn_inputs.specs.InputFaults.{status_of, input_fault_line}
use Rattle.kn_workers.specs.declared.address.AddressEnding.{AddressEnding}
use Rattle.kn_workers.specs.declared.address.AddressEnding.TheVariants.{BindMemory, Unbound, WorkMemory, DoorFailed}
use Rattle.kn_workers.specs.declared.address.AddressEnding.TheVariants.{Served}
use Rattle.keynoted.specs.declared.serve_ending.ServeEnding.{ServeEnding}
use Rattle.keynoted.specs.declared.serve_ending.ServeEnding.TheVariants.{PolicyStopped, KeysStopped, Ended}

-- where an address was served, or was to be
abbrev pub status_of_address : AddressEnding → ℕ
status_of_address BindMemory = 5
status_of_address Unbound = 7
status_of_address WorkMemory = 5
status_of_address DoorFailed = 7
status_of_address (Served finished version) = 0

abbrev pub status_of_serve : ServeEnding → ℕ
status_of_serve (PolicyStopped stop) = status_of stop
status_of_serve (KeysStopped stop) = status_of stop
status_of_serve (Ended ending) = status_of_address ending

-- the line that tells how many connections were served, and the last version
unfoldable pub served_line : ℕ → ℕ → List ℕ
served_line finished version = codes "served " ++ decimal finished ++ codes " version " ++ decimal version ++ codes "\n"

-- the line that is due where an address was served, or was to be
abbrev pub line_of_address : AddressEnding → List ℕ
line_of_address BindMemory = codes "error memory\n"
line_of_address Unbound = codes "error listener\n"
line_of_address WorkMemory = codes "error memory\n"
line_of_address DoorFailed = codes "error listener\n"
line_of_address (Served finished version) = served_line finished version

-- the line that is due
abbrev pub line_of_serve : Order → ServeEnding → List ℕ
line_of_serve order (PolicyStopped stop) = input_fault_line order.files.policy stop
line_of_serve order (KeysStopped stop) = input_fault_line (unwrap_or order.files.keys []) stop
line_of_serve order (Ended ending) = line_of_address ending
