-- What a stop of a command is: its status, and the line that tells it (keynoted's own).
use Rattle.std.specs.Prelude.{ℕ, List, ◌++◌, codes, decimal}
use Rattle.std.specs.Option.{unwrap_or}
use Rattle.kn_fields.specs.declared.fault.ReadFault.{ReadFault}
use Rattle.kn_fields.specs.Numbers.{fault_number, fault_place}
use Rattle.kn_history.specs.declared.fault.StoreFault.TheVariants as F
use Rattle.kn_load.specs.declared.fault.LoadFault.{LoadFault}
use Rattle.kn_load.specs.declared.fault.LoadFault.TheVariants as L
use Rattle.kn_reply.specs.declared.refusal.LimitWord.{LimitWord}
use Rattle.kn_reply.specs.declared.refusal.LimitWord.TheVariants as W
use Rattle.kn_reply.specs.Replies.{word_text}
use Rattle.kn_inputs.specs.declared.input_fault.InputFault.{InputFault}
use Rattle.kn_inputs.specs.declared.input_fault.InputFault.TheVariants.{Words, FileFailed, FileTooLarge, Policy, Limit}
use Rattle.kn_inputs.specs.declared.input_fault.InputFault.TheVariants.{KeyLine}
use Rattle.kn_inputs.specs.declared.input_fault.InputFault.TheVariants.{Memory}

-- what stops a command whose policy isn't loaded for this; a refusal that loading tells is one of the four limits
abbrev pub input_fault_of : LoadFault → InputFault
input_fault_of (L.Faulty n fault) = Policy n fault
input_fault_of (L.Full n (F.LiveFull count)) = Limit n W.Live count
input_fault_of (L.Full n (F.BytesFull bytes)) = Limit n W.LiveBytes bytes
input_fault_of (L.Full n (F.HistoryFull updates)) = Limit n W.Updates updates
input_fault_of (L.Full n (F.LogFull bytes)) = Limit n W.LogBytes bytes
input_fault_of (L.Full n refusal) = Memory
input_fault_of L.NoMemory = Memory

abbrev pub status_of : InputFault → ℕ
status_of Words = 1
status_of FileFailed = 2
status_of FileTooLarge = 2
status_of (Policy n fault) = 3
status_of (Limit n word count) = 3
status_of (KeyLine n) = 8
status_of Memory = 5

-- the line for a fault of the n-th assertion of a policy file; `NoMemory` has no number, and another line reports it
unfoldable pub policy_fault_line : List ℕ → ℕ → ReadFault → List ℕ
policy_fault_line name n fault =
    codes "error policy " ++ name ++ codes " " ++ decimal n ++ codes " " ++ decimal (unwrap_or (fault_number fault) 0)
    ++ codes " " ++ decimal (fault_place fault) ++ codes "\n"

-- the line that tells which limit refuses the n-th assertion of a policy file
unfoldable pub limit_line : List ℕ → ℕ → LimitWord → ℕ → List ℕ
limit_line name n word count =
    codes "error policy " ++ name ++ codes " " ++ decimal n ++ codes " limit " ++ word_text word ++ codes " "
    ++ decimal count ++ codes "\n"

-- the line that tells the first malformed line of a key file
unfoldable pub keys_line : ℕ → List ℕ
keys_line n = codes "error keys " ++ decimal n ++ codes "\n"

-- the line that is due, with the name of the file
abbrev pub input_fault_line : List ℕ → InputFault → List ℕ
input_fault_line name Words = codes "error words\n"
input_fault_line name FileFailed = codes "error file " ++ name ++ codes " read\n"
input_fault_line name FileTooLarge = codes "error file " ++ name ++ codes " large\n"
input_fault_line name (Policy n fault) = policy_fault_line name n fault
input_fault_line name (Limit n word count) = limit_line name n word count
input_fault_line name (KeyLine n) = keys_line n
input_fault_line name Memory = codes "error memory\n"
