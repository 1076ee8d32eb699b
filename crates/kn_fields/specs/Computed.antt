-- The tokens of a text without a fault of its fields, or its first fault, computed. A law says that they are those
-- of the relations.
use Rattle.std.specs.Prelude.{ℕ, nat_lt, List, length, Option, Some, None, Result, Ok, Err, if◌then◌else◌}
use Rattle.kn_base.specs.declared.limits.TheConstants.{ASSERTION_BYTES}
use Rattle.kn_lex.specs.Cutting.{TokenView}
use Rattle.kn_lex.specs.Computed.{tokens_or_fault}
use Rattle.kn_lex.specs.declared.fault.LexFault.{LexFault}
use Rattle.kn_fields.specs.Faults.{of_lexical}
use Rattle.kn_fields.specs.Scanning.{fault_in}
use Rattle.kn_fields.specs.declared.fault.ReadFault.{ReadFault}
use Rattle.kn_fields.specs.declared.fault.ReadFault.TheVariants.{TooLong}

abbrev pub tokens_by : List TokenView → Option ReadFault → Result (List TokenView) ReadFault
tokens_by tokens None = Ok tokens
tokens_by tokens (Some fault) = Err fault

abbrev pub tokens_behind : Result (List TokenView) LexFault → Result (List TokenView) ReadFault
tokens_behind (Ok tokens) = tokens_by tokens (fault_in tokens)
tokens_behind (Err fault) = Err (of_lexical fault)

-- the tokens of a text whose fields are right, or its first fault
unfoldable pub fields_or_fault : List ℕ → Result (List TokenView) ReadFault
fields_or_fault text = if nat_lt ASSERTION_BYTES (length text) then Err (TooLong (length text)) else tokens_behind
    (tokens_or_fault text)
