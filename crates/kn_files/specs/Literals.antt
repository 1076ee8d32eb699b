-- Where a literal goes on behind its items.
use Rattle.std.specs.Prelude.{Bool, true, false, ◌&&◌}
use Rattle.kn_lex.specs.Bytes.{is_white}
use Rattle.kn_lex.specs.Spelling.{Item, plain, escaped, joined}

-- whether white space goes on behind this item that an escaped newline leaves out; it did so before the item or not
abbrev pub leaves_out : Bool → Item → Bool
leaves_out before (plain byte) = before && is_white byte
leaves_out before (escaped byte) = false
leaves_out before (joined returned white) = true
