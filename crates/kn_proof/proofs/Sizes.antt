-- How many bytes the rows of a reply take.
use Rattle.std.proofs.Common.{◌≡◌, ℕ, ◌+◌, ◌*◌, ◌<◌, ◌≤◌, true, not, ◌&&◌, ◌==◌, nat_le, List, [], ◌∷◌, length}
use Rattle.std.proofs.Common.{flat_map, All, length-append, arith}
use Rattle.std.specs.List.{list_all, list_any}
use Rattle.std.proofs.lemmas.Bool.{and_parts, leb-true}
use Rattle.kn_base.specs.declared.limits.TheConstants.{COMPLIANCE_VALUE_BYTES}
use Rattle.kn_env.specs.Values.{is_value_name}
use Rattle.std.proofs.lemmas.Fmt.{decimal_nonempty}
use Rattle.std.proofs.lemmas.List.Elements.{All-head, All-tail}
use Rattle.kn_proof.specs.declared.named.Id.{Id}
use Rattle.kn_proof.specs.declared.named.Id.TheVariants.{Shared, Private}
use Rattle.kn_proof.specs.declared.named.NamedRow.{NamedRow}
use Rattle.kn_proof.specs.declared.reply.ReadReply.{ReadReply}
use Rattle.kn_proof.specs.Texts.{id_text, row_text}
use Rattle.kn_proof.specs.Reading.{IsReadRow, IsReplyText, id_number}
use Rattle.kn_proof.specs.Lines.{is_name}

id_bytes : (id : Id) → id_number id < 1000000000 → 2 ≤ length (id_text id)
id_bytes (Shared n) small = let some = decimal_nonempty n (omega arith) in omega arith
id_bytes (Private n) small = let some = decimal_nonempty n (omega arith) in omega arith

name_bytes : (name : List ℕ) → is_name name ≡ true → 1 ≤ length name
name_bytes name form =
    let outer = and_parts (is_value_name name) (not (list_any (λ byte. byte == 44) name)) form in
    let inner = and_parts (nat_le 1 (length name) && nat_le (length name) COMPLIANCE_VALUE_BYTES)
    (list_all (λ byte. nat_le 33 byte && nat_le byte 126) name) outer.0 in
    let sized = and_parts (nat_le 1 (length name)) (nat_le (length name) COMPLIANCE_VALUE_BYTES) inner.0 in
    leb-true 1 (length name) sized.0

-- a row has at least the bytes of `ROW 0 a1 ""` and a newline
pub row_bytes : (row : NamedRow) → IsReadRow row → 12 ≤ length (row_text row)
row_bytes row is =
    let value = decimal_nonempty row.value (let v = is.value in omega arith) in
    let id = id_bytes row.id is.id in
    simp length-append (omega arith)

pub rows_bytes : (rows : List NamedRow) → All IsReadRow rows → 12 * length rows ≤ length (flat_map row_text rows)
rows_bytes [] each = omega arith
rows_bytes (row ∷ rows) each =
    let first = row_bytes row (All-head IsReadRow row rows each) in
    let rest = rows_bytes rows (All-tail IsReadRow row rows each) in
    rw length-append (omega arith)

-- and a reply those of its rows, and of `VALUE 0 x 0 0`, `END` and two newlines
pub reply_bytes : (text : List ℕ) (reply : ReadReply) → IsReplyText text reply
    → 12 * length reply.rows + 18 ≤ length text
reply_bytes text reply is =
    let rows = rows_bytes reply.rows is.each in
    let value = decimal_nonempty reply.value (let v = is.value in omega arith) in
    let version = decimal_nonempty reply.version (let v = is.version in omega arith) in
    let count = decimal_nonempty (length reply.rows) (let v = is.count in omega arith) in
    let name = name_bytes reply.name is.name in
    rw is.spelled (simp length-append (omega arith))
