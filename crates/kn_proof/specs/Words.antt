-- What the reader cuts a reply into.
use Rattle.std.specs.Prelude.{ℕ, ◌≡◌, ◌≢◌, ◌+◌, false, ◌==◌, List, [], ◌∷◌, ◌++◌, length, codes, flat_map, All}
use Rattle.std.specs.List.{list_any}
use Rattle.kn_proof.specs.declared.named.Id.{Id}
use Rattle.kn_proof.specs.declared.named.NamedRow.{NamedRow}
use Rattle.kn_proof.specs.declared.reply.ReadReply.{ReadReply}
use Rattle.kn_proof.specs.Texts.{row_text, quoted_byte}
use Rattle.kn_proof.specs.declared.fault.ProofFault.{ProofFault}
use Rattle.kn_proof.specs.declared.fault.ProofFault.TheVariants.{Line, Number, Count, NoMemory}
use Rattle.kn_proof.specs.declared.header.Header.{Header}
use Rattle.kn_proof.specs.Lines.{HeaderTexts, header_line}
use Rattle.kn_proof.specs.Reading.{HasNoRow, HasLargeRow, IsReadRow, IsRowLinesFault}

-- words that end where the next byte of line 1 stands
pub record IsCutHeader (texts : HeaderTexts) : Type 0 where
  pub value : list_any (λ b. b == 32) texts.value ≡ false
  pub name : list_any (λ b. b == 32) texts.name ≡ false
  pub version : list_any (λ b. b == 32) texts.version ≡ false
  pub count : list_any (λ b. b == 10) texts.count ≡ false

-- the words of line 1, and what is behind it
pub record AreHeaderWords (text : List ℕ) (texts : HeaderTexts) (rest : List ℕ) : Type 0 where
  pub spelled : text ≡ header_line texts ++ rest
  pub cut : IsCutHeader texts

-- the front of a ROW line, to the quote before its principal
abbrev pub row_front : List ℕ → List ℕ → List ℕ
row_front value id = codes "ROW " ++ value ++ 32 ∷ id ++ codes " \""

-- words that end where the next space of a ROW line stands
pub record IsCutRow (value id : List ℕ) : Type 0 where
  pub cut_value : list_any (λ b. b == 32) value ≡ false
  pub cut_id : list_any (λ b. b == 32) id ≡ false

-- the words of a ROW line before its principal, and what is behind the quote
pub record AreRowWords (text value id rest : List ℕ) : Type 0 where
  pub spelled : text ≡ row_front value id ++ rest
  pub cut : IsCutRow value id

-- a row stands there, which tells this value and this id; this is behind the quote before its principal, and this
-- behind its line
pub record IsRowAt (text : List ℕ) (value : ℕ) (id : Id) (quoted rest : List ℕ) : Type 0 where
  pub row : NamedRow
  pub same_value : row.value ≡ value
  pub same_id : row.id ≡ id
  pub spelled : text ≡ row_text row ++ rest
  pub range : IsReadRow row
  pub closed : quoted ≡ flat_map quoted_byte row.principal ++ (codes "\"\n" ++ rest)

-- what is wrong with a ROW line of this number
abbrev pub IsRowLineFault : ℕ → List ℕ → ProofFault → Type 0
IsRowLineFault line text (Line n) = (n ≡ line) × HasNoRow text
IsRowLineFault line text (Number n) = (n ≡ line) × HasLargeRow text
IsRowLineFault line text (Count n) = ⊥
IsRowLineFault line text NoMemory = ⊥

-- what is wrong with the end of a reply of so many rows, where this stands behind the line END
abbrev pub IsEndFault : Header → ℕ → List ℕ → ProofFault → Type 0
IsEndFault header rows rest (Line n) = (n ≡ rows + 3) × (rows ≡ header.count) × (rest ≢ [])
IsEndFault header rows rest (Number n) = ⊥
IsEndFault header rows rest (Count n) = (n ≡ rows) × (rows ≢ header.count)
IsEndFault header rows rest NoMemory = ⊥

-- a reply of this line 1
pub record IsOfHeader (header : Header) (reply : ReadReply) : Type 0 where
  pub same_value : reply.value ≡ header.value
  pub same_name : reply.name ≡ header.name
  pub same_version : reply.version ≡ header.version
  pub same_count : length reply.rows ≡ header.count

-- the lines behind line 1 are those of this reply
pub record AreRowLines (header : Header) (lines : List ℕ) (reply : ReadReply) : Type 0 where
  pub of_header : IsOfHeader header reply
  pub spelled : lines ≡ flat_map row_text reply.rows ++ codes "END\n"
  pub each : All IsReadRow reply.rows

-- the lines behind line 1 are those of so many rows
pub record AreCountedLines (count : ℕ) (lines : List ℕ) : Type 0 where
  pub rows : List NamedRow
  pub counted : length rows ≡ count
  pub spelled : lines ≡ flat_map row_text rows ++ codes "END\n"
  pub each : All IsReadRow rows

-- rows stand at the front of these lines, and this is left
pub record AreRowsTo (lines : List ℕ) (rows : List NamedRow) (left : List ℕ) : Type 0 where
  pub spelled : lines ≡ flat_map row_text rows ++ left
  pub each : All IsReadRow rows

-- so many rows stand at the front of these lines, and this is left
pub record AreCountedTo (lines : List ℕ) (count : ℕ) (left : List ℕ) : Type 0 where
  pub rows : List NamedRow
  pub counted : length rows ≡ count
  pub to : AreRowsTo lines rows left

-- what is wrong first in the lines behind line 1
pub record IsFaultBehind (header : Header) (lines : List ℕ) (fault : ProofFault) : Type 0 where
  pub rows : List NamedRow
  pub left : List ℕ
  pub before : AreRowsTo lines rows left
  pub cause : IsRowLinesFault header (length rows) left fault
