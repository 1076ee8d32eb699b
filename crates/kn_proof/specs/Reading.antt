-- Reading a `VALUE` reply: the parts that its text has, or its first fault (keynoted's own line protocol).
use Rattle.std.specs.Prelude.{ℕ, ◌≡◌, ◌≢◌, ◌≤◌, ◌<◌, ◌+◌, true, List, [], ◌∷◌, ◌++◌, length, codes, decimal, flat_map}
use Rattle.std.specs.Prelude.{All, Option, Some, None, ◌⊎◌}
use Rattle.kn_proof.specs.declared.named.Id.{Id}
use Rattle.kn_proof.specs.declared.named.Id.TheVariants.{Shared, Private}
use Rattle.kn_proof.specs.declared.named.NamedRow.{NamedRow}
use Rattle.kn_proof.specs.declared.reply.ReadReply.{ReadReply}
use Rattle.kn_proof.specs.Texts.{value_text}
use Rattle.kn_proof.specs.Texts.{row_text}
use Rattle.kn_proof.specs.declared.fault.ProofFault.{ProofFault}
use Rattle.kn_proof.specs.declared.fault.ProofFault.TheVariants.{Line, Number, Count, NoMemory}
use Rattle.kn_proof.specs.declared.header.Header.{Header}
use Rattle.kn_proof.specs.Lines.{HeaderTexts, IsHeaderForm, IsHeaderInRange, RowTexts, IsRowForm, IsRowInRange}
use Rattle.kn_proof.specs.Lines.{AreBytes, header_line, row_line, is_name}

abbrev pub id_number : Id → ℕ
id_number (Shared n) = n
id_number (Private n) = n

-- a row whose numbers are in the range of the reader
pub record IsReadRow (row : NamedRow) : Type 0 where
  pub value : row.value ≤ 255
  pub id : id_number row.id < 1000000000
  pub principal : AreBytes row.principal

-- The text is that of a reply of these parts. Its name and its numbers are in the range of the reader.
pub record IsReplyText (text : List ℕ) (reply : ReadReply) : Type 0 where
  pub spelled : text ≡ value_text reply.value reply.name reply.version reply.rows
  pub name : is_name reply.name ≡ true
  pub value : reply.value ≤ 255
  pub version : reply.version < 1000000000
  pub count : length reply.rows < 1000000000
  pub each : All IsReadRow reply.rows

-- what line 1 tells, where it tells these
abbrev pub header_of : ℕ → List ℕ → ℕ → ℕ → Header
header_of value name version count = record { value = value; name = name; version = version; count = count }

-- line 1 of a reply whose name and numbers are in range
abbrev pub header_text : Header → List ℕ
header_text header = codes "VALUE " ++ decimal header.value ++ 32 ∷ header.name ++ 32 ∷ decimal header.version ++ 32
    ∷ decimal header.count ++ 10 ∷ []

pub record IsHeader (header : Header) : Type 0 where
  pub name : is_name header.name ≡ true
  pub value : header.value ≤ 255
  pub version : header.version < 1000000000
  pub count : header.count < 1000000000

-- the text begins with a line 1 and ROW lines of the form and in range, and this is left
pub record IsReadTo (text : List ℕ) (header : Header) (rows : List NamedRow) (left : List ℕ) : Type 0 where
  pub spelled : text ≡ header_text header ++ flat_map row_text rows ++ left
  pub first : IsHeader header
  pub each : All IsReadRow rows

-- no line 1 of the form stands there
abbrev pub HasNoHeader : List ℕ → Type 0
HasNoHeader text = (texts : HeaderTexts) (rest : List ℕ) → IsHeaderForm texts → text ≢ header_line texts ++ rest

-- a line 1 of the form stands there, with a number that is out of range
pub record HasLargeHeader (text : List ℕ) : Type 0 where
  pub texts : HeaderTexts
  pub rest : List ℕ
  pub form : IsHeaderForm texts
  pub begins : text ≡ header_line texts ++ rest
  pub large : ¬ IsHeaderInRange texts

-- no ROW line of the form stands there
abbrev pub HasNoRow : List ℕ → Type 0
HasNoRow text = (texts : RowTexts) (rest : List ℕ) → IsRowForm texts → text ≢ row_line texts ++ rest

-- a ROW line of the form stands there, with a number that is out of range
pub record HasLargeRow (text : List ℕ) : Type 0 where
  pub texts : RowTexts
  pub rest : List ℕ
  pub form : IsRowForm texts
  pub begins : text ≡ row_line texts ++ rest
  pub large : ¬ IsRowInRange texts

-- the line END stands there, and this behind it
abbrev pub IsEnd : List ℕ → List ℕ → Type 0
IsEnd text rest = text ≡ codes "END\n" ++ rest

abbrev pub HasNoEnd : List ℕ → Type 0
HasNoEnd text = (rest : List ℕ) → ¬ IsEnd text rest

-- what is wrong with line 1
abbrev pub IsHeaderFault : List ℕ → ProofFault → Type 0
IsHeaderFault text (Line n) = (n ≡ 1) × HasNoHeader text
IsHeaderFault text (Number n) = (n ≡ 1) × HasLargeHeader text
IsHeaderFault text (Count n) = ⊥
IsHeaderFault text NoMemory = ⊥

-- What is wrong first in what is left behind a line 1 and so many ROW lines. Lines are counted from 1, so the next one
-- has the number of these rows and 2.
abbrev pub IsRowLinesFault : Header → ℕ → List ℕ → ProofFault → Type 0
IsRowLinesFault header rows left (Line n) =
    ((n ≡ rows + 2) × HasNoRow left × HasNoEnd left)
    ⊎ ((n ≡ rows + 3) × (rows ≡ header.count) × ((rest : List ℕ) × IsEnd left rest × (rest ≢ [])))
IsRowLinesFault header rows left (Number n) = (n ≡ rows + 2) × HasLargeRow left
IsRowLinesFault header rows left (Count n) = (n ≡ rows) × (rows ≢ header.count) × ((rest : List ℕ) × IsEnd left rest)
IsRowLinesFault header rows left NoMemory = ⊥

-- the lines before are of their forms, in range and at their places
pub record IsLaterFault (text : List ℕ) (fault : ProofFault) : Type 0 where
  pub header : Header
  pub rows : List NamedRow
  pub left : List ℕ
  pub before : IsReadTo text header rows left
  pub cause : IsRowLinesFault header (length rows) left fault

-- the first fault of a text, its lines being tried in order
abbrev pub IsFirstFault : List ℕ → ProofFault → Type 0
IsFirstFault text fault = IsHeaderFault text fault ⊎ IsLaterFault text fault

-- a reply with this value, this name and this version
pub record IsHeadOf (reply : ReadReply) (value : ℕ) (name : List ℕ) (version : ℕ) : Type 0 where
  pub tells_value : reply.value ≡ value
  pub tells_name : reply.name ≡ name
  pub tells_version : reply.version ≡ version

-- the text is that of such a reply
pub record HasHead (text : List ℕ) (value : ℕ) (name : List ℕ) (version : ℕ) : Type 0 where
  pub reply : ReadReply
  pub read : IsReplyText text reply
  pub head : IsHeadOf reply value name version

-- why a text isn't read: its first fault, or, for the text of a reply, out of memory
abbrev pub IsUnread : List ℕ → ProofFault → Type 0
IsUnread text fault = IsFirstFault text fault ⊎ ((fault ≡ NoMemory) × ((reply : ReadReply) × IsReplyText text reply))

-- the number of a fault; `NoMemory` has none
abbrev pub fault_number : ProofFault → Option ℕ
fault_number (Line n) = Some 1
fault_number (Number n) = Some 2
fault_number (Count n) = Some 3
fault_number NoMemory = None

-- the line of a fault, and for a wrong count the number of ROW lines
abbrev pub fault_line : ProofFault → Option ℕ
fault_line (Line n) = Some n
fault_line (Number n) = Some n
fault_line (Count n) = Some n
fault_line NoMemory = None
