-- Every text is that of a reply or has a first fault.
use Rattle.std.proofs.Common.{◌≡◌, ◌≢◌, ◌⊎◌, ℕ, suc, zero, ◌+◌, ◌<◌, ◌≤◌, ◌==◌, ◌||◌, true, false, List, [], ◌∷◌, ◌++◌}
use Rattle.std.proofs.Common.{length, codes, decimal, flat_map, refl, sym, ap, ◌∙◌, arith, inl, inr, append_assoc}
use Rattle.std.proofs.Common.{length-append}
use Rattle.std.specs.List.{list_any}
use Rattle.std.proofs.lemmas.Bool.{and_parts, cases_Bool, cases_eq, cases_lt, eqb-true, false≢true, or_cases}
use Rattle.std.proofs.lemmas.List.Elements.{All-cons, All-nil}
use Rattle.kn_base.specs.Decimal.{digits_value}
use Rattle.kn_proof.specs.declared.named.Id.{Id}
use Rattle.kn_proof.specs.declared.named.Id.TheVariants.{Shared, Private}
use Rattle.kn_proof.specs.declared.named.NamedRow.{NamedRow}
use Rattle.kn_proof.specs.declared.reply.ReadReply.{ReadReply}
use Rattle.kn_proof.specs.Texts.{id_text, row_text}
use Rattle.kn_proof.specs.declared.fault.ProofFault.{ProofFault}
use Rattle.kn_proof.specs.declared.fault.ProofFault.TheVariants.{Line, Number, Count}
use Rattle.kn_proof.specs.declared.header.Header.{Header}
use Rattle.kn_proof.specs.Lines.{HeaderTexts, IsHeaderForm, IsHeaderInRange, IsRowForm, IsRowInRange, IsSmall, RowTexts}
use Rattle.kn_proof.specs.Lines.{header_line, row_line, is_id, is_name, is_numeral}
use Rattle.kn_proof.specs.Reading.{HasLargeRow, HasNoEnd, HasNoHeader, HasNoRow, IsEnd, IsFirstFault, IsHeader}
use Rattle.kn_proof.specs.Reading.{IsHeaderFault, IsReplyText, IsReadRow, IsRowLinesFault, header_text, id_number}
use Rattle.kn_proof.specs.Words.{AreHeaderWords, AreRowLines, AreRowsTo, AreRowWords, IsFaultBehind}
use Rattle.kn_base.proofs.Cuts.{HasFront, IsCut, cut_or_none, front_or_none}
use Rattle.kn_proof.proofs.Lines.{front_words, header_words, no_count, no_header_form, no_id, no_name, no_quote}
use Rattle.kn_proof.proofs.Lines.{no_row_form, no_row_value, no_value, no_version, not_closed, row_of_words, row_words}
use Rattle.kn_proof.proofs.Numerals.{numeral_written, short_value}
use Rattle.kn_proof.proofs.Quotes.{unquoted_of}
use Rattle.kn_proof.proofs.WholeReplies.{fault_from, reply_from}

-- the words of a line 1, and what is behind it
record HasHeaderWords (text : List ℕ) : Type 0 where
  pub texts : HeaderTexts
  pub rest : List ℕ
  pub are : AreHeaderWords text texts rest

behind_version : (text : List ℕ) (front : HasFront (codes "VALUE ") text) (value : IsCut 32 front.rest)
    (name : IsCut 32 value.rest) (version : IsCut 32 name.rest)
    → IsCut 10 version.rest ⊎ (list_any (λ b. b == 10) version.rest ≡ false) → HasHeaderWords text ⊎ HasNoHeader text
behind_version text front value name version (inr none) =
    inr (no_count text front.rest value.word value.rest name.word name.rest version.word version.rest front.spelled
    value.spelled value.clean name.spelled name.clean version.spelled version.clean none)
behind_version text front value name version (inl count) =
    let texts : HeaderTexts =
    record { value = value.word; name = name.word; version = version.word; count = count.word } in
    let words : front.rest ≡ value.word ++ 32
    ∷ (name.word ++ 32 ∷ (version.word ++ 32 ∷ (count.word ++ 10 ∷ count.rest))) =
    value.spelled ∙ ap (λ (l : List ℕ). value.word ++ 32 ∷ l) (name.spelled
    ∙ ap (λ (l : List ℕ). name.word ++ 32 ∷ l) (version.spelled
    ∙ ap (λ (l : List ℕ). version.word ++ 32 ∷ l) count.spelled)) in
    inl (record {
      texts = texts;
      rest = count.rest;
      are = record {
        spelled = front.spelled ∙ ap (λ (l : List ℕ). codes "VALUE " ++ l) words ∙ sym (header_words texts count.rest);
        cut = record { value = value.clean; name = name.clean; version = version.clean; count = count.clean };
      };
    })

behind_name : (text : List ℕ) (front : HasFront (codes "VALUE ") text) (value : IsCut 32 front.rest)
    (name : IsCut 32 value.rest)
    → IsCut 32 name.rest ⊎ (list_any (λ b. b == 32) name.rest ≡ false) → HasHeaderWords text ⊎ HasNoHeader text
behind_name text front value name (inr none) =
    inr (no_version text front.rest value.word value.rest name.word name.rest front.spelled value.spelled value.clean
    name.spelled name.clean none)
behind_name text front value name (inl version) =
    behind_version text front value name version (cut_or_none 10 version.rest)

behind_value : (text : List ℕ) (front : HasFront (codes "VALUE ") text) (value : IsCut 32 front.rest)
    → IsCut 32 value.rest ⊎ (list_any (λ b. b == 32) value.rest ≡ false) → HasHeaderWords text ⊎ HasNoHeader text
behind_value text front value (inr none) =
    inr (no_name text front.rest value.word value.rest front.spelled value.spelled value.clean none)
behind_value text front value (inl name) = behind_name text front value name (cut_or_none 32 name.rest)

behind_front : (text : List ℕ) (front : HasFront (codes "VALUE ") text) → IsCut 32 front.rest
    ⊎ (list_any (λ b. b == 32) front.rest ≡ false) → HasHeaderWords text ⊎ HasNoHeader text
behind_front text front (inr none) = inr (no_value text front.rest front.spelled none)
behind_front text front (inl value) = behind_value text front value (cut_or_none 32 value.rest)

header_words_or_none : (text : List ℕ) → HasHeaderWords text ⊎ HasNoHeader text
header_words_or_none text =
    elim (front_or_none (codes "VALUE ") text) [
      | inl front ↦ behind_front text front (cut_or_none 32 front.rest)
      | inr none ↦ inr (λ texts rest form e. none _ (e ∙ header_words texts rest))
    ]

-- words have the form of a line 1, or not
header_form_or_none : (texts : HeaderTexts) → IsHeaderForm texts ⊎ (¬ IsHeaderForm texts)
header_form_or_none texts =
    elim (cases_Bool (is_numeral texts.value)) [
      | inr fails ↦ inr (λ form. false≢true (sym fails ∙ form.value))
      | inl value ↦ elim (cases_Bool (is_name texts.name)) [
        | inr fails ↦ inr (λ form. false≢true (sym fails ∙ form.name))
        | inl name ↦ elim (cases_Bool (is_numeral texts.version)) [
          | inr fails ↦ inr (λ form. false≢true (sym fails ∙ form.version))
          | inl version ↦ elim (cases_Bool (is_numeral texts.count)) [
            | inr fails ↦ inr (λ form. false≢true (sym fails ∙ form.count))
            | inl count ↦ inl (record { value = value; name = name; version = version; count = count })
          ]
        ]
      ]
    ]

short_or_long : (most : ℕ) (number : List ℕ) → (length number ≤ most) ⊎ (¬ (length number ≤ most))
short_or_long most number =
    elim (cases_lt most (length number)) [
      | inl long ↦ inr (λ short. absurd (omega arith))
      | inr short ↦ inl short
    ]

small_or_large : (number : List ℕ) → IsSmall number ⊎ (¬ IsSmall number)
small_or_large number =
    elim (short_or_long 9 number) [
      | inr long ↦ inr (λ is. long is.short)
      | inl short ↦ elim (cases_lt 255 (digits_value number)) [
        | inl large ↦ inr (λ is. let small = is.small in absurd (omega arith))
        | inr small ↦ inl (record { short = short; small = small })
      ]
    ]

header_range_or_none : (texts : HeaderTexts) → IsHeaderInRange texts ⊎ (¬ IsHeaderInRange texts)
header_range_or_none texts =
    elim (small_or_large texts.value) [
      | inr large ↦ inr (λ range. large range.value)
      | inl value ↦ elim (short_or_long 9 texts.version) [
        | inr long ↦ inr (λ range. long range.version)
        | inl version ↦ elim (short_or_long 9 texts.count) [
          | inr long ↦ inr (λ range. long range.count)
          | inl count ↦ inl (record { value = value; version = version; count = count })
        ]
      ]
    ]

-- line 1 of a text, in range, and what is behind it
record HasHeader (text : List ℕ) : Type 0 where
  pub header : Header
  pub rest : List ℕ
  pub spelled : text ≡ header_text header ++ rest
  pub is : IsHeader header

header_told : (text : List ℕ) (texts : HeaderTexts) (rest : List ℕ) → text ≡ header_line texts ++ rest
    → IsHeaderForm texts → IsHeaderInRange texts → HasHeader text
header_told text texts rest spelled form range =
    let header : Header =
    record {
      value = digits_value texts.value;
      name = texts.name;
      version = digits_value texts.version;
      count =
          digits_value texts.count;
    } in
    let value : decimal (digits_value texts.value) ≡ texts.value =
    numeral_written texts.value form.value range.value.short in
    let version : decimal (digits_value texts.version) ≡ texts.version =
    numeral_written texts.version form.version range.version in
    let count : decimal (digits_value texts.count) ≡ texts.count = numeral_written texts.count form.count range.count in
    let line : header_text header ≡ header_line texts = rw (value, version, count) refl in
    record {
      header = header;
      rest = rest;
      spelled = spelled ∙ ap (λ (l : List ℕ). l ++ rest) (sym line);
      is = record {
        name = form.name;
        value = range.value.small;
        version = short_value texts.version form.version range.version;
        count = short_value texts.count form.count range.count;
      };
    }

-- a text begins with a line 1 in range, or line 1 has a fault
header_or_fault : (text : List ℕ) → HasHeader text ⊎ ((fault : ProofFault) × IsHeaderFault text fault)
header_or_fault text =
    elim (header_words_or_none text) [
      | inr none ↦ inr (Line 1, (refl, none))
      | inl words ↦ elim (header_form_or_none words.texts) [
        | inr other ↦ inr (Line 1, (refl, no_header_form text words.texts words.rest words.are other))
        | inl form ↦ elim (header_range_or_none words.texts) [
          | inr large ↦ inr (
            Number 1,
            (
              refl,
              record {
                texts = words.texts;
                rest = words.rest;
                form = form;
                begins = words.are.spelled;
                large =
                    large;
              },
            ),
          )
          | inl range ↦ inl (header_told text words.texts words.rest words.are.spelled form range)
        ]
      ]
    ]

-- the words of a ROW line before its principal, and what is behind the quote
record HasRowWords (text : List ℕ) : Type 0 where
  pub value : List ℕ
  pub id : List ℕ
  pub rest : List ℕ
  pub are : AreRowWords text value id rest

behind_id : (text : List ℕ) (front : HasFront (codes "ROW ") text) (value : IsCut 32 front.rest)
    (id : IsCut 32 value.rest)
    → HasFront (codes "\"") id.rest ⊎ ((rest : List ℕ) → id.rest ≢ codes "\"" ++ rest) → HasRowWords text
    ⊎ HasNoRow text
behind_id text front value id (inr none) =
    inr (no_quote text front.rest value.word value.rest id.word id.rest front.spelled value.spelled value.clean
    id.spelled id.clean none)
behind_id text front value id (inl quote) =
    let words : front.rest ≡ value.word ++ 32 ∷ (id.word ++ 32 ∷ 34 ∷ quote.rest) =
    value.spelled ∙ ap (λ (l : List ℕ). value.word ++ 32 ∷ l) (id.spelled
    ∙ ap (λ (l : List ℕ). id.word ++ 32 ∷ l) quote.spelled) in
    inl (record {
      value = value.word;
      id = id.word;
      rest = quote.rest;
      are = record {
        spelled = front.spelled ∙ ap (λ (l : List ℕ). codes "ROW " ++ l) words
            ∙ sym (front_words value.word id.word quote.rest);
        cut = record { cut_value = value.clean; cut_id = id.clean };
      };
    })

behind_row_value : (text : List ℕ) (front : HasFront (codes "ROW ") text) (value : IsCut 32 front.rest)
    → IsCut 32 value.rest ⊎ (list_any (λ b. b == 32) value.rest ≡ false) → HasRowWords text ⊎ HasNoRow text
behind_row_value text front value (inr none) =
    inr (no_id text front.rest value.word value.rest front.spelled value.spelled value.clean none)
behind_row_value text front value (inl id) = behind_id text front value id (front_or_none (codes "\"") id.rest)

behind_row_front : (text : List ℕ) (front : HasFront (codes "ROW ") text) → IsCut 32 front.rest
    ⊎ (list_any (λ b. b == 32) front.rest ≡ false) → HasRowWords text ⊎ HasNoRow text
behind_row_front text front (inr none) = inr (no_row_value text front.rest front.spelled none)
behind_row_front text front (inl value) = behind_row_value text front value (cut_or_none 32 value.rest)

row_words_or_none : (text : List ℕ) → HasRowWords text ⊎ HasNoRow text
row_words_or_none text =
    elim (front_or_none (codes "ROW ") text) [
      | inl front ↦ behind_row_front text front (cut_or_none 32 front.rest)
      | inr none ↦ inr (λ texts rest form e. none _ (e ∙ row_words texts rest ∙ front_words texts.value texts.id _))
    ]

-- a ROW line of the form, and what is behind it
record HasRowForm (text : List ℕ) : Type 0 where
  pub texts : RowTexts
  pub rest : List ℕ
  pub begins : text ≡ row_line texts ++ rest
  pub form : IsRowForm texts

row_form_or_none : (text : List ℕ) → HasRowForm text ⊎ HasNoRow text
row_form_or_none text =
    elim (row_words_or_none text) [
      | inr none ↦ inr none
      | inl words ↦ elim (cases_Bool (is_numeral words.value)) [
        | inr fails ↦ inr (no_row_form text words.value words.id words.rest words.are (inl fails))
        | inl numeral ↦ elim (cases_Bool (is_id words.id)) [
          | inr fails ↦ inr (no_row_form text words.value words.id words.rest words.are (inr fails))
          | inl id ↦
              let quoted = unquoted_of words.rest in
              elim (front_or_none (codes "\"\n") quoted.rest) [
                | inr unclosed ↦ inr
                    (not_closed text words.value words.id words.rest quoted.principal quoted.rest words.are
                    quoted.spelled quoted.bytes quoted.all unclosed)
                | inl close ↦ inl (record {
                  texts = record { value = words.value; id = words.id; principal = quoted.principal };
                  rest = close.rest;
                  begins = row_of_words text words.value words.id words.rest quoted.principal quoted.rest close.rest
                      words.are quoted.spelled close.spelled;
                  form = record { value = numeral; id = id; principal = quoted.bytes };
                })
              ]
        ]
      ]
    ]

row_range_or_none : (texts : RowTexts) → IsRowInRange texts ⊎ (¬ IsRowInRange texts)
row_range_or_none texts =
    elim (small_or_large texts.value) [
      | inr large ↦ inr (λ range. large range.value)
      | inl value ↦ elim (short_or_long 10 texts.id) [
        | inr long ↦ inr (λ range. long range.id)
        | inl id ↦ inl (record { value = value; id = id })
      ]
    ]

-- the id that a text spells
record IsIdOf (text : List ℕ) : Type 0 where
  pub id : Id
  pub spelled : id_text id ≡ text
  pub range : id_number id < 1000000000

id_told : (text : List ℕ) → is_id text ≡ true → length text ≤ 10 → IsIdOf text
id_told [] form short = absurd (false≢true form)
id_told (letter ∷ number) form short =
    let parts = and_parts (letter == 97 || letter == 112) (is_numeral number) form in
    let spelled : decimal (digits_value number) ≡ number = numeral_written number parts.1 (omega arith) in
    let range : digits_value number < 1000000000 = short_value number parts.1 (omega arith) in
    elim (or_cases (letter == 97) (letter == 112) parts.0) [
      | inl is ↦ let a : letter ≡ 97 = eqb-true letter 97 is in
          record { id = Shared (digits_value number); spelled = cc; range = range }
      | inr is ↦ let p : letter ≡ 112 = eqb-true letter 112 is in
          record { id = Private (digits_value number); spelled = cc; range = range }
    ]

-- a ROW line in range, and what is behind it
record HasRow (text : List ℕ) : Type 0 where
  pub row : NamedRow
  pub rest : List ℕ
  pub spelled : text ≡ row_text row ++ rest
  pub is : IsReadRow row

row_told : (text : List ℕ) (has : HasRowForm text) → IsRowInRange has.texts → HasRow text
row_told text has range =
    let texts = has.texts in
    let id : IsIdOf texts.id = id_told texts.id has.form.id range.id in
    let row : NamedRow = record { value = digits_value texts.value; id = id.id; principal = texts.principal } in
    let value : decimal (digits_value texts.value) ≡ texts.value =
    numeral_written texts.value has.form.value range.value.short in
    let line : row_text row ≡ row_line texts = rw (value, id.spelled) refl in
    record {
      row = row;
      rest = has.rest;
      spelled = has.begins ∙ ap (λ (l : List ℕ). l ++ has.rest) (sym line);
      is = record { value = range.value.small; id = id.range; principal = has.form.principal };
    }

-- what stands where no further ROW line in range is
data Stop (left : List ℕ) : Type 0 where
  end : (rest : List ℕ) → IsEnd left rest → Stop left
  none : HasNoRow left → HasNoEnd left → Stop left
  large : HasLargeRow left → Stop left

row_or_stop : (text : List ℕ) → HasRow text ⊎ Stop text
row_or_stop text =
    elim (front_or_none (codes "END\n") text) [
      | inl front ↦ inr (end front.rest front.spelled)
      | inr no_end ↦ elim (row_form_or_none text) [
        | inr no_row ↦ inr (none no_row no_end)
        | inl has ↦ elim (row_range_or_none has.texts) [
          | inl range ↦ inl (row_told text has range)
          | inr out ↦ inr (large
              (record { texts = has.texts; rest = has.rest; form = has.form; begins = has.begins; large = out }))
        ]
      ]
    ]

-- the ROW lines in range at the front of these, as many as there are
record HasRows (lines : List ℕ) : Type 0 where
  pub rows : List NamedRow
  pub left : List ℕ
  pub before : AreRowsTo lines rows left
  pub stop : Stop left

no_rows : (lines : List ℕ) → Stop lines → HasRows lines
no_rows lines stop = record {
  rows = [];
  left = lines;
  before = record { spelled = refl; each = All-nil IsReadRow };
  stop = stop;
}

row_more : (lines : List ℕ) (first : HasRow lines) → HasRows first.rest → HasRows lines
row_more lines first others = record {
  rows = first.row ∷ others.rows;
  left = others.left;
  before = record {
    spelled =
        first.spelled ∙ ap (λ (l : List ℕ). row_text first.row ++ l) others.before.spelled
        ∙ sym (append_assoc (row_text first.row) (flat_map row_text others.rows) others.left);
    each = All-cons IsReadRow first.row others.rows first.is others.before.each;
  };
  stop = others.stop;
}

row_shorter : (lines : List ℕ) (first : HasRow lines) → length first.rest < length lines
row_shorter lines first =
    let size : length lines ≡ length (row_text first.row) + length first.rest = ap length first.spelled
    ∙ length-append (row_text first.row) first.rest in
    omega arith

rows_within : (most : ℕ) (lines : List ℕ) → length lines ≤ most → HasRows lines
rows_within zero lines within = elim (row_or_stop lines) [
  | inl first ↦ let less = row_shorter lines first in absurd (omega arith)
  | inr stop ↦ no_rows lines stop
]
rows_within (suc most) lines within = elim (row_or_stop lines) [
  | inl first ↦ let less = row_shorter lines first in row_more lines first (rows_within most first.rest (omega arith))
  | inr stop ↦ no_rows lines stop
]

-- lines behind a line 1 are those of a reply, or have a first fault
abbrev IsRead : Header → List ℕ → Type 0
IsRead header lines = ((reply : ReadReply) × AreRowLines header lines reply)
    ⊎ ((fault : ProofFault) × IsFaultBehind header lines fault)

fault_at : (header : Header) (lines : List ℕ) (rows : List NamedRow) (left : List ℕ) (fault : ProofFault)
    → AreRowsTo lines rows left
    → IsRowLinesFault header (length rows) left fault → IsRead header lines
fault_at header lines rows left fault before cause =
    inr (fault, record { rows = rows; left = left; before = before; cause = cause })

behind_end : (header : Header) (lines : List ℕ) (rows : List NamedRow) (left rest : List ℕ) → AreRowsTo lines rows left
    → IsEnd left rest → length rows ≡ header.count
    → IsRead header lines
behind_end header lines rows left [] before ends same =
    inl (
      record { value = header.value; name = header.name; version = header.version; rows = rows },
      record {
        of_header = record { same_value = refl; same_name = refl; same_version = refl; same_count = same };
        spelled = before.spelled ∙ ap (λ (l : List ℕ). flat_map row_text rows ++ l) ends;
        each = before.each;
      },
    )
behind_end header lines rows left (b ∷ rest) before ends same =
    fault_at header lines rows left (Line (length rows + 3)) before
    (inr (refl, same, (b ∷ rest, ends, λ e. absurd (cc))))

at_stop : (header : Header) (lines : List ℕ) (rows : List NamedRow) (left : List ℕ) → AreRowsTo lines rows left
    → Stop left → IsRead header lines
at_stop header lines rows left before (end rest is) =
    elim (cases_eq (length rows) header.count) [
      | inl same ↦ behind_end header lines rows left rest before is same
      | inr other ↦ fault_at header lines rows left (Count (length rows)) before (refl, other, (rest, is))
    ]
at_stop header lines rows left before (none no_row no_end) =
    fault_at header lines rows left (Line (length rows + 2)) before (inl (refl, no_row, no_end))
at_stop header lines rows left before (large has) =
    fault_at header lines rows left (Number (length rows + 2)) before (refl, has)

lines_read : (header : Header) (lines : List ℕ) → IsRead header lines
lines_read header lines =
    let has : HasRows lines = rows_within (length lines) lines (omega arith) in
    at_stop header lines has.rows has.left has.before has.stop

-- each text is that of a reply, or has a first fault
pub reply_or_fault : (text : List ℕ) → ((reply : ReadReply) × IsReplyText text reply)
    ⊎ ((fault : ProofFault) × IsFirstFault text fault)
reply_or_fault text =
    elim (header_or_fault text) [
      | inr first ↦ inr (first.0, inl first.1)
      | inl has ↦ elim (lines_read has.header has.rest) [
        | inl read ↦ inl (read.0, reply_from text has.rest has.header read.0 has.spelled has.is read.1)
        | inr fault ↦ inr (fault.0, fault_from text has.rest has.header fault.0 has.spelled has.is fault.1)
      ]
    ]
