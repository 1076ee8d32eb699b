-- The lines of a reply whose numbers are in range.
use Rattle.std.proofs.Common.{◌≡◌, ℕ, ◌<◌, ◌≤◌, true, List, ◌++◌, length, decimal, ap, ◌∙◌, arith}
use Rattle.std.proofs.lemmas.Fmt.{decimal_injective, length-decimal-le, digits_value-decimal}
use Rattle.kn_base.specs.Decimal.{digits_value}
use Rattle.kn_proof.specs.declared.named.Id.{Id}
use Rattle.kn_proof.specs.declared.named.Id.TheVariants.{Shared, Private}
use Rattle.kn_proof.specs.declared.named.NamedRow.{NamedRow}
use Rattle.kn_proof.specs.Texts.{row_text, id_text}
use Rattle.kn_proof.specs.declared.header.Header.{Header}
use Rattle.kn_proof.specs.Lines.{HeaderTexts, RowTexts, IsHeaderForm, IsRowForm, IsHeaderInRange, IsRowInRange, IsSmall}
use Rattle.kn_proof.specs.Lines.{is_id}
use Rattle.kn_proof.specs.Reading.{IsReadRow, IsHeader, header_text, id_number}
use Rattle.kn_base.proofs.Numerals.{own}
use Rattle.kn_proof.proofs.Numerals.{decimal_numeral}
use Rattle.kn_base.proofs.Cuts.{heads_apart}
use Rattle.kn_proof.proofs.Lines.{header_once, row_once, cut_header}

abbrev pub header_texts : Header → HeaderTexts
header_texts h = record { value = decimal h.value; name = h.name; version = decimal h.version; count = decimal h.count }

abbrev pub row_texts : NamedRow → RowTexts
row_texts row = record { value = decimal row.value; id = id_text row.id; principal = row.principal }

short : (n : ℕ) → n < 1000000000 → length (decimal n) ≤ 9
short n small = length-decimal-le 9 n (omega arith) (omega arith) (omega arith)

small : (n : ℕ) → n ≤ 255 → IsSmall (decimal n)
small n h = record {
  short = short n (omega arith);
  small = let same : digits_value (decimal n) ≡ n = digits_value-decimal own n (omega arith) in omega arith;
}

pub header_form : (h : Header) → IsHeader h → IsHeaderForm (header_texts h)
header_form h is = record {
  value = decimal_numeral h.value (let v = is.value in omega arith);
  name = is.name;
  version = decimal_numeral h.version (let v = is.version in omega arith);
  count = decimal_numeral h.count (let v = is.count in omega arith);
}

pub header_range : (h : Header) → IsHeader h → IsHeaderInRange (header_texts h)
header_range h is =
    record { value = small h.value is.value; version = short h.version is.version; count = short h.count is.count }

id_form : (id : Id) → id_number id < 1000000000 → is_id (id_text id) ≡ true
id_form (Shared n) small = decimal_numeral n (omega arith)
id_form (Private n) small = decimal_numeral n (omega arith)

id_range : (id : Id) → id_number id < 1000000000 → length (id_text id) ≤ 10
id_range (Shared n) small = let l = short n small in omega arith
id_range (Private n) small = let l = short n small in omega arith

pub row_form : (row : NamedRow) → IsReadRow row → IsRowForm (row_texts row)
row_form row is =
    record {
      value = decimal_numeral row.value (let v = is.value in omega arith);
      id = id_form row.id is.id;
      principal =
          is.principal;
    }

pub row_range : (row : NamedRow) → IsReadRow row → IsRowInRange (row_texts row)
row_range row is = record { value = small row.value is.value; id = id_range row.id is.id }

id_same : (a b : Id) → id_number a < 1000000000 → id_number b < 1000000000 → id_text a ≡ id_text b → a ≡ b
id_same (Shared m) (Shared n) h k e = let d : decimal m ≡ decimal n = cc in
    ap Shared (decimal_injective m n (omega arith) (omega arith) d)
id_same (Private m) (Private n) h k e = let d : decimal m ≡ decimal n = cc in
    ap Private (decimal_injective m n (omega arith) (omega arith) d)
id_same (Shared m) (Private n) h k e = absurd (heads_apart 97 112 _ _ (λ d. omega arith) e)
id_same (Private m) (Shared n) h k e = absurd (heads_apart 112 97 _ _ (λ d. omega arith) e)

abbrev header_made : ℕ → List ℕ → ℕ → ℕ → Header
header_made value name version count = record { value = value; name = name; version = version; count = count }

header_same : (a b : Header) → a.value ≡ b.value → a.name ≡ b.name → a.version ≡ b.version → a.count ≡ b.count → a ≡ b
header_same a b e f g h =
    ap (λ (v : ℕ). header_made v a.name a.version a.count) e
    ∙ ap (λ (n : List ℕ). header_made b.value n a.version a.count) f
    ∙ ap (λ (v : ℕ). header_made b.value b.name v a.count) g ∙ ap (header_made b.value b.name b.version) h

abbrev row_made : ℕ → Id → List ℕ → NamedRow
row_made value id principal = record { value = value; id = id; principal = principal }

row_same : (a b : NamedRow) → a.value ≡ b.value → a.id ≡ b.id → a.principal ≡ b.principal → a ≡ b
row_same a b e f g = ap (λ (v : ℕ). row_made v a.id a.principal) e ∙ ap (λ (i : Id). row_made b.value i a.principal) f
    ∙ ap (row_made b.value b.id) g

-- a line 1 tells one thing
pub header_read_once : (a b : Header) (x y : List ℕ) → IsHeader a → IsHeader b → header_text a ++ x ≡ header_text b ++ y
    → (a ≡ b) × (x ≡ y)
header_read_once a b x y is is' e =
    let texts = header_once (header_texts a) (header_texts b) x y (cut_header _ (header_form a is))
    (cut_header _ (header_form b is')) e in
    let value : a.value ≡ b.value = decimal_injective _ _ (let v = is.value in omega arith) (let v = is'.value in
    omega arith) (ap (λ (t : HeaderTexts). t.value) texts.0) in
    let version : a.version ≡ b.version =
    decimal_injective _ _ (let v = is.version in omega arith) (let v = is'.version in
    omega arith) (ap (λ (t : HeaderTexts). t.version) texts.0) in
    let count : a.count ≡ b.count = decimal_injective _ _ (let v = is.count in omega arith) (let v = is'.count in
    omega arith) (ap (λ (t : HeaderTexts). t.count) texts.0) in
    (header_same a b value (ap (λ (t : HeaderTexts). t.name) texts.0) version count, texts.1)

-- and so does a ROW line
pub row_read_once : (a b : NamedRow) (x y : List ℕ) → IsReadRow a → IsReadRow b → row_text a ++ x ≡ row_text b ++ y
    → (a ≡ b) × (x ≡ y)
row_read_once a b x y is is' e =
    let texts = row_once (row_texts a) (row_texts b) x y (row_form a is) (row_form b is') e in
    let value : a.value ≡ b.value = decimal_injective _ _ (let v = is.value in omega arith) (let v = is'.value in
    omega arith) (ap (λ (t : RowTexts). t.value) texts.0) in
    let id = id_same a.id b.id is.id is'.id (ap (λ (t : RowTexts). t.id) texts.0) in
    (row_same a b value id (ap (λ (t : RowTexts). t.principal) texts.0), texts.1)
