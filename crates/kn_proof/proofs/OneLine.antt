-- What has a form is one line.
use Rattle.std.proofs.Common.{◌≡◌, ◌≢◌, ℕ, ◌+◌, ◌/◌, ◌%◌, false, ◌==◌, List, [], ◌∷◌, ◌++◌, codes, flat_map, refl, sym}
use Rattle.std.proofs.Common.{arith, append_assoc}
use Rattle.std.specs.List.{list_any}
use Rattle.std.proofs.lemmas.Bool.{ne_eqb}
use Rattle.std.proofs.lemmas.List.Folds.{list_any-append}
use Rattle.kn_proof.specs.Texts.{quoted_byte}
use Rattle.kn_proof.specs.Lines.{HeaderTexts, IsHeaderForm, IsLine, IsRowForm, RowTexts, header_line, row_line}
use Rattle.kn_proof.specs.Quoting.{octal_digits}
use Rattle.kn_proof.proofs.Lines.{name_lacks, id_lacks}
use Rattle.kn_proof.proofs.Numerals.{numeral_lacks}
use Rattle.kn_proof.proofs.Quotes.{Quoting, quote, backslash, low, high, plain, quoting, quoted_low, quoted_high}
use Rattle.kn_proof.proofs.Quotes.{quoted_plain}

-- the bytes have no newline
abbrev HasNoNewline : List ℕ → Type 0
HasNoNewline bytes = list_any (λ b. b == 10) bytes ≡ false

both : (xs ys : List ℕ) → HasNoNewline xs → HasNoNewline ys → HasNoNewline (xs ++ ys)
both xs ys clean clean' = rw (list_any-append (λ b. b == 10) xs ys, clean, clean') refl

more : (b : ℕ) (bytes : List ℕ) → b ≢ 10 → HasNoNewline bytes → HasNoNewline (b ∷ bytes)
more b bytes other clean = let first : (b == 10) ≡ false = ne_eqb b 10 other in rw (first, clean) refl

octal_lacks : (b : ℕ) → HasNoNewline (92 ∷ octal_digits b)
octal_lacks b =
    let low = more (48 + b % 8) [] (λ e. omega arith) refl in
    let middle = more (48 + b / 8 % 8) ((48 + b % 8) ∷ []) (λ e. omega arith) low in
    let high = more (48 + b / 64) ((48 + b / 8 % 8) ∷ (48 + b % 8) ∷ []) (λ e. omega arith) middle in
    more 92 (octal_digits b) (λ e. omega arith) high

byte_lacks : (b : ℕ) → Quoting b → HasNoNewline (quoted_byte b)
byte_lacks b (quote h) = rw h refl
byte_lacks b (backslash h) = rw h refl
byte_lacks b (low h) = rw (quoted_low b h) (octal_lacks b)
byte_lacks b (high h) = rw (quoted_high b h) (octal_lacks b)
byte_lacks b (plain h) = rw (quoted_plain b h) (more b [] (λ e. let from = h.low in omega arith) refl)

principal_lacks : (bytes : List ℕ) → HasNoNewline (flat_map quoted_byte bytes)
principal_lacks [] = refl
principal_lacks (b ∷ bytes) =
    both (quoted_byte b) (flat_map quoted_byte bytes) (byte_lacks b (quoting b)) (principal_lacks bytes)

pub header_is_line : (texts : HeaderTexts) → IsHeaderForm texts → IsLine (header_line texts)
header_is_line texts form = record {
  front = codes "VALUE " ++ texts.value ++ 32 ∷ texts.name ++ 32 ∷ texts.version ++ 32 ∷ texts.count;
  spelled = refl;
  whole =
      both (codes "VALUE " ++ texts.value ++ 32 ∷ texts.name ++ 32 ∷ texts.version) (32 ∷ texts.count)
      (both (codes "VALUE " ++ texts.value ++ 32 ∷ texts.name) (32 ∷ texts.version)
      (both (codes "VALUE " ++ texts.value) (32 ∷ texts.name) (numeral_lacks 10 texts.value (omega arith) form.value)
      (name_lacks 10 texts.name (omega arith) form.name))
      (numeral_lacks 10 texts.version (omega arith) form.version))
      (numeral_lacks 10 texts.count (omega arith) form.count);
}

pub row_is_line : (texts : RowTexts) → IsRowForm texts → IsLine (row_line texts)
row_is_line texts form = record {
  front = codes "ROW " ++ texts.value ++ 32 ∷ texts.id ++ codes " \"" ++ flat_map quoted_byte texts.principal
      ++ codes "\"";
  spelled = sym (append_assoc (codes "ROW " ++ texts.value ++ 32 ∷ texts.id ++ codes " \""
      ++ flat_map quoted_byte texts.principal) (codes "\"") (codes "\n"));
  whole =
      both (codes "ROW " ++ texts.value ++ 32 ∷ texts.id ++ codes " \"" ++ flat_map quoted_byte texts.principal)
      (codes "\"")
      (both (codes "ROW " ++ texts.value ++ 32 ∷ texts.id ++ codes " \"") (flat_map quoted_byte texts.principal)
      (both (codes "ROW " ++ texts.value ++ 32 ∷ texts.id) (codes " \"")
      (both (codes "ROW " ++ texts.value) (32 ∷ texts.id) (numeral_lacks 10 texts.value (omega arith) form.value)
      (id_lacks 10 texts.id (omega arith) form.id)) refl)
      (principal_lacks texts.principal)) refl;
}
