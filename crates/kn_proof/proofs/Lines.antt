-- The lines of a reply have one reading.
use Rattle.std.proofs.Common.{◌≡◌, ◌≢◌, ◌⊎◌, ℕ, ◌<◌, ◌≤◌, true, false, not, ◌&&◌, ◌||◌, ◌==◌, nat_le, List, [], ◌∷◌}
use Rattle.std.proofs.Common.{◌++◌, length, codes, flat_map, refl, sym, ap, ◌∙◌, arith, ⊎_elim, append_assoc}
use Rattle.std.specs.List.{list_any, list_all}
use Rattle.std.proofs.lemmas.Bool.{and_parts, or_cases, eqb-true, ne_eqb, leb-true, false≢true}
use Rattle.std.proofs.lemmas.List.{append_cancel_left}
use Rattle.kn_proof.specs.Texts.{quoted_byte}
use Rattle.kn_proof.specs.Lines.{HeaderTexts, RowTexts, IsHeaderForm, IsRowForm, header_line, row_line, is_numeral}
use Rattle.kn_proof.specs.Lines.{is_name, is_id, AreBytes, IsSmall}
use Rattle.kn_env.specs.Values.{is_value_name}
use Rattle.kn_proof.specs.Quoting.{HasNoByte}
use Rattle.kn_proof.specs.Reading.{HasNoHeader, HasNoRow, HasLargeRow}
use Rattle.kn_proof.specs.Words.{IsCutHeader, IsCutRow, AreHeaderWords, AreRowWords, row_front}
use Rattle.kn_base.proofs.Cuts.{cut_once, no_cut}
use Rattle.kn_base.proofs.Numerals.{lacks_by}
use Rattle.kn_proof.proofs.Numerals.{numeral_lacks}
use Rattle.kn_proof.proofs.Quotes.{one_principal, closed}

pub name_lacks : (at : ℕ) (name : List ℕ) → at < 33 → is_name name ≡ true → list_any (λ b. b == at) name ≡ false
name_lacks at name below h =
    let value = (and_parts (is_value_name name) (not (list_any (λ b. b == 44) name)) h).0 in
    lacks_by (λ b. nat_le 33 b && nat_le b 126) at
    (λ b byte e.
    let low : 33 ≤ b = leb-true 33 b (and_parts (nat_le 33 b) (nat_le b 126) byte).0 in
    absurd (omega arith))
    name (and_parts (nat_le 1 (length name) && nat_le (length name) 128)
    (list_all (λ b. nat_le 33 b && nat_le b 126) name) value).1

pub cut_header : (texts : HeaderTexts) → IsHeaderForm texts → IsCutHeader texts
cut_header texts form = record {
  value = numeral_lacks 32 texts.value (omega arith) form.value;
  name = name_lacks 32 texts.name (omega arith) form.name;
  version = numeral_lacks 32 texts.version (omega arith) form.version;
  count = numeral_lacks 10 texts.count (omega arith) form.count;
}

pub header_words : (texts : HeaderTexts) (rest : List ℕ) →
    header_line texts ++ rest ≡ codes "VALUE "
    ++ (texts.value ++ 32 ∷ (texts.name ++ 32 ∷ (texts.version ++ 32 ∷ (texts.count ++ 10 ∷ rest))))
header_words texts rest = simp append_assoc

-- a text begins with one line 1, and one rest follows
pub header_once : (a b : HeaderTexts) (x y : List ℕ) → IsCutHeader a → IsCutHeader b
    → header_line a ++ x ≡ header_line b ++ y → (a ≡ b) × (x ≡ y)
header_once a b x y cut cut' e =
    let words = append_cancel_left (codes "VALUE ") _ _ (sym (header_words a x) ∙ e ∙ header_words b y) in
    let value = cut_once 32 a.value b.value _ _ cut.value cut'.value words in
    let name = cut_once 32 a.name b.name _ _ cut.name cut'.name value.1 in
    let version = cut_once 32 a.version b.version _ _ cut.version cut'.version name.1 in
    let count = cut_once 10 a.count b.count _ _ cut.count cut'.count version.1 in
    (same a b value.0 name.0 version.0 count.0, count.1)
  where
    same : (a b : HeaderTexts) → a.value ≡ b.value → a.name ≡ b.name → a.version ≡ b.version → a.count ≡ b.count → a ≡ b
    same a b e f g h =
        ap (λ (v : List ℕ). made v a.name a.version a.count) e ∙ ap (λ (n : List ℕ). made b.value n a.version a.count) f
        ∙ ap (λ (v : List ℕ). made b.value b.name v a.count) g ∙ ap (made b.value b.name b.version) h
      where
        made : List ℕ → List ℕ → List ℕ → List ℕ → HeaderTexts
        made value name version count = record { value = value; name = name; version = version; count = count }

pub id_lacks : (at : ℕ) (id : List ℕ) → at < 48 → is_id id ≡ true → list_any (λ b. b == at) id ≡ false
id_lacks at [] below h = refl
id_lacks at (letter ∷ number) below h =
    let parts = and_parts (letter == 97 || letter == 112) (is_numeral number) h in
    let other : letter ≢ at =
    λ e.
    ⊎_elim (λ (is : (letter == 97) ≡ true). let l : letter ≡ 97 = eqb-true letter 97 is in absurd (omega arith))
    (λ (is : (letter == 112) ≡ true). let l : letter ≡ 112 = eqb-true letter 112 is in absurd (omega arith))
    (or_cases (letter == 97) (letter == 112) parts.0) in
    let first : (letter == at) ≡ false = ne_eqb letter at other in
    let rest : list_any (λ b. b == at) number ≡ false = numeral_lacks at number below parts.1 in
    rw (first, rest) refl

pub cut_row : (texts : RowTexts) → IsRowForm texts → IsCutRow texts.value texts.id
cut_row texts form =
    record {
      cut_value = numeral_lacks 32 texts.value (omega arith) form.value;
      cut_id =
          id_lacks 32 texts.id (omega arith) form.id;
    }

pub front_words : (value id rest : List ℕ)
    → row_front value id ++ rest ≡ codes "ROW " ++ (value ++ 32 ∷ (id ++ 32 ∷ 34 ∷ rest))
front_words value id rest = simp append_assoc

pub front_once : (v i v' i' x y : List ℕ) → IsCutRow v i → IsCutRow v' i' → row_front v i ++ x ≡ row_front v' i' ++ y
    → (v ≡ v') × (i ≡ i') × (x ≡ y)
front_once v i v' i' x y cut cut' e =
    let words = append_cancel_left (codes "ROW ") _ _ (sym (front_words v i x) ∙ e ∙ front_words v' i' y) in
    let value = cut_once 32 v v' _ _ cut.cut_value cut'.cut_value words in
    let id = cut_once 32 i i' _ _ cut.cut_id cut'.cut_id value.1 in
    let rest : x ≡ y = append_cancel_left (34 ∷ []) x y id.1 in
    (value.0, id.0, rest)

pub row_words : (texts : RowTexts) (rest : List ℕ)
    → row_line texts ++ rest ≡ row_front texts.value texts.id
    ++ (flat_map quoted_byte texts.principal ++ 34 ∷ 10 ∷ rest)
row_words texts rest = simp append_assoc

-- a text begins with one ROW line, and one rest follows
pub row_once : (a b : RowTexts) (x y : List ℕ) → IsRowForm a → IsRowForm b → row_line a ++ x ≡ row_line b ++ y → (a ≡ b)
    × (x ≡ y)
row_once a b x y form form' e =
    let front = front_once a.value a.id b.value b.id _ _ (cut_row a form) (cut_row b form') (sym (row_words a x) ∙ e
    ∙ row_words b y) in
    let behind = one_principal a.principal b.principal (34 ∷ 10 ∷ x) (34 ∷ 10 ∷ y) form.principal form'.principal
    (closed (10 ∷ x)) (closed (10 ∷ y)) front.2 in
    (same a b front.0 front.1 behind.0, append_cancel_left (34 ∷ 10 ∷ []) x y behind.1)
  where
    same : (a b : RowTexts) → a.value ≡ b.value → a.id ≡ b.id → a.principal ≡ b.principal → a ≡ b
    same a b e f g =
        ap (λ (v : List ℕ). made v a.id a.principal) e ∙ ap (λ (i : List ℕ). made b.value i a.principal) f
        ∙ ap (made b.value b.id) g
      where
        made : List ℕ → List ℕ → List ℕ → RowTexts
        made value id principal = record { value = value; id = id; principal = principal }

pub lacking : (at : ℕ) (text front rest : List ℕ) → list_any (λ b. b == at) text ≡ false → text ≢ front ++ at ∷ rest
lacking at text front rest none e = no_cut at front rest (ap (list_any (λ b. b == at)) (sym e) ∙ none)

-- the words of a line 1, as far as a text is cut
behind_value : (text w value x : List ℕ) → text ≡ codes "VALUE " ++ w → w ≡ value ++ 32 ∷ x
    → list_any (λ b. b == 32) value ≡ false
    → (texts : HeaderTexts) (rest : List ℕ) → IsHeaderForm texts → text ≡ header_line texts ++ rest
    → x ≡ texts.name ++ 32 ∷ (texts.version ++ 32 ∷ (texts.count ++ 10 ∷ rest))
behind_value text w value x begins cut clean texts rest form e =
    let words = append_cancel_left (codes "VALUE ") _ _ (sym begins ∙ e ∙ header_words texts rest) in
    (cut_once 32 value texts.value _ _ clean (cut_header texts form).value (sym cut ∙ words)).1

behind_name : (x name y : List ℕ) → x ≡ name ++ 32 ∷ y → list_any (λ b. b == 32) name ≡ false
    → (texts : HeaderTexts) (rest : List ℕ) → IsHeaderForm texts
    → x ≡ texts.name ++ 32 ∷ (texts.version ++ 32 ∷ (texts.count ++ 10 ∷ rest))
    → y ≡ texts.version ++ 32 ∷ (texts.count ++ 10 ∷ rest)
behind_name x name y cut clean texts rest form words =
    (cut_once 32 name texts.name _ _ clean (cut_header texts form).name (sym cut ∙ words)).1

behind_version : (y version z : List ℕ) → y ≡ version ++ 32 ∷ z → list_any (λ b. b == 32) version ≡ false
    → (texts : HeaderTexts) (rest : List ℕ) → IsHeaderForm texts → y ≡ texts.version ++ 32 ∷ (texts.count ++ 10 ∷ rest)
    → z ≡ texts.count ++ 10 ∷ rest
behind_version y version z cut clean texts rest form words =
    (cut_once 32 version texts.version _ _ clean (cut_header texts form).version (sym cut ∙ words)).1

-- a text that is cut less often than a line 1
pub no_value : (text w : List ℕ) → text ≡ codes "VALUE " ++ w → list_any (λ b. b == 32) w ≡ false → HasNoHeader text
no_value text w begins none texts rest form e =
    lacking 32 w texts.value _ none (append_cancel_left (codes "VALUE ") _ _ (sym begins ∙ e ∙ header_words texts rest))

pub no_name : (text w value x : List ℕ) → text ≡ codes "VALUE " ++ w → w ≡ value ++ 32 ∷ x
    → list_any (λ b. b == 32) value ≡ false
    → list_any (λ b. b == 32) x ≡ false → HasNoHeader text
no_name text w value x begins cut clean none texts rest form e =
    lacking 32 x texts.name _ none (behind_value text w value x begins cut clean texts rest form e)

pub no_version : (text w value x name y : List ℕ) → text ≡ codes "VALUE " ++ w → w ≡ value ++ 32 ∷ x
    → list_any (λ b. b == 32) value ≡ false
    → x ≡ name ++ 32 ∷ y → list_any (λ b. b == 32) name ≡ false → list_any (λ b. b == 32) y ≡ false → HasNoHeader text
no_version text w value x name y begins cut clean cut' clean' none texts rest form e =
    lacking 32 y texts.version _ none
    (behind_name x name y cut' clean' texts rest form
    (behind_value text w value x begins cut clean texts rest form e))

pub no_count : (text w value x name y version z : List ℕ) → text ≡ codes "VALUE " ++ w → w ≡ value ++ 32 ∷ x
    → list_any (λ b. b == 32) value ≡ false
    → x ≡ name ++ 32 ∷ y → list_any (λ b. b == 32) name ≡ false → y ≡ version ++ 32 ∷ z
    → list_any (λ b. b == 32) version ≡ false
    → list_any (λ b. b == 10) z ≡ false → HasNoHeader text
no_count text w value x name y version z begins cut clean cut' clean' cut″ clean″ none texts rest form e =
    lacking 10 z texts.count rest none
    (behind_version y version z cut″ clean″ texts rest form
    (behind_name x name y cut' clean' texts rest form
    (behind_value text w value x begins cut clean texts rest form e)))

-- a line 1 of other words than these has not the form, if these haven't
pub no_header_form : (text : List ℕ) (words : HeaderTexts) (rest : List ℕ) → AreHeaderWords text words rest
    → ¬ IsHeaderForm words → HasNoHeader text
no_header_form text words rest are other texts behind form e =
    let same = (header_once texts words behind rest (cut_header texts form) are.cut (sym e ∙ are.spelled)).0 in
    other (rw (sym same) form)

behind_row_value : (text w value x : List ℕ) → text ≡ codes "ROW " ++ w → w ≡ value ++ 32 ∷ x
    → list_any (λ b. b == 32) value ≡ false
    → (texts : RowTexts) (rest : List ℕ) → IsRowForm texts → text ≡ row_line texts ++ rest
    → x ≡ texts.id ++ 32 ∷ 34 ∷ (flat_map quoted_byte texts.principal ++ 34 ∷ 10 ∷ rest)
behind_row_value text w value x begins cut clean texts rest form e =
    let words = append_cancel_left (codes "ROW ") _ _ (sym begins ∙ e ∙ row_words texts rest
    ∙ front_words texts.value texts.id _) in
    (cut_once 32 value texts.value _ _ clean (cut_row texts form).cut_value (sym cut ∙ words)).1

-- a text that is cut less often than a ROW line
pub no_row_value : (text w : List ℕ) → text ≡ codes "ROW " ++ w → list_any (λ b. b == 32) w ≡ false → HasNoRow text
no_row_value text w begins none texts rest form e =
    lacking 32 w texts.value _ none (append_cancel_left (codes "ROW ") _ _ (sym begins ∙ e ∙ row_words texts rest
    ∙ front_words texts.value texts.id _))

pub no_id : (text w value x : List ℕ) → text ≡ codes "ROW " ++ w → w ≡ value ++ 32 ∷ x
    → list_any (λ b. b == 32) value ≡ false
    → list_any (λ b. b == 32) x ≡ false → HasNoRow text
no_id text w value x begins cut clean none texts rest form e =
    lacking 32 x texts.id _ none (behind_row_value text w value x begins cut clean texts rest form e)

pub no_quote : (text w value x id y : List ℕ) → text ≡ codes "ROW " ++ w → w ≡ value ++ 32 ∷ x
    → list_any (λ b. b == 32) value ≡ false
    → x ≡ id ++ 32 ∷ y → list_any (λ b. b == 32) id ≡ false → ((rest : List ℕ) → y ≢ codes "\"" ++ rest) → HasNoRow text
no_quote text w value x id y begins cut clean cut' clean' none texts rest form e =
    let words = behind_row_value text w value x begins cut clean texts rest form e in
    none _ (cut_once 32 id texts.id _ _ clean' (cut_row texts form).cut_id (sym cut' ∙ words)).1

-- the words of a ROW line that stands there are these
row_parts : (text value id w : List ℕ) → AreRowWords text value id w → (texts : RowTexts) (rest : List ℕ)
    → IsRowForm texts → text ≡ row_line texts ++ rest
    → (value ≡ texts.value) × (id ≡ texts.id) × (w ≡ flat_map quoted_byte texts.principal ++ 34 ∷ 10 ∷ rest)
row_parts text value id w are texts rest form e =
    front_once value id texts.value texts.id w _ are.cut (cut_row texts form) (sym are.spelled ∙ e
    ∙ row_words texts rest)

pub no_row_form : (text value id w : List ℕ) → AreRowWords text value id w → (is_numeral value ≡ false)
    ⊎ (is_id id ≡ false) → HasNoRow text
no_row_form text value id w are other texts rest form e =
    let same = row_parts text value id w are texts rest form e in
    ⊎_elim (λ (no : is_numeral value ≡ false). false≢true (sym no ∙ ap is_numeral same.0 ∙ form.value))
    (λ (no : is_id id ≡ false). false≢true (sym no ∙ ap is_id same.1 ∙ form.id))
    other

-- what follows the quoted bytes isn't the end of a ROW line
pub not_closed : (text value id w principal behind : List ℕ) → AreRowWords text value id w
    → w ≡ flat_map quoted_byte principal ++ behind
    → AreBytes principal → HasNoByte behind → ((rest : List ℕ) → behind ≢ codes "\"\n" ++ rest) → HasNoRow text
not_closed text value id w principal behind are quoted bytes stop unclosed texts rest form e =
    let same = row_parts text value id w are texts rest form e in
    unclosed rest (one_principal principal texts.principal behind (34 ∷ 10 ∷ rest) bytes form.principal stop
    (closed (10 ∷ rest)) (sym quoted ∙ same.2)).1

-- a ROW line of these words
pub row_of_words : (text value id w principal behind rest : List ℕ) → AreRowWords text value id w
    → w ≡ flat_map quoted_byte principal ++ behind → behind ≡ codes "\"\n" ++ rest
    → text ≡ row_line (record { value = value; id = id; principal = principal }) ++ rest
row_of_words text value id w principal behind rest are quoted close =
    are.spelled ∙ ap (λ (l : List ℕ). row_front value id ++ l) (quoted
    ∙ ap (λ (l : List ℕ). flat_map quoted_byte principal ++ l) close)
    ∙ sym (row_words (record { value = value; id = id; principal = principal }) rest)

pub large_row : (text value id w principal behind rest : List ℕ) → AreRowWords text value id w
    → w ≡ flat_map quoted_byte principal ++ behind → behind ≡ codes "\"\n" ++ rest
    → AreBytes principal → is_numeral value ≡ true → is_id id ≡ true → (¬ IsSmall value) ⊎ (10 < length id)
    → HasLargeRow text
large_row text value id w principal behind rest are quoted close bytes numeral formed large = record {
  texts = record { value = value; id = id; principal = principal };
  rest = rest;
  form = record { value = numeral; id = formed; principal = bytes };
  begins = row_of_words text value id w principal behind rest are quoted close;
  large =
      λ range.
      ⊎_elim (λ (other : ¬ IsSmall value). other range.value) (λ (long : 10 < length id). let short = range.id in
      absurd (omega arith)) large;
}
