-- An item that is read of a text is spelled there, and one that is spelled there is read.
use Rattle.std.proofs.Common.{◌≡◌, ℕ, ◌+◌, ◌<◌, Bool, true, false, cond, ◌||◌, ◌==◌, Option, Some, None, List, [], ◌∷◌}
use Rattle.std.proofs.Common.{◌++◌, length, take, drop, get_or, slice_get, option_map, option_and_then, codes, decimal}
use Rattle.std.proofs.Common.{refl, sym, ap, ◌∙◌, subst, arith, append_assoc, length-take, take-append-drop, take_at}
use Rattle.std.specs.List.{list_any, before_first, after_first}
use Rattle.std.specs.Str.{bytes_eq}
use Rattle.std.proofs.Math.Seq.{drop-append-add}
use Rattle.std.proofs.lemmas.Bool.Decides.{Decides-eqb}
use Rattle.std.proofs.lemmas.List.{drop_more}
use Rattle.std.proofs.lemmas.List.Sums.{split_at_first, passes_at_first}
use Rattle.std.proofs.lemmas.Option.{same_Some, slice_get_within, get_or_from_slice_get}
use Rattle.std.proofs.lemmas.Slice.Eq.{bytes_eq-Decides}
use Rattle.kn_base.specs.Decimal.{decimal_of}
use Rattle.kn_wire.specs.Items.{BatchItem, AddText, DropId, item_text, added_item, addition_of, removal_of}
use Rattle.kn_wire.specs.Items.{item_of_line, first_item, IsShortItem}
use Rattle.kn_wire.specs.Requests.{is_space, is_newline, behind_space, line_length}
use Rattle.kn_wire.proofs.Decimals.{number_written, number_read, number_lacks}
use Rattle.kn_wire.proofs.Growing.{ended-length, no_request}
use Rattle.kn_wire.proofs.LineLengths.{before_at, after_at}
use Rattle.kn_wire.proofs.Splits.{split_line}

abbrev pair : BatchItem → List ℕ → BatchItem × List ℕ
pair item left = (item, left)

abbrev found : BatchItem → List ℕ → Option (BatchItem × List ℕ)
found item left = Some (pair item left)

-- a text is cut at its first newline
newline-cut : (text : List ℕ) → list_any is_newline text ≡ true
    → text ≡ before_first is_newline text ++ 10 ∷ after_first is_newline text
newline-cut text any =
    let within = ended-length text any in
    let here = (Decides-eqb (get_or text (line_length text) 0) 10).0 (passes_at_first is_newline text 0 within) in
    split_at_first is_newline text 0 within
    ∙ ap (λ b. before_first is_newline text ++ b ∷ after_first is_newline text) here

-- An item that is read is spelled.

-- a text begins with an item, and this is left
pub record IsSpelled (text : List ℕ) (item : BatchItem) (left : List ℕ) : Type 0 where
  pub same : text ≡ item_text item ++ left
  pub short : IsShortItem item

spelled-by : (text : List ℕ) (item other : BatchItem) (left rest : List ℕ) → found item left ≡ found other rest
    → IsSpelled text item left → IsSpelled text other rest
spelled-by text item other left rest e s =
    let same : pair item left ≡ pair other rest = same_Some (pair item left) (pair other rest) e in
    subst (λ (p : BatchItem × List ℕ). IsSpelled text p.0 p.1) same s

add-due : (number text rest : List ℕ)
    → (codes "ADD" ++ 32 ∷ number) ++ 10 ∷ (text ++ 10 ∷ rest) ≡ (codes "ADD " ++ number ++ 10 ∷ text ++ 10 ∷ [])
    ++ rest
add-due number text rest =
    sym (append_assoc ((codes "ADD " ++ number) ++ 10 ∷ text) (10 ∷ []) rest
    ∙ append_assoc (codes "ADD " ++ number) (10 ∷ text) (10 ∷ rest))

drop-due : (number rest : List ℕ)
    → (codes "DROP" ++ 32 ∷ 97 ∷ number) ++ 10 ∷ rest ≡ (codes "DROP a" ++ number ++ 10 ∷ []) ++ rest
drop-due number rest = sym (append_assoc (codes "DROP a" ++ number) (10 ∷ []) rest)

addition-spelled : (line more rest : List ℕ) (item : BatchItem) (left : List ℕ) → line ≡ codes "ADD" ++ 32 ∷ more
    → addition_of more rest ≡ Some (item, left) → IsSpelled (line ++ 10 ∷ rest) item left
addition-spelled line more rest item left cut e = by (decimal_of more) refl e
  where
    at-byte : (n : ℕ) → decimal_of more ≡ Some n → (b : ℕ) → slice_get rest n ≡ Some b → (t : Bool) → is_newline b ≡ t
        → cond t (found (AddText (take n rest)) (drop (n + 1) rest)) None ≡ found item left
        → IsSpelled (line ++ 10 ∷ rest) item left
    at-byte n number b there true newline e =
        let w = number_written more n number in
        let within = slice_get_within rest n b there in
        let size : length (take n rest) ≡ n = let l = length-take n rest in omega (arith, l, within) in
        let byte : b ≡ 10 = (Decides-eqb b 10).0 newline in
        let read : get_or rest n 0 ≡ 10 = get_or_from_slice_get rest n b 0 there ∙ byte in
        let halves : rest ≡ take n rest ++ 10 ∷ drop (n + 1) rest = sym (take-append-drop n rest)
        ∙ ap (λ l. take n rest ++ l) (drop_more rest n 0 within ∙ ap (λ x. x ∷ drop (n + 1) rest) read) in
        let number_same : more ≡ decimal (length (take n rest)) = w.same ∙ ap decimal (sym size) in
        let whole : line ++ 10 ∷ rest ≡ (codes "ADD" ++ 32 ∷ decimal (length (take n rest))) ++ 10
        ∷ (take n rest ++ 10 ∷ drop (n + 1) rest) =
        ap (λ l. l ++ 10 ∷ rest) (cut ∙ ap (λ m. codes "ADD" ++ 32 ∷ m) number_same)
        ∙ ap (λ r. (codes "ADD" ++ 32 ∷ decimal (length (take n rest))) ++ 10 ∷ r) halves in
        let digits = w.short in
        let short : length (take n rest) < 1000000000 = omega (arith, digits, size) in
        spelled-by (line ++ 10 ∷ rest) (AddText (take n rest)) item (drop (n + 1) rest) left e
        (record {
          same = whole ∙ add-due (decimal (length (take n rest))) (take n rest) (drop (n + 1) rest);
          short =
              short;
        })
    at-byte n number b there false newline e = absurd (no_request (pair item left) e)

    at-number : (n : ℕ) → decimal_of more ≡ Some n → (o : Option ℕ) → slice_get rest n ≡ o
        → added_item rest n o ≡ Some (item, left) → IsSpelled (line ++ 10 ∷ rest) item left
    at-number n number None there e = absurd (no_request (pair item left) e)
    at-number n number (Some b) there e = at-byte n number b there (is_newline b) refl e

    by : (o : Option ℕ) → decimal_of more ≡ o → option_and_then (λ n. added_item rest n (slice_get rest n)) o
        ≡ Some (item, left) → IsSpelled (line ++ 10 ∷ rest) item left
    by None number e = absurd (no_request (pair item left) e)
    by (Some n) number e = at-number n number (slice_get rest n) refl e

removal-spelled : (line more rest : List ℕ) (item : BatchItem) (left : List ℕ) → line ≡ codes "DROP" ++ 32 ∷ more
    → removal_of more rest ≡ Some (item, left) → IsSpelled (line ++ 10 ∷ rest) item left
removal-spelled line [] rest item left cut e = absurd (no_request (pair item left) e)
removal-spelled line (letter ∷ digits) rest item left cut e = by (letter == 97) refl e
  where
    at-number : (o : Option ℕ) → decimal_of digits ≡ o → letter ≡ 97
        → option_map (λ (k : ℕ). pair (DropId k) rest) o ≡ Some (item, left) → IsSpelled (line ++ 10 ∷ rest) item left
    at-number None number is e = absurd (no_request (pair item left) e)
    at-number (Some k) number is e =
        let w = number_written digits k number in
        let whole : line ++ 10 ∷ rest ≡ (codes "DROP" ++ 32 ∷ 97 ∷ decimal k) ++ 10 ∷ rest =
        ap (λ l. l ++ 10 ∷ rest) (cut ∙ ap (λ a. codes "DROP" ++ 32 ∷ a ∷ digits) is
        ∙ ap (λ m. codes "DROP" ++ 32 ∷ 97 ∷ m) w.same) in
        spelled-by (line ++ 10 ∷ rest) (DropId k) item rest left e
        (record { same = whole ∙ drop-due (decimal k) rest; short = w.short })

    by : (t : Bool) → (letter == 97) ≡ t
        → option_map (λ (k : ℕ). pair (DropId k) rest) (cond t (decimal_of digits) None) ≡ Some (item, left)
        → IsSpelled (line ++ 10 ∷ rest) item left
    by true is e = at-number (decimal_of digits) refl ((Decides-eqb letter 97).0 is) e
    by false is e = absurd (no_request (pair item left) e)

line-spelled : (line rest : List ℕ) (item : BatchItem) (left : List ℕ) → item_of_line line rest ≡ Some (item, left)
    → IsSpelled (line ++ 10 ∷ rest) item left
line-spelled line rest item left e =
    by (bytes_eq (before_first is_space line) (codes "ADD")) (bytes_eq (before_first is_space line) (codes "DROP")) refl
    refl e
  where
    word : List ℕ
    word = before_first is_space line

    adds : word ≡ codes "ADD" → (o : Option (List ℕ)) → behind_space line ≡ o
        → option_and_then (λ more. addition_of more rest) o ≡ Some (item, left)
        → IsSpelled (line ++ 10 ∷ rest) item left
    adds is None behind e = absurd (no_request (pair item left) e)
    adds is (Some more) behind e = addition-spelled line more rest item left (split_line line more behind
        ∙ ap (λ w. w ++ 32 ∷ more) is) e

    drops : word ≡ codes "DROP" → (o : Option (List ℕ)) → behind_space line ≡ o
        → option_and_then (λ more. removal_of more rest) o ≡ Some (item, left) → IsSpelled (line ++ 10 ∷ rest) item left
    drops is None behind e = absurd (no_request (pair item left) e)
    drops is (Some more) behind e = removal-spelled line more rest item left (split_line line more behind
        ∙ ap (λ w. w ++ 32 ∷ more) is) e

    by : (add drop : Bool) → bytes_eq word (codes "ADD") ≡ add → bytes_eq word (codes "DROP") ≡ drop
        → cond add (option_and_then (λ more. addition_of more rest) (behind_space line))
        (cond drop (option_and_then (λ more. removal_of more rest) (behind_space line)) None) ≡ Some (item, left)
        → IsSpelled (line ++ 10 ∷ rest) item left
    by true drop is other e = adds ((bytes_eq-Decides word (codes "ADD")).0 is) (behind_space line) refl e
    by false true other is e = drops ((bytes_eq-Decides word (codes "DROP")).0 is) (behind_space line) refl e
    by false false other another e = absurd (no_request (pair item left) e)

pub first-spelled : (text : List ℕ) (item : BatchItem) (left : List ℕ) → first_item text ≡ Some (item, left)
    → IsSpelled text item left
first-spelled text item left e = by (list_any is_newline text) refl e
  where
    by : (t : Bool) → list_any is_newline text ≡ t
        → cond t (item_of_line (before_first is_newline text) (after_first is_newline text)) None ≡ Some (item, left)
        → IsSpelled text item left
    by true is e =
        let cut = newline-cut text is in
        subst (λ t. IsSpelled t item left) (sym cut)
        (line-spelled (before_first is_newline text) (after_first is_newline text) item left e)
    by false is e = absurd (no_request (pair item left) e)

-- An item that stands at the beginning of a text is read.

number-plain : (n : ℕ) → n < 1000000000 → list_any is_newline (decimal n) ≡ false
number-plain n small = number_lacks 10 n (omega arith) small

slice-at : (text left : List ℕ) → slice_get (text ++ 10 ∷ left) (length text) ≡ Some 10
slice-at [] left = refl
slice-at (x ∷ text) left = slice-at text left

has-newline : (line rest : List ℕ) → list_any is_newline (line ++ 10 ∷ rest) ≡ true
has-newline [] rest = refl
has-newline (b ∷ line) rest = by (is_newline b) (has-newline line rest)
  where
    by : (t : Bool) → list_any is_newline (line ++ 10 ∷ rest) ≡ true
        → (t || list_any is_newline (line ++ 10 ∷ rest)) ≡ true
    by true more = refl
    by false more = more

first-of_line : (line rest : List ℕ) → list_any is_newline line ≡ false
    → first_item (line ++ 10 ∷ rest) ≡ item_of_line line rest
first-of_line line rest none =
    ap (λ t. cond t (item_of_line (before_first is_newline (line ++ 10 ∷ rest))
    (after_first is_newline (line ++ 10 ∷ rest))) None) (has-newline line rest)
    ∙ ap (λ l. item_of_line l (after_first is_newline (line ++ 10 ∷ rest))) (before_at line rest none)
    ∙ ap (λ r. item_of_line line r) (after_at line rest none)

added-read : (text left : List ℕ)
    → added_item (text ++ 10 ∷ left) (length text) (slice_get (text ++ 10 ∷ left) (length text))
    ≡ Some (AddText text, left)
added-read text left =
    ap (λ o. added_item (text ++ 10 ∷ left) (length text) o) (slice-at text left)
    ∙ ap (λ t. found (AddText t) (drop (length text + 1) (text ++ 10 ∷ left)))
    (take_at text (10 ∷ left) (length text) refl)
    ∙ ap (λ r. found (AddText text) r) (drop-append-add text (10 ∷ left) 1)

pub first-read : (item : BatchItem) (left : List ℕ) → IsShortItem item
    → first_item (item_text item ++ left) ≡ Some (item, left)
first-read (AddText text) left short =
    ap first_item (sym (add-due (decimal (length text)) text left))
    ∙ first-of_line (codes "ADD " ++ decimal (length text)) (text ++ 10 ∷ left) (number-plain (length text) short)
    ∙ ap (λ o. option_and_then (λ n. added_item (text ++ 10 ∷ left) n (slice_get (text ++ 10 ∷ left) n)) o)
    (number_read (length text) short)
    ∙ added-read text left
first-read (DropId k) left short =
    ap first_item (sym (drop-due (decimal k) left))
    ∙ first-of_line (codes "DROP a" ++ decimal k) left (number-plain k short)
    ∙ ap (λ o. option_map (λ (n : ℕ). pair (DropId n) left) o) (number_read k short)

-- no item begins where none is read
pub none-begins : (text : List ℕ) → first_item text ≡ None → (item : BatchItem) (left : List ℕ) → IsShortItem item
    → text ≡ item_text item ++ left → ⊥
none-begins text none item left short e =
    no_request (pair item left) (sym none ∙ ap first_item e ∙ first-read item left short)

-- and none is read where none begins
pub none-read : (text : List ℕ)
    → ((item : BatchItem) (left : List ℕ) → IsShortItem item → text ≡ item_text item ++ left → ⊥)
    → first_item text ≡ None
none-read text none = by (first_item text) refl
  where
    by : (o : Option (BatchItem × List ℕ)) → first_item text ≡ o → first_item text ≡ None
    by None e = e
    by (Some first) e = let s = first-spelled text first.0 first.1 e in absurd (none first.0 first.1 s.short s.same)
