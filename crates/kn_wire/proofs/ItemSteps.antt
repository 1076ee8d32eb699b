-- The items of a block, read one after the other.
use Rattle.std.proofs.Common.{◌≡◌, ◌≢◌, ℕ, zero, suc, ◌+◌, ◌-◌, ◌<◌, ◌≤◌, ◌==◌, Bool, true, false, Some, None, Result}
use Rattle.std.proofs.Common.{Ok, Err, List, [], ◌∷◌, ◌++◌, length, take, drop, refl, sym, ap, ◌∙◌, arith, append_assoc}
use Rattle.std.proofs.Common.{append-nil}
use Rattle.std.specs.Prelude.{if◌then◌else◌}
use Rattle.std.specs.List.{list_any, before_first, after_first}
use Rattle.std.proofs.lemmas.Bool.Decides.{Decides-eqb}
use Rattle.std.proofs.lemmas.List.{length_push}
use Rattle.kn_wire.specs.Items.{BatchItem, first_item, item_of_line, item_before, items_behind, items_from, items_of}
use Rattle.kn_wire.specs.Requests.{is_newline, line_length}
use Rattle.kn_wire.proofs.Growing.{ended-length, open-length}

-- the items in front, and those that are found behind them
abbrev pub items_after : List BatchItem → Result (List BatchItem) ℕ → Result (List BatchItem) ℕ
items_after front (Ok items) = Ok (front ++ items)
items_after front (Err number) = Err number

-- a block begins with these items, and this is left of it
pub record BeginsWith (block : List ℕ) (front : List BatchItem) (left : List ℕ) : Type 0 where
  pub few : length front ≤ 256
  pub found : items_of block ≡ items_after front (items_from (256 - length front) (length front + 1) left)

pub begins_with_none : (block : List ℕ) → block ≢ [] → BeginsWith block [] block
begins_with_none [] some = absurd (some refl)
begins_with_none (b ∷ text) some = record { few = omega arith; found = by (items_from 256 1 (b ∷ text)) }
  where
    by : (found : Result (List BatchItem) ℕ) → found ≡ items_after [] found
    by (Ok items) = refl
    by (Err number) = refl

one_item : (more number : ℕ) (text left : List ℕ) (item : BatchItem) → first_item text ≡ Some (item, left)
    → items_from (suc more) number text ≡ item_before item (items_from more (number + 1) left)
one_item more number [] left item first = cc
one_item more number (b ∷ text) left item first =
    ap (λ found. items_behind number found (λ rest. items_from more (number + 1) rest)) first

after_one_more : (front : List BatchItem) (item : BatchItem) (found : Result (List BatchItem) ℕ)
    → items_after front (item_before item found) ≡ items_after (front ++ item ∷ []) found
after_one_more front item (Ok items) = ap (λ (l : List BatchItem). Ok l) (sym (append_assoc front (item ∷ []) items))
after_one_more front item (Err number) = refl

pub begins_with_more : (block : List ℕ) (front : List BatchItem) (text left : List ℕ) (item : BatchItem)
    → BeginsWith block front text → length front < 256 → first_item text ≡ Some (item, left)
    → BeginsWith block (front ++ item ∷ []) left
begins_with_more block front text left item begins few first =
    let size : length (front ++ item ∷ []) ≡ length front + 1 = length_push front item in
    let most : 256 - length front ≡ suc (256 - (length front + 1)) = omega arith in
    record {
      few = omega arith;
      found = begins.found
          ∙ ap (λ n. items_after front (items_from n (length front + 1) text)) most
          ∙ ap (items_after front) (one_item (256 - (length front + 1)) (length front + 1) text left item first)
          ∙ after_one_more front item (items_from (256 - (length front + 1)) (length front + 1 + 1) left)
          ∙ sym (ap (λ n. items_after (front ++ item ∷ []) (items_from (256 - n) (n + 1) left)) size);
    }

none_left : (most number : ℕ) → items_from most number [] ≡ Ok []
none_left zero number = refl
none_left (suc most) number = refl

-- nothing is left, so these are the items
pub items_are : (block : List ℕ) (front : List BatchItem) (text : List ℕ) → BeginsWith block front text → text ≡ []
    → items_of block ≡ Ok front
items_are block front text begins over =
    begins.found
    ∙ ap (λ left. items_after front (items_from (256 - length front) (length front + 1) left)) over
    ∙ ap (items_after front) (none_left (256 - length front) (length front + 1))
    ∙ ap (λ (l : List BatchItem). Ok l) (append-nil front)

departs : (most number : ℕ) (text : List ℕ) → text ≢ [] → first_item text ≡ None
    → items_from most number text ≡ Err number
departs most number [] some none = absurd (some refl)
departs zero number (b ∷ text) some none = refl
departs (suc most) number (b ∷ text) some none =
    ap (λ found. items_behind number found (λ rest. items_from most (number + 1) rest)) none

-- no item begins what is left
pub departs_here : (block : List ℕ) (front : List BatchItem) (text : List ℕ) (number : ℕ) → BeginsWith block front text
    → text ≢ [] → number ≡ length front + 1 → first_item text ≡ None
    → items_of block ≡ Err number
departs_here block front text number begins some place none =
    begins.found
    ∙ ap (items_after front) (departs (256 - length front) (length front + 1) text some none)
    ∙ ap (λ (n : ℕ). Err n) (sym place)

no_more : (number : ℕ) (text : List ℕ) → text ≢ [] → items_from 0 number text ≡ Err number
no_more number [] some = absurd (some refl)
no_more number (b ∷ text) some = refl

-- as many items as there may be are followed by a byte
pub departs_behind : (block : List ℕ) (front : List BatchItem) (text : List ℕ) (number : ℕ)
    → BeginsWith block front text → text ≢ [] → number ≡ length front + 1 → 256 < number
    → items_of block ≡ Err number
departs_behind block front text number begins some place above =
    let most : 256 - length front ≡ 0 = omega arith in
    begins.found
    ∙ ap (λ n. items_after front (items_from n (length front + 1) text)) most
    ∙ ap (items_after front) (no_more (length front + 1) text some)
    ∙ ap (λ (n : ℕ). Err n) (sym place)

-- Whether bytes are left.

not_false : true ≡ false → ⊥
not_false e = cc

pub not_nothing : (b : ℕ) (text : List ℕ) → b ∷ text ≡ [] → ⊥
not_nothing b text e = cc

pub nothing_left : (text : List ℕ) → true ≡ (length text == 0) → text ≡ []
nothing_left [] e = refl
nothing_left (b ∷ text) e = let none = (Decides-eqb (length (b ∷ text)) 0).0 (sym e) in absurd (omega arith)

pub something_left : (text : List ℕ) → false ≡ (length text == 0) → text ≢ []
something_left [] e = absurd (not_false (sym e))
something_left (b ∷ text) e = not_nothing b text

-- The item with which a text begins, by its first line.

pub no_item : (text : List ℕ) (end : ℕ) → end ≡ line_length text → end ≡ length text → first_item text ≡ None
no_item text end place all = by (list_any is_newline text) refl
  where
    by : (t : Bool) → list_any is_newline text ≡ t → first_item text ≡ None
    by true any = let within = ended-length text any in absurd (omega arith)
    by false any = ap (λ t. if t then item_of_line (before_first is_newline text) (after_first is_newline text) else
        None) any

pub item_at : (text line left : List ℕ) (end : ℕ) → end ≡ line_length text → end < length text → line ≡ take end text
    → left ≡ drop (end + 1) text → item_of_line line left ≡ first_item text
item_at text line left end place within front back = by (list_any is_newline text) refl
  where
    by : (t : Bool) → list_any is_newline text ≡ t → item_of_line line left ≡ first_item text
    by true any =
        ap (λ l. item_of_line l left) (front ∙ ap (λ n. take n text) place)
        ∙ ap (λ l. item_of_line (before_first is_newline text) l) (back ∙ ap (λ n. drop (n + 1) text) place)
        ∙ sym (ap (λ t. if t then item_of_line (before_first is_newline text) (after_first is_newline text) else None)
        any)
    by false any = let all = open-length text any in absurd (omega arith)
