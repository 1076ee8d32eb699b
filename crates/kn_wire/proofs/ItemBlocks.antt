-- The items that are read of a block are those of which it is made, and else it departs from their form where that is
-- told.
use Rattle.std.proofs.Common.{◌≡◌, ◌≢◌, ◌⊎◌, ℕ, zero, suc, ◌+◌, ◌≤◌, Option, Some, None, Result, Ok, Err, List, [], ◌∷◌}
use Rattle.std.proofs.Common.{◌++◌, length, flat_map, inl, inr, refl, sym, ap, ◌∙◌, subst, arith, append_assoc}
use Rattle.std.proofs.Common.{append-nil}
use Rattle.std.specs.List.{AllByRecursion}
use Rattle.std.proofs.lemmas.List.{length_push}
use Rattle.kn_wire.specs.Items.{BatchItem, AddText, DropId, item_text, first_item, item_before, items_behind}
use Rattle.kn_wire.specs.Items.{items_from, items_of, IsShortItem, AreItems, DepartsAt}
use Rattle.kn_wire.proofs.ItemTexts.{first-spelled, first-read, none-begins, none-read}
use Rattle.kn_wire.proofs.ItemSteps.{BeginsWith, begins_with_none, begins_with_more, items_are, departs_here}
use Rattle.kn_wire.proofs.ItemSteps.{departs_behind, not_nothing}

-- The items that are read are those of the block.

-- a text is at most so many items
record AreRead (most : ℕ) (text : List ℕ) (items : List BatchItem) : Type 0 where
  few : length items ≤ most
  joined : text ≡ flat_map item_text items
  short : AllByRecursion IsShortItem items

no_ok : (n : ℕ) (items : List BatchItem) (r : Result (List BatchItem) ℕ) → r ≡ Err n → r ≡ Ok items → ⊥
no_ok n items r e h = cc

same_Ok : (x y : List BatchItem) (r : Result (List BatchItem) ℕ) → r ≡ Ok x → r ≡ Ok y → x ≡ y
same_Ok x y r e h = cc

read-items : (most number : ℕ) (text : List ℕ) (items : List BatchItem) → items_from most number text ≡ Ok items
    → AreRead most text items
read-items zero number [] items e = let same : [] ≡ items = same_Ok [] items (Ok []) refl e in
    subst (AreRead 0 []) same (record { few = omega arith; joined = refl; short = tt })
read-items zero number (b ∷ text) items e = absurd (no_ok number items (Err number) refl e)
read-items (suc most) number [] items e = let same : [] ≡ items = same_Ok [] items (Ok []) refl e in
    subst (AreRead (suc most) []) same (record { few = omega arith; joined = refl; short = tt })
read-items (suc most) number (b ∷ text) items e =
    by (first_item (b ∷ text)) refl e (λ left rest. read-items most (number + 1) left rest)
  where
    behind : (item : BatchItem) (left : List ℕ) → first_item (b ∷ text) ≡ Some (item, left)
        → (found : Result (List BatchItem) ℕ) → item_before item found ≡ Ok items
        → ((rest : List BatchItem) → found ≡ Ok rest → AreRead most left rest) → AreRead (suc most) (b ∷ text) items
    behind item left first (Ok rest) e more =
        let r = more rest refl in
        let s = first-spelled (b ∷ text) item left first in
        let fewer = r.few in
        subst (AreRead (suc most) (b ∷ text)) (same_Ok (item ∷ rest) items (Ok (item ∷ rest)) refl e)
        (record {
          few = omega (arith, fewer);
          joined = s.same ∙ ap (λ l. item_text item ++ l) r.joined;
          short =
              (s.short, r.short);
        })
    behind item left first (Err n) e more = absurd (no_ok n items (Err n) refl e)

    by : (o : Option (BatchItem × List ℕ)) → first_item (b ∷ text) ≡ o
        → items_behind number o (λ left. items_from most (number + 1) left) ≡ Ok items
        → ((left : List ℕ) (rest : List BatchItem) → items_from most (number + 1) left ≡ Ok rest
        → AreRead most left rest) → AreRead (suc most) (b ∷ text) items
    by None first e more = absurd (no_ok number items (Err number) refl e)
    by (Some found) first e more = behind found.0 found.1 first (items_from most (number + 1) found.1) e (more found.1)

pub read-are_items : (block : List ℕ) (items : List BatchItem) → items_of block ≡ Ok items → AreItems block items
    × AllByRecursion IsShortItem items
read-are_items [] items e = absurd (no_ok 1 items (Err 1) refl e)
read-are_items (b ∷ text) items e = by items (read-items 256 1 (b ∷ text) items e)
  where
    by : (read : List BatchItem) → AreRead 256 (b ∷ text) read → AreItems (b ∷ text) read
        × AllByRecursion IsShortItem read
    by [] r = absurd (not_nothing b text r.joined)
    by (item ∷ read) r = (record { some = omega arith; few = r.few; joined = r.joined }, r.short)

-- The items of a block are read.

some-text : (item : BatchItem) (left : List ℕ) → (b : ℕ) × (text : List ℕ) × (item_text item ++ left ≡ b ∷ text)
some-text (AddText text) left = (65, _, refl)
some-text (DropId k) left = (68, _, refl)

not_empty : (item : BatchItem) (left text : List ℕ) → text ≡ item_text item ++ left → text ≢ []
not_empty item left text e over = let s = some-text item left in not_nothing s.0 s.1 (sym (sym over ∙ e ∙ s.2))

-- behind items with which a block begins, the items that stand there are read too
more-begin : (block : List ℕ) (done items : List BatchItem) (rest : List ℕ)
    → BeginsWith block done (flat_map item_text items ++ rest) → length done + length items ≤ 256
    → AllByRecursion IsShortItem items
    → BeginsWith block (done ++ items) rest
more-begin block done [] rest begins few short =
    subst (λ (l : List BatchItem). BeginsWith block l rest) (sym (append-nil done)) begins
more-begin block done (item ∷ items) rest begins few short =
    let left = flat_map item_text items ++ rest in
    let first = ap first_item (append_assoc (item_text item) (flat_map item_text items) rest)
    ∙ first-read item left short.0 in
    let next = begins_with_more block done (flat_map item_text (item ∷ items) ++ rest) left item begins
    (omega (arith, few)) first in
    let size = length_push done item in
    subst (λ (l : List BatchItem). BeginsWith block l rest) (append_assoc done (item ∷ []) items)
    (more-begin block (done ++ item ∷ []) items rest next (omega (arith, few, size)) short.1)

-- the items that stand in front of a block are read
front-begins : (block : List ℕ) (front : List BatchItem) (rest : List ℕ) → block ≢ []
    → block ≡ flat_map item_text front ++ rest → length front ≤ 256 → AllByRecursion IsShortItem front
    → BeginsWith block front rest
front-begins block front rest some cut few short =
    more-begin block [] front rest (subst (λ t. BeginsWith block [] t) cut (begins_with_none block some))
    (omega (arith, few)) short

pub items-are_read : (block : List ℕ) (items : List BatchItem) → AreItems block items → AllByRecursion IsShortItem items
    → items_of block ≡ Ok items
items-are_read block [] are short = let some = are.some in absurd (omega (arith, some))
items-are_read block (item ∷ items) are short =
    let some = not_empty item (flat_map item_text items) block are.joined in
    items_are block (item ∷ items) []
    (front-begins block (item ∷ items) [] some (are.joined ∙ sym (append-nil (flat_map item_text (item ∷ items))))
    are.few short) refl

-- Where a block departs from the form.

-- so many items may still come, the next has this number, and the text departs from the form at that one
record IsStuck (most number : ℕ) (text : List ℕ) (at : ℕ) : Type 0 where
  front : List BatchItem
  rest : List ℕ
  cut : text ≡ flat_map item_text front ++ rest
  place : at ≡ length front + number
  within : length front ≤ most
  short : AllByRecursion IsShortItem front
  there : rest ≢ []
  why : (length front ≡ most)
      ⊎ ((item : BatchItem) (left : List ℕ) → IsShortItem item → rest ≡ item_text item ++ left → ⊥)

why-more : (n most : ℕ) (rest : List ℕ)
    → ((n ≡ most) ⊎ ((item : BatchItem) (left : List ℕ) → IsShortItem item → rest ≡ item_text item ++ left → ⊥))
    → (suc n ≡ suc most) ⊎ ((item : BatchItem) (left : List ℕ) → IsShortItem item → rest ≡ item_text item ++ left → ⊥)
why-more n most rest (inl full) = inl (ap (λ k. suc k) full)
why-more n most rest (inr none) = inr none

same_Err : (m n : ℕ) (r : Result (List BatchItem) ℕ) → r ≡ Err m → r ≡ Err n → m ≡ n
same_Err m n r e h = cc

stuck : (most number : ℕ) (text : List ℕ) (at : ℕ) → items_from most number text ≡ Err at → IsStuck most number text at
stuck zero number [] at e = absurd (no_ok at [] (Ok []) e refl)
stuck zero number (b ∷ text) at e =
    let same : number ≡ at = same_Err number at (Err number) refl e in
    record {
      front = [];
      rest = b ∷ text;
      cut = refl;
      place = omega (arith, same);
      within = omega arith;
      short = tt;
      there = not_nothing b text;
      why = inl refl;
    }
stuck (suc most) number [] at e = absurd (no_ok at [] (Ok []) e refl)
stuck (suc most) number (b ∷ text) at e =
    by (first_item (b ∷ text)) refl e (λ left rest. stuck most (number + 1) left at rest)
  where
    behind : (item : BatchItem) (left : List ℕ) → first_item (b ∷ text) ≡ Some (item, left)
        → (found : Result (List BatchItem) ℕ) → item_before item found ≡ Err at
        → (found ≡ Err at → IsStuck most (number + 1) left at) → IsStuck (suc most) number (b ∷ text) at
    behind item left first (Ok items) e more = absurd (no_ok at (item ∷ items) (Ok (item ∷ items)) e refl)
    behind item left first (Err n) e more =
        let s = more e in
        let spelled = first-spelled (b ∷ text) item left first in
        let place = s.place in
        let within = s.within in
        record {
          front = item ∷ s.front;
          rest = s.rest;
          cut = spelled.same ∙ ap (λ l. item_text item ++ l) s.cut
              ∙ sym (append_assoc (item_text item) (flat_map item_text s.front) s.rest);
          place = omega (arith, place);
          within = omega (arith, within);
          short = (spelled.short, s.short);
          there = s.there;
          why = why-more (length s.front) most s.rest s.why;
        }

    by : (o : Option (BatchItem × List ℕ)) → first_item (b ∷ text) ≡ o
        → items_behind number o (λ left. items_from most (number + 1) left) ≡ Err at
        → ((left : List ℕ) → items_from most (number + 1) left ≡ Err at → IsStuck most (number + 1) left at)
        → IsStuck (suc most) number (b ∷ text) at
    by None first e more =
        let same : number ≡ at = same_Err number at (Err number) refl e in
        record {
          front = [];
          rest = b ∷ text;
          cut = refl;
          place = omega (arith, same);
          within = omega arith;
          short = tt;
          there = not_nothing b text;
          why = inr (none-begins (b ∷ text) first);
        }
    by (Some found) first e more = behind found.0 found.1 first (items_from most (number + 1) found.1) e (more found.1)

pub block-departs : (block : List ℕ) (number : ℕ) → items_of block ≡ Err number → DepartsAt block number
block-departs [] number e =
    let same : 1 ≡ number = same_Err 1 number (Err 1) refl e in
    record {
      front = [];
      rest = [];
      cut = refl;
      place = omega (arith, same);
      within = omega arith;
      short = tt;
      there =
          inr refl;
      why = inr nothing-begins;
    }
  where
    nothing-begins : (item : BatchItem) (left : List ℕ) → IsShortItem item → [] ≡ item_text item ++ left → ⊥
    nothing-begins item left short e = not_empty item left [] e refl
block-departs (b ∷ text) number e =
    let s = stuck 256 1 (b ∷ text) number e in
    record {
      front = s.front;
      rest = s.rest;
      cut = s.cut;
      place = s.place;
      within = s.within;
      short = s.short;
      there =
          inl s.there;
      why = s.why;
    }

-- What departs from the form is refused.

rest-some : (block : List ℕ) (front : List BatchItem) (rest : List ℕ) → block ≢ []
    → block ≡ flat_map item_text front ++ rest → (rest ≢ []) ⊎ (front ≡ []) → rest ≢ []
rest-some block front rest some cut (inl there) = there
rest-some block front rest some cut (inr none) =
    λ over. some (cut ∙ ap (λ (l : List BatchItem). flat_map item_text l ++ rest) none ∙ over)

refused : (block : List ℕ) (front : List BatchItem) (rest : List ℕ) (number : ℕ) → BeginsWith block front rest
    → rest ≢ [] → number ≡ length front + 1
    → ((length front ≡ 256)
    ⊎ ((item : BatchItem) (left : List ℕ) → IsShortItem item → rest ≡ item_text item ++ left → ⊥))
    → items_of block ≡ Err number
refused block front rest number begins some place (inl full) =
    departs_behind block front rest number begins some place (omega (arith, place, full))
refused block front rest number begins some place (inr none) =
    departs_here block front rest number begins some place (none-read rest none)

empty-refused : (front : List BatchItem) (rest : List ℕ) (number : ℕ) → [] ≡ flat_map item_text front ++ rest
    → number ≡ length front + 1 → items_of [] ≡ Err number
empty-refused [] rest number cut place = ap (λ (n : ℕ). Err n) (sym place)
empty-refused (item ∷ front) rest number cut place =
    absurd (not_empty item (flat_map item_text front ++ rest) [] (cut
    ∙ append_assoc (item_text item) (flat_map item_text front) rest) refl)

pub departing-is_refused : (block : List ℕ) (number : ℕ) → DepartsAt block number → items_of block ≡ Err number
departing-is_refused [] number d = empty-refused d.front d.rest number d.cut d.place
departing-is_refused (b ∷ text) number d =
    let some = not_nothing b text in
    let begins = front-begins (b ∷ text) d.front d.rest some d.cut d.within d.short in
    refused (b ∷ text) d.front d.rest number begins (rest-some (b ∷ text) d.front d.rest some d.cut d.there) d.place
    d.why
