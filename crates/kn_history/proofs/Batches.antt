-- Items that are numbered one behind the other, and the first that is refused.
use Rattle.std.proofs.Common.{◌≡◌, ◌↔◌, ℕ, ◌+◌, Bool, true, false, ◌&&◌, is_none, Option, List, [], ◌∷◌, ◌++◌, length}
use Rattle.std.proofs.Common.{refl, sym, ap, ◌∙◌, arith, Some, None, append_assoc, append-nil, eq-eqb}
use Rattle.std.specs.Prelude.{◌==◌, nat_le, sum_by}
use Rattle.std.specs.List.{list_all}
use Rattle.std.proofs.lemmas.Bool.{and_parts}
use Rattle.std.proofs.lemmas.Bool.Decides.{Decides-eqb}
use Rattle.std.proofs.lemmas.Option.{same_Some}
use Rattle.kn_history.specs.declared.item.Item.{Item}
use Rattle.kn_history.specs.declared.item.Item.TheVariants as I
use Rattle.std.proofs.lemmas.List.Sums.{sum_by_push, sum_by-cons}
use Rattle.kn_history.specs.declared.update.Change.{Change}
use Rattle.kn_history.specs.declared.update.Change.TheVariants.{Add, Remove}
use Rattle.kn_history.specs.declared.update.Update.{Update}
use Rattle.kn_history.specs.declared.update.Numbered.{Numbered}
use Rattle.kn_history.specs.declared.fault.StoreFault.{StoreFault}
use Rattle.kn_history.specs.History.{additions, added_count, refusal_of, is_well_numbered, may_follow, all_may_follow}
use Rattle.kn_history.specs.History.{update_may_follow}
use Rattle.kn_history.specs.Batches.{number_item, all_numbered, numbered_from, item_in, items_in, refusal_of_item}
use Rattle.kn_history.specs.Batches.{found_at, refused_from, refusal_of_items, batch_by, item_reads, items_may_follow}
use Rattle.kn_history.specs.Batches.{IsRefusedItem}

-- The first item that is refused, where the items are counted from any number.
record IsRefusedFrom (from : ℕ) (past : List Numbered) (items : List Item) (number : ℕ) (fault : StoreFault) :
    Type 0 where
  front : List Item
  item : Item
  rest : List Item
  cut : items ≡ front ++ item ∷ rest
  place : number ≡ from + length front
  before : (first : List Item) (one : Item) (others : List Item) → front ≡ first ++ one ∷ others
      → refusal_of_item (past ++ all_numbered past first) one ≡ None
  refused : refusal_of_item (past ++ all_numbered past front) item ≡ Some fault

-- behind one more change
shift : (past : List Numbered) (item : Item) (front : List Item) (one : Item)
    → refusal_of_item ((past ++ number_item past item ∷ []) ++ all_numbered (past ++ number_item past item ∷ []) front)
    one
    ≡ refusal_of_item (past ++ all_numbered past (item ∷ front)) one
shift past item front one =
    ap (λ l. refusal_of_item l one)
    (append_assoc past (number_item past item ∷ []) (all_numbered (past ++ number_item past item ∷ []) front))

at_first : (past : List Numbered) (item : Item) → refusal_of_item (past ++ []) item ≡ refusal_of_item past item
at_first past item = ap (λ l. refusal_of_item l item) (append-nil past)

nothing_found : {X : Type 0} (x : X) → None ≡ Some x → ⊥
nothing_found x e = cc

no_front : (first : List Item) (one : Item) (others : List Item) → [] ≡ first ++ one ∷ others → ⊥
no_front [] one others e = cc
no_front (x ∷ first) one others e = cc

head_same : (x y : Item) (xs ys : List Item) → x ∷ xs ≡ y ∷ ys → x ≡ y
head_same x y xs ys e = cc

tail_same : (x y : Item) (xs ys : List Item) → x ∷ xs ≡ y ∷ ys → xs ≡ ys
tail_same x y xs ys e = cc

before-more : (past : List Numbered) (item : Item) (front : List Item) → refusal_of_item past item ≡ None
    → ((first : List Item) (one : Item) (others : List Item) → front ≡ first ++ one ∷ others
    → refusal_of_item ((past ++ number_item past item ∷ []) ++ all_numbered (past ++ number_item past item ∷ []) first)
    one ≡ None)
    → (first : List Item) (one : Item) (others : List Item) → item ∷ front ≡ first ++ one ∷ others
    → refusal_of_item (past ++ all_numbered past first) one ≡ None
before-more past item front here later [] one others e =
    at_first past one ∙ ap (refusal_of_item past) (sym (head_same item one front others e)) ∙ here
before-more past item front here later (x ∷ first) one others e =
    ap (λ y. refusal_of_item (past ++ all_numbered past (y ∷ first)) one)
    (sym (head_same item x front (first ++ one ∷ others) e))
    ∙ sym (shift past item first one) ∙ later first one others (tail_same item x front (first ++ one ∷ others) e)

refused-is : (from : ℕ) (past : List Numbered) (items : List Item) (number : ℕ) (fault : StoreFault)
    → refused_from from past items ≡ Some (number, fault) → IsRefusedFrom from past items number fault
refused-is from past [] number fault e = absurd (nothing_found (number, fault) e)
refused-is from past (item ∷ items) number fault e =
    by (refusal_of_item past item) refl e
    (refused-is (from + 1) (past ++ number_item past item ∷ []) items number fault)
  where
    by : (o : Option StoreFault) → refusal_of_item past item ≡ o
        → found_at from o (refused_from (from + 1) (past ++ number_item past item ∷ []) items) ≡ Some (number, fault)
        → (refused_from (from + 1) (past ++ number_item past item ∷ []) items ≡ Some (number, fault)
        → IsRefusedFrom (from + 1) (past ++ number_item past item ∷ []) items number fault)
        → IsRefusedFrom from past (item ∷ items) number fault
    by (Some found) is e deep =
        let same : (from, found) ≡ (number, fault) = same_Some (from, found) (number, fault) e in
        let number_same : from ≡ number = ap (λ (p : ℕ × StoreFault). p.0) same in
        record {
          front = [];
          item = item;
          rest = items;
          cut = refl;
          place = omega (arith, number_same);
          before = λ first one others c. absurd (no_front first one others c);
          refused = at_first past item ∙ is ∙ ap (λ (p : ℕ × StoreFault). Some p.1) same;
        }
    by None is e deep =
        let d = deep e in
        let place = d.place in
        record {
          front = item ∷ d.front;
          item = d.item;
          rest = d.rest;
          cut = ap (λ l. item ∷ l) d.cut;
          place = omega (arith, place);
          before = before-more past item d.front is d.before;
          refused = sym (shift past item d.front d.item) ∙ d.refused;
        }

is-refused : (from : ℕ) (past : List Numbered) (front : List Item) (item : Item) (rest : List Item) (number : ℕ)
    (fault : StoreFault) → number ≡ from + length front
    → ((first : List Item) (one : Item) (others : List Item) → front ≡ first ++ one ∷ others
    → refusal_of_item (past ++ all_numbered past first) one ≡ None)
    → refusal_of_item (past ++ all_numbered past front) item ≡ Some fault
    → refused_from from past (front ++ item ∷ rest) ≡ Some (number, fault)
is-refused from past [] item rest number fault place before refused =
    let same : from ≡ number = omega (arith, place) in
    ap (λ o. found_at from o (refused_from (from + 1) (past ++ number_item past item ∷ []) rest))
    (sym (at_first past item)
    ∙ refused)
    ∙ ap (λ (n : ℕ). Some (n, fault)) same
is-refused from past (x ∷ front) item rest number fault place before refused =
    ap (λ o. found_at from o (refused_from (from + 1) (past ++ number_item past x ∷ []) (front ++ item ∷ rest)))
    (sym (at_first past x) ∙ before [] x front refl)
    ∙ is-refused (from + 1) (past ++ number_item past x ∷ []) front item rest number fault (omega (arith, place))
    (λ first one others c. shift past x first one ∙ before (x ∷ first) one others (ap (λ l. x ∷ l) c))
    (shift past x front item ∙ refused)

pub refused_items : (past : List Numbered) (items : List Item) (number : ℕ) (fault : StoreFault)
    → (refusal_of_items past items ≡ Some (number, fault)) ↔ IsRefusedItem past items number fault
refused_items past items number fault = (there, back)
  where
    there : refusal_of_items past items ≡ Some (number, fault) → IsRefusedItem past items number fault
    there e =
        let r = refused-is 1 past items number fault e in
        let place = r.place in
        record {
          front = r.front;
          item = r.item;
          rest = r.rest;
          cut = r.cut;
          place = omega (arith, place);
          before =
              r.before;
          refused = r.refused;
        }

    back : IsRefusedItem past items number fault → refusal_of_items past items ≡ Some (number, fault)
    back r =
        let place = r.place in
        ap (refused_from 1 past) r.cut
        ∙ is-refused 1 past r.front r.item r.rest number fault (omega (arith, place)) r.before r.refused

-- What may follow.

item-follows : (past : List Numbered) (item : Item)
    → may_follow past (number_item past item) ≡ (is_none (refusal_of_item past item) && item_reads item)
item-follows past (I.Add text) =
    ap (λ t. is_none (refusal_of_item past (I.Add text)) && (t && item_reads (I.Add text)))
    (eq-eqb (additions past + 1) (additions past + 1) refl)
item-follows past (I.Remove id) = refl

together : (refused : Option StoreFault) (number : ℕ) (later : Option (ℕ × StoreFault)) (reads rest : Bool)
    → ((is_none refused && reads) && (is_none later && rest))
    ≡ (is_none (found_at number refused later) && (reads && rest))
together (Some fault) number later reads rest = refl
together None number (Some later) true rest = refl
together None number (Some later) false rest = refl
together None number None true rest = refl
together None number None false rest = refl

all-follow : (from : ℕ) (past : List Numbered) (items : List Item)
    → all_may_follow past (all_numbered past items)
    ≡ (is_none (refused_from from past items) && list_all item_reads items)
all-follow from past [] = refl
all-follow from past (item ∷ items) =
    ap (λ t. t && all_may_follow (past ++ number_item past item ∷ [])
    (all_numbered (past ++ number_item past item ∷ []) items)) (item-follows past item)
    ∙ ap (λ t. (is_none (refusal_of_item past item) && item_reads item) && t)
    (all-follow (from + 1) (past ++ number_item past item ∷ []) items)
    ∙ together (refusal_of_item past item) from (refused_from (from + 1) (past ++ number_item past item ∷ []) items)
    (item_reads item) (list_all item_reads items)

pub length-numbered : (past : List Numbered) (items : List Item) → length (all_numbered past items) ≡ length items
length-numbered past [] = refl
length-numbered past (item ∷ items) = let rest = length-numbered (past ++ number_item past item ∷ []) items in
    omega (arith, rest)

pub ids-go_on : (past : List Numbered) (items : List Item)
    → all_numbered past items ≡ numbered_from (additions past + 1) items
ids-go_on past [] = refl
ids-go_on past (I.Add text ∷ items) =
    let c : Numbered = record { change = Add text; id = additions past + 1 } in
    let more : additions (past ++ c ∷ []) ≡ additions past + 1 =
    sum_by_push (λ (x : Numbered). added_count x.change) past c in
    ap (λ l. c ∷ l) (ids-go_on (past ++ c ∷ []) items ∙ ap (λ (n : ℕ). numbered_from (n + 1) items) more)
ids-go_on past (I.Remove id ∷ items) =
    let c : Numbered = record { change = Remove; id = id } in
    let pushed : additions (past ++ c ∷ []) ≡ additions past + 0 =
    sum_by_push (λ (x : Numbered). added_count x.change) past c in
    let same : additions (past ++ c ∷ []) ≡ additions past = omega (arith, pushed) in
    ap (λ l. c ∷ l) (ids-go_on (past ++ c ∷ []) items ∙ ap (λ (n : ℕ). numbered_from (n + 1) items) same)

pub batch-follows : (caller : ℕ) (past : List Numbered) (items : List Item)
    → update_may_follow past (batch_by caller (additions past + 1) items) ≡ items_may_follow past items
batch-follows caller past items =
    ap (λ l. (nat_le 1 (length l) && nat_le (length l) 256) && all_may_follow past l) (sym (ids-go_on past items))
    ∙ ap (λ n. (nat_le 1 n && nat_le n 256) && all_may_follow past (all_numbered past items))
    (length-numbered past items)
    ∙ ap (λ t. (nat_le 1 (length items) && nat_le (length items) 256) && t) (all-follow 1 past items)

-- The items of changes that follow one another.

one-determined : (past : List Numbered) (change : Change) (id : ℕ) (rest : List Numbered)
    → is_well_numbered past change id ≡ true
    → rest ≡ numbered_from (additions (past ++ record { change = change; id = id } ∷ []) + 1) (items_in rest)
    → record { change = change; id = id } ∷ rest
    ≡ numbered_from (additions past + 1) (item_in change id ∷ items_in rest)
one-determined past (Add text) id rest well more =
    let c : Numbered = record { change = Add text; id = id } in
    let same : id ≡ additions past + 1 =
    (Decides-eqb id (additions past + 1)).0 (and_parts (id == additions past + 1) _ well).0 in
    let pushed : additions (past ++ c ∷ []) ≡ additions past + 1 =
    sum_by_push (λ (x : Numbered). added_count x.change) past c in
    ap (λ (n : ℕ). record { change = Add text; id = n } ∷ rest) same
    ∙ ap (λ l. record { change = Add text; id = additions past + 1 } ∷ l) (more
    ∙ ap (λ (n : ℕ). numbered_from (n + 1) (items_in rest)) pushed)
one-determined past Remove id rest well more =
    let c : Numbered = record { change = Remove; id = id } in
    let pushed : additions (past ++ c ∷ []) ≡ additions past + 0 =
    sum_by_push (λ (x : Numbered). added_count x.change) past c in
    let same : additions (past ++ c ∷ []) ≡ additions past = omega (arith, pushed) in
    ap (λ l. c ∷ l) (more ∙ ap (λ (n : ℕ). numbered_from (n + 1) (items_in rest)) same)

all-determined : (past changes : List Numbered) → all_may_follow past changes ≡ true
    → changes ≡ numbered_from (additions past + 1) (items_in changes)
all-determined past [] follow = refl
all-determined past (c ∷ changes) follow =
    let parts = and_parts (may_follow past c) (all_may_follow (past ++ c ∷ []) changes) follow in
    let well = (and_parts (is_none (refusal_of past c.change c.id)) (is_well_numbered past c.change c.id) parts.0).1 in
    one-determined past c.change c.id changes well (all-determined (past ++ c ∷ []) changes parts.1)

pub items-determine : (past : List Numbered) (update : Update) → update_may_follow past update ≡ true
    → update ≡ batch_by update.caller (additions past + 1) (items_in update.changes)
items-determine past update follow =
    let changes = (and_parts (nat_le 1 (length update.changes) && nat_le (length update.changes) 256)
    (all_may_follow past update.changes) follow).1 in
    ap (λ l. record { caller = update.caller; changes = l }) (all-determined past update.changes changes)

-- How many items are additions.

abbrev pub added_by : Item → ℕ
added_by (I.Add text) = 1
added_by (I.Remove id) = 0

pub additions-numbered : (next : ℕ) (items : List Item) → additions (numbered_from next items) ≡ sum_by added_by items
additions-numbered next [] = refl
additions-numbered next (I.Add text ∷ items) =
    let c : Numbered = record { change = Add text; id = next } in
    sum_by-cons (λ (x : Numbered). added_count x.change) c (numbered_from (next + 1) items)
    ∙ ap (λ (n : ℕ). 1 + n) (additions-numbered (next + 1) items) ∙ sym (sum_by-cons added_by (I.Add text) items)
additions-numbered next (I.Remove id ∷ items) =
    let c : Numbered = record { change = Remove; id = id } in
    sum_by-cons (λ (x : Numbered). added_count x.change) c (numbered_from next items)
    ∙ ap (λ (n : ℕ). 0 + n) (additions-numbered next items) ∙ sym (sum_by-cons added_by (I.Remove id) items)
