-- The items of a batch, one behind the other: what they make of the live credentials.
use Rattle.std.proofs.Common.{◌≡◌, ℕ, ◌+◌, ◌≤◌, true, List, [], ◌∷◌, ◌++◌, length, drop, Some, None}
use Rattle.std.proofs.Common.{refl, sym, ap, ◌∙◌, arith, append_assoc, append-nil}
use Rattle.std.specs.Prelude.{slice_get, slice_set}
use Rattle.std.specs.List.{list_all}
use Rattle.std.proofs.lemmas.Bool.{le-leb}
use Rattle.std.proofs.lemmas.List.{drop_more, drop-set-lt}
use Rattle.std.proofs.lemmas.Option.{get_or_from_slice_get, slice_get_within}
use Rattle.kn_history.specs.declared.item.Item.{Item}
use Rattle.kn_history.specs.declared.item.Item.TheVariants as I
use Rattle.kn_history.specs.declared.update.Numbered.{Numbered}
use Rattle.kn_history.specs.declared.fault.StoreFault.{StoreFault}
use Rattle.kn_history.specs.History.{additions, update_may_follow}
use Rattle.kn_history.specs.Batches.{number_item, all_numbered, numbered_from, batch_by, item_reads}
use Rattle.kn_history.specs.Batches.{refusal_of_item, found_at, refused_from, refusal_of_items}
use Rattle.kn_history.proofs.Batches.{ids-go_on, batch-follows}
use Rattle.kn_store.specs.LiveView.{LiveView, live_view}
use Rattle.kn_store.specs.ItemViews.{after_item, change_of, refusal_of}
use Rattle.kn_store.proofs.ViewLemmas.{view-addition, view-removal}

-- One item.

change-is : (past : List Numbered) (item : Item) → change_of (live_view past) item ≡ number_item past item
change-is past (I.Add text) = refl
change-is past (I.Remove id) = refl

refusal-is : (past : List Numbered) (item : Item) → refusal_of (live_view past) item ≡ refusal_of_item past item
refusal-is past (I.Add text) = refl
refusal-is past (I.Remove id) = refl

view-item : (past : List Numbered) (item : Item)
    → after_item (live_view past) item ≡ live_view (past ++ number_item past item ∷ [])
view-item past (I.Add text) = view-addition past text
view-item past (I.Remove id) = view-removal past id

-- Of these items some in front were made changes of, and these are left: what comes of all behind `past` is what comes
-- of the others behind the changes.
pub record AreMadeUpTo (past : List Numbered) (items : List Item) (place : ℕ) (live : LiveView)
    (changes : List Numbered) (left : List Item) : Type 0 where
  pub view : live ≡ live_view (past ++ changes)
  pub numbers : all_numbered past items ≡ changes ++ all_numbered (past ++ changes) left
  pub refusal : refusal_of_items past items ≡ refused_from (place + 1) (past ++ changes) left
  pub reads : list_all item_reads items ≡ list_all item_reads left

module _ (past : List Numbered) (items : List Item) (place : ℕ) (live : LiveView) (changes : List Numbered)
    (left : List Item) (item : Item) (rest : List Item)
    (so_far : AreMadeUpTo past items place live changes left) (taken : left ≡ item ∷ rest) where
  refused_next : refusal_of_items past items ≡ found_at (place + 1) (refusal_of_item (past ++ changes) item)
      (refused_from (place + 1 + 1) ((past ++ changes) ++ number_item (past ++ changes) item ∷ []) rest)
  refused_next = so_far.refusal ∙ ap (refused_from (place + 1) (past ++ changes)) taken

  refusal_here : refusal_of live item ≡ refusal_of_item (past ++ changes) item
  refusal_here = ap (λ v. refusal_of v item) so_far.view ∙ refusal-is (past ++ changes) item

  pub refused_item : (fault : StoreFault) → refusal_of live item ≡ Some fault
      → refusal_of_items past items ≡ Some (place + 1, fault)
  refused_item fault refused =
      refused_next
      ∙ ap (λ o. found_at (place + 1) o
      (refused_from (place + 1 + 1) ((past ++ changes) ++ number_item (past ++ changes) item ∷ []) rest))
      (sym refusal_here ∙ refused)

  pub one_more_made : (next : LiveView) (change : Numbered) → next ≡ after_item live item → change ≡ change_of live item
      → refusal_of live item ≡ None
      → item_reads item ≡ true → AreMadeUpTo past items (place + 1) next (changes ++ change ∷ []) rest
  one_more_made next change after is accepted reads =
      let behind = past ++ changes in
      let number : change ≡ number_item behind item = is ∙ ap (λ v. change_of v item) so_far.view
      ∙ change-is behind item in
      let longer : behind ++ number_item behind item ∷ [] ≡ past ++ (changes ++ change ∷ []) =
      ap (λ c. behind ++ c ∷ []) (sym number) ∙ append_assoc past changes (change ∷ []) in
      record {
        view = after ∙ ap (λ v. after_item v item) so_far.view ∙ view-item behind item ∙ ap live_view longer;
        numbers =
            so_far.numbers ∙ ap (λ l. changes ++ all_numbered behind l) taken
            ∙ ap (λ l. changes ++ number_item behind item ∷ all_numbered l rest) longer
            ∙ ap (λ c. changes ++ c ∷ all_numbered (past ++ (changes ++ change ∷ [])) rest) (sym number)
            ∙ sym (append_assoc changes (change ∷ []) (all_numbered (past ++ (changes ++ change ∷ [])) rest));
        refusal =
            refused_next
            ∙ ap (λ o. found_at (place + 1) o
            (refused_from (place + 1 + 1) (behind ++ number_item behind item ∷ []) rest))
            (sym refusal_here ∙ accepted)
            ∙ ap (λ l. refused_from (place + 1 + 1) l rest) longer;
        reads = so_far.reads ∙ ap (list_all item_reads) taken ∙ rw reads refl;
      }

-- All of them were made changes of.
module _ (past : List Numbered) (items : List Item) (place : ℕ) (live : LiveView) (changes : List Numbered)
    (left : List Item)
    (so_far : AreMadeUpTo past items place live changes left) (none : left ≡ []) where
  pub changes_are : changes ≡ numbered_from (additions past + 1) items
  changes_are =
      sym (append-nil changes) ∙ ap (λ l. changes ++ all_numbered (past ++ changes) l) (sym none) ∙ sym so_far.numbers
      ∙ ids-go_on past items

  pub none_refused : refusal_of_items past items ≡ None
  none_refused = so_far.refusal ∙ ap (refused_from (place + 1) (past ++ changes)) none

  all_read : list_all item_reads items ≡ true
  all_read = so_far.reads ∙ ap (list_all item_reads) none

  pub batch_follows : (caller : ℕ) → 1 ≤ length items → length items ≤ 256
      → update_may_follow past (batch_by caller (additions past + 1) items) ≡ true
  batch_follows caller some few =
      batch-follows caller past items
      ∙ rw (none_refused, all_read, le-leb 1 (length items) some, le-leb (length items) 256 few) refl

-- The items, one by one.

pub taken_at : (items : List Item) (place : ℕ) (item : Item) → slice_get items place ≡ Some item
    → drop place items ≡ item ∷ drop (place + 1) items
taken_at items place item there =
    drop_more items place item (slice_get_within items place item there)
    ∙ ap (λ x. x ∷ drop (place + 1) items) (get_or_from_slice_get items place item item there)

pub left_behind : (items after : List Item) (place : ℕ) (other : Item) → after ≡ slice_set items place other
    → drop (place + 1) items ≡ drop (place + 1) after
left_behind items after place other is =
    sym (ap (drop (place + 1)) is ∙ drop-set-lt (place + 1) items place other (omega arith))
