-- A version after one more update.
use Rattle.std.proofs.Common.{◌≡◌, ℕ, ◌+◌, true, List, [], ◌∷◌, ◌++◌, length, sym, ap, ◌∙◌, subst, arith, length-append}
use Rattle.std.proofs.Common.{◌≤◌}
use Rattle.kn_history.specs.declared.item.Item.{Item}
use Rattle.kn_history.specs.declared.update.Numbered.{Numbered}
use Rattle.kn_history.specs.declared.update.Update.{Update}
use Rattle.kn_store.specs.declared.log.TheConstants.{UPDATES_PAGE}
use Rattle.kn_store.specs.declared.version.Version.TheInside.{Inside}
use Rattle.kn_history.specs.History.{all_changes, additions, is_valid_history, update_may_follow}
use Rattle.kn_history.specs.Batches.{batch_by}
use Rattle.kn_history.proofs.Histories.{valid-grows, changes-push, has_changes}
use Rattle.kn_store.specs.LiveView.{LiveView, live_view}
use Rattle.kn_pages.specs.Pages.{joined, with_item}
use Rattle.kn_store.specs.Versions.{updates_of, IsVersion}
use Rattle.kn_store.proofs.ItemLemmas.{AreMadeUpTo, changes_are, batch_follows}
use Rattle.kn_pages.proofs.PageLemmas.{joined-with_item, filled-with_item}

module _ (v : Inside) (updates : List (List Update)) (update : Update) (live : LiveView)
    (is : updates ≡ with_item UPDATES_PAGE v.updates update) where
  pub longer_log : joined updates ≡ updates_of v ++ update ∷ []
  longer_log = ap joined is ∙ joined-with_item UPDATES_PAGE v.updates update

  pub next_version : IsVersion v → live ≡ live_view (all_changes (updates_of v) ++ update.changes)
      → update_may_follow (all_changes (updates_of v)) update ≡ true
      → IsVersion (record { live = live; updates = updates; number = v.number + 1 })
  next_version kept same follows =
      let log = joined v.updates in
      let grown = valid-grows log update kept.valid follows in
      let number = kept.number in
      let before = kept.live in
      let count = length-append log (update ∷ []) in
      let some = has_changes (all_changes log) update follows in
      let changes = length-append (all_changes log) update.changes in
      let was : v.live.changes ≡ length (all_changes log) = ap (λ l. l.changes) before in
      let now : live.changes ≡ length (all_changes log ++ update.changes) = ap (λ l. l.changes) same in
      let fewer = kept.fewer in
      record {
        valid = subst (λ l. is_valid_history l ≡ true) (sym longer_log) grown;
        live = same ∙ ap live_view (sym (changes-push log update))
            ∙ ap (λ l. live_view (all_changes l)) (sym longer_log);
        pages = rw is (filled-with_item UPDATES_PAGE v.updates update (omega arith) kept.pages);
        number = rw longer_log (omega arith);
        fewer = omega arith;
      }

-- the same of a version that is seen as these updates
pub version_after : (v : Inside) (updates : List (List Update)) (update : Update) (live : LiveView) (made : List Update)
    (number : ℕ)
    → updates ≡ with_item UPDATES_PAGE v.updates update → updates_of v ≡ made → number ≡ length made → IsVersion v
    → live ≡ live_view (all_changes made ++ update.changes) → update_may_follow (all_changes made) update ≡ true
    → IsVersion (record { live = live; updates = updates; number = number + 1 })
    × (joined updates ≡ made ++ update ∷ [])
version_after v updates update live made number is seen count kept same follows = (
  subst (λ (n : ℕ). IsVersion (record { live = live; updates = updates; number = n + 1 })) (kept.number ∙ ap length seen
      ∙ sym count)
      (next_version v updates update live is kept
      (same ∙ ap (λ l. live_view (all_changes l ++ update.changes)) (sym seen))
      (subst (λ l. update_may_follow (all_changes l) update ≡ true) (sym seen) follows)),
  longer_log v updates update live is ∙ ap (λ l. l ++ update ∷ []) seen,
)

-- the same where the update makes the changes of items
pub version_after_items : (v : Inside) (updates : List (List Update)) (caller : ℕ) (changes : List Numbered)
    (live : LiveView) (made : List Update) (number : ℕ)
    → (items : List Item) (place : ℕ) (left : List Item)
    → updates ≡ with_item UPDATES_PAGE v.updates (record { caller = caller; changes = changes }) → updates_of v ≡ made
    → number ≡ length made → IsVersion v
    → AreMadeUpTo (all_changes made) items place live changes left → left ≡ [] → 1 ≤ length items → length items ≤ 256
    → IsVersion (record { live = live; updates = updates; number = number + 1 })
    × (joined updates ≡ made ++ batch_by caller (additions (all_changes made) + 1) items ∷ [])
    × (update_may_follow (all_changes made) (batch_by caller (additions (all_changes made) + 1) items) ≡ true)
version_after_items v updates caller changes live made number items place left is seen count kept so_far none some few =
    let past = all_changes made in
    let update : Update = record { caller = caller; changes = changes } in
    let batch = batch_by caller (additions past + 1) items in
    let same : update ≡ batch =
    ap (λ (l : List Numbered). record { caller = caller; changes = l })
    (changes_are past items place live changes left so_far none) in
    let follows : update_may_follow past batch ≡ true =
    batch_follows past items place live changes left so_far none caller some few in
    let after = version_after v updates update live made number is seen count kept so_far.view
    (subst (λ u. update_may_follow past u ≡ true) (sym same) follows) in
    (after.0, after.1 ∙ ap (λ u. made ++ u ∷ []) same, follows)
