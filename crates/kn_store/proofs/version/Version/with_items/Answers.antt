use Rattle.std.proofs.Common.{rules, ◌≡◌, ◌≤◌, ◌+◌, true, [], ◌∷◌, ◌++◌, drop, length, sym, ap, subst, ◌∙◌, inl, inr}
use Rattle.std.proofs.Common.{⊎_elim}
use Rattle.std.proofs.lemmas.List.{drop_all, length-set}
use Rattle.kn_store.specs.declared.log.TheConstants.{UPDATES_PAGE}
use Rattle.kn_history.specs.Batches.{batch_by, refusal_of_items}
use Rattle.kn_history.specs.History.{all_changes, additions, update_may_follow}
use Rattle.kn_pages.specs.Pages.{joined, with_item}
use Rattle.kn_store.proofs.ItemLemmas.{AreMadeUpTo, refused_item, one_more_made, taken_at, left_behind}
use Rattle.kn_store.proofs.VersionLemmas.{version_after_items}
use Rattle.kn_store.proofs.version.Version.with_items.Goals as goal

pub returns-in-Err-clause-refused : goal.returns-in-Err-clause-refused
returns-in-Err-clause-refused c =
    let past = all_changes c.args.self.now in
    let items = c.loop-place.items in
    let place = c.loop-place.place in
    let taken = taken_at items place c.replace-item.result c.replace-item.ensures.former in
    c.refusal_of_item.ensures (refusal_of_items past c.args.items)
    (⊎_elim (λ lacking. inl lacking)
    (λ refused. inr (refused_item past c.args.items place c.loop-place.live c.loop-place.changes (drop place items)
    c.replace-item.result (drop (place + 1) items)
    c.loop-place.invariant.made taken c.in-Err.fault refused))
    c.in-Err.ensures.refused)

pub loop-place-preserved : goal.loop-place-preserved
loop-place-preserved c =
    let past = all_changes c.args.self.now in
    let items = c.loop-place.items in
    let place = c.loop-place.place in
    let changes = c.loop-place.changes in
    let taken = taken_at items place c.replace-item.result c.replace-item.ensures.former in
    let made = one_more_made past c.args.items place c.loop-place.live changes (drop place items) c.replace-item.result
    (drop (place + 1) items)
    c.loop-place.invariant.made taken c.enter.new.self c.in-Ok.change c.in-Ok.ensures.set c.in-Ok.ensures.change
    c.in-Ok.ensures.accepted c.in-Ok.ensures.reads in
    let behind = left_behind items c.replace-item.new.self place _ c.replace-item.ensures.after in
    let sizes = ap length c.replace-item.ensures.after ∙ length-set items place _ in
    let same = c.loop-place.invariant.same in
    record {
      made = subst (λ l. AreMadeUpTo past c.args.items (place + 1) c.enter.new.self l
          (drop (place + 1) c.replace-item.new.self)) (sym c.in_ok-add-in-Ok.ensures.ok)
          (subst (λ l. AreMadeUpTo past c.args.items (place + 1) c.enter.new.self (changes ++ c.in-Ok.change ∷ []) l)
          behind made);
      same = sizes ∙ same;
    }

pub invariant_of-result : goal.invariant_of-result
invariant_of-result c =
    let all : length c.loop-place.items ≤ c.loop-place.place = search rules in
    (version_after_items c.self.inside c.in_ok-updates.updates c.args.caller c.loop-place.changes c.loop-place.live
    c.args.self.now c.number.result
    c.args.items c.loop-place.place (drop c.loop-place.place c.loop-place.items)
    (c.in_ok-updates.ensures
    ∙ ap (λ log. with_item UPDATES_PAGE log (record { caller = c.args.caller; changes = c.loop-place.changes }))
    c.in_ok-share.ensures)
    c.self.view_is c.number.ensures.number c.self.invariant
    c.loop-place.invariant.made
    (drop_all c.loop-place.place c.loop-place.items all) c.requires.some c.requires.few).0

after : (c : goal.After-drop-items-inside-2)
    → (joined c.in_ok-updates.updates ≡ c.args.self.now
    ++ batch_by c.args.caller (additions (all_changes c.args.self.now) + 1) c.args.items ∷ [])
    × (update_may_follow (all_changes c.args.self.now)
    (batch_by c.args.caller (additions (all_changes c.args.self.now) + 1) c.args.items) ≡ true)
after c =
    let all : length c.loop-place.items ≤ c.loop-place.place = search rules in
    let made = version_after_items c.self.inside c.in_ok-updates.updates c.args.caller c.loop-place.changes
    c.loop-place.live c.args.self.now c.number.result
    c.args.items c.loop-place.place (drop c.loop-place.place c.loop-place.items)
    (c.in_ok-updates.ensures
    ∙ ap (λ log. with_item UPDATES_PAGE log (record { caller = c.args.caller; changes = c.loop-place.changes }))
    c.in_ok-share.ensures)
    c.self.view_is c.number.ensures.number c.self.invariant
    c.loop-place.invariant.made
    (drop_all c.loop-place.place c.loop-place.items all) c.requires.some c.requires.few in
    (made.1, made.2)

pub returns-clause-version : goal.returns-clause-version
returns-clause-version c = (after c).0

pub returns-clause-follows : goal.returns-clause-follows
returns-clause-follows c = (after c).1
