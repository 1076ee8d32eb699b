use Rattle.std.proofs.Common.{◌≡◌, ◌+◌, [], ◌∷◌, ◌++◌, true, sym, ap, subst, ◌∙◌}
use Rattle.std.specs.Prelude.{None}
use Rattle.kn_history.proofs.Histories.{removal-follows}
use Rattle.kn_store.specs.declared.log.TheConstants.{UPDATES_PAGE}
use Rattle.kn_history.specs.History.{all_changes, update_may_follow}
use Rattle.kn_store.specs.LiveView.{live_view, refusal_of_removal, with_removal}
use Rattle.kn_pages.specs.Pages.{joined, with_item}
use Rattle.kn_store.specs.Versions.{IsVersion}
use Rattle.kn_store.proofs.ViewLemmas.{view-removal}
use Rattle.kn_store.proofs.VersionLemmas.{version_after}
use Rattle.kn_store.proofs.version.Version.with_removal.Goals as goal

after : (c : goal.After-number)
    → IsVersion (record { live = c.in_ok-live.live; updates = c.in_ok-updates.updates; number = c.number.result + 1 })
    × (joined c.in_ok-updates.updates ≡ c.args.self.now ++ c.in_ok-update.update ∷ [])
after c =
    let past = all_changes c.args.self.now in
    let before : c.in_ok-shared.shared ≡ live_view past =
    c.in_ok-shared.ensures ∙ c.self.invariant.live ∙ ap (λ l. live_view (all_changes l)) c.self.view_is in
    let accepted : refusal_of_removal (live_view past) c.args.id ≡ None =
    ap (λ v. refusal_of_removal v c.args.id) (sym before) ∙ c.in_ok-live.ensures.accepted in
    version_after c.self.inside c.in_ok-updates.updates c.in_ok-update.update c.in_ok-live.live c.args.self.now
    c.number.result
    (c.in_ok-updates.ensures ∙ ap (λ log. with_item UPDATES_PAGE log c.in_ok-update.update) c.in_ok-share.ensures)
    c.self.view_is c.number.ensures.number c.self.invariant
    (c.in_ok-live.ensures.ok ∙ ap (λ v. with_removal v c.args.id) before ∙ view-removal past c.args.id
    ∙ ap (λ u. live_view (past ++ u.changes)) (sym c.in_ok-update.ensures))
    (subst (λ u. update_may_follow past u ≡ true) (sym c.in_ok-update.ensures)
    (removal-follows past c.args.caller c.args.id accepted))

pub invariant_of-result : goal.invariant_of-result
invariant_of-result c = (after c).0

pub returns-clause-version : goal.returns-clause-version
returns-clause-version c = (after c).1 ∙ ap (λ u. c.args.self.now ++ u ∷ []) c.in_ok-update.ensures
