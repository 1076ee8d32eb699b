use Rattle.std.proofs.Common.{◌≡◌, ◌+◌, [], ◌∷◌, ◌++◌, true, sym, ap, subst, ◌∙◌}
use Rattle.kn_history.specs.History.{all_changes, addition_by, update_may_follow}
use Rattle.kn_history.proofs.Histories.{addition-follows}
use Rattle.kn_store.specs.LiveView.{live_view, with_addition}
use Rattle.kn_pages.specs.Pages.{joined}
use Rattle.kn_store.specs.Versions.{IsVersion}
use Rattle.kn_store.proofs.ViewLemmas.{view-addition}
use Rattle.kn_store.proofs.VersionLemmas.{version_after}
use Rattle.kn_store.proofs.version.Version.with_addition.Goals as goal

update_is : (c : goal.In_ok-updates)
    → c.in_ok-update.update ≡ addition_by c.args.caller c.args.ready c.next_id-id.result
update_is c = c.in_ok-update.ensures
    ∙ ap (λ text. addition_by c.args.caller text c.next_id-id.result) c.of-credential.ensures.logged

after : (c : goal.In_ok-updates)
    → IsVersion (record {
      live = c.add.new.self;
      updates = c.in_ok-updates.updates;
      number =
          c.number-number.result + 1;
    })
    × (joined c.in_ok-updates.updates ≡ c.args.self ++ c.in_ok-update.update ∷ [])
after c =
    let past = all_changes c.args.self in
    let before : c.self.inside.live ≡ live_view past = c.self.invariant.live
    ∙ ap (λ l. live_view (all_changes l)) c.self.view_is in
    let update = update_is c
    ∙ ap (λ id. addition_by c.args.caller c.args.ready id) (c.next_id-id.ensures ∙ ap (λ v. v.added + 1) before) in
    version_after c.self.inside c.in_ok-updates.updates c.in_ok-update.update c.add.new.self c.args.self
    c.number-number.result
    c.in_ok-updates.ensures c.self.view_is c.number-number.ensures.number c.self.invariant
    (c.in_ok-add.ensures.ok ∙ ap (λ text. with_addition c.self.inside.live text) c.of-credential.ensures.text
    ∙ ap (λ v. with_addition v c.args.ready) before
    ∙ view-addition past c.args.ready ∙ ap (λ u. live_view (past ++ u.changes)) (sym update))
    (subst (λ u. update_may_follow past u ≡ true) (sym update)
    (addition-follows past c.args.caller c.args.ready c.requires.accepted c.text-size.ensures.reading))

pub invariant_of-result : goal.invariant_of-result
invariant_of-result c = (after c).0

pub returns-clause-version : goal.returns-clause-version
returns-clause-version c = (after c).1 ∙ ap (λ u. c.args.self ++ u ∷ []) (update_is c)
