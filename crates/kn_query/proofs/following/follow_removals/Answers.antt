use Rattle.std.proofs.Common.{◌≡◌, ◌++◌, ℕ, suc, ◌+◌, List, drop, take, sym, ap, subst, ◌∙◌, arith}
use Rattle.kn_history.specs.declared.update.Numbered.{Numbered}
use Rattle.kn_history.specs.declared.update.Update.{Update}
use Rattle.kn_history.specs.History.{all_changes}
use Rattle.kn_history.proofs.Histories.{changes-push}
use Rattle.kn_query.specs.Following.{FollowsRemovals}
use Rattle.kn_query.proofs.NotedRows.{notes-none, notes-then}
use Rattle.kn_query.proofs.Rows.{follows-none, follows-then, more-from}
use Rattle.kn_query.proofs.Texts.{none_before}
use Rattle.kn_query.proofs.following.follow_removals.Goals as goal

pub loop-place-init : goal.loop-place-init
loop-place-init c = record {
  follows = subst (λ (us : List Update).
      FollowsRemovals (all_changes us) c.args.rows.now c.args.base.now c.args.base.now)
      (sym (none_before c.args.version.now c.args.first))
      (follows-none c.args.rows.now c.args.base.now);
  notes = notes-none c.args.changed.now c.args.base.now.live;
}

pub loop-place-preserved : goal.loop-place-preserved
loop-place-preserved c =
    let version : List Update = c.args.version.now in
    let first : ℕ = c.args.first in
    let place : ℕ = c.loop-place.place in
    let next : suc place ≡ place + 1 = omega arith in
    let seen : List Update = drop first (take place version) in
    let update : Update = c.update.result.now in
    let changes : all_changes seen ++ update.changes ≡ all_changes (drop first (take (suc place) version)) =
    sym (changes-push seen update)
    ∙ ap all_changes (sym (more-from version first place update (omega arith) c.update.ensures.update)) in
    record {
      follows = subst (λ (cs : List Numbered).
          FollowsRemovals cs c.args.rows.now c.args.base.now c.follow_update.new.base)
          (changes ∙ ap (λ (n : ℕ). all_changes (drop first (take n version))) next)
          (follows-then c.args.rows.now (all_changes seen) update.changes c.args.base.now c.loop-place.base
          c.follow_update.new.base c.loop-place.invariant.follows c.follow_update.ensures.follows);
      notes = notes-then c.args.changed.now c.loop-place.changed c.follow_update.new.changed c.args.base.now.live
          c.loop-place.base.live c.follow_update.new.base.live c.loop-place.invariant.follows.flags
          c.loop-place.invariant.notes c.follow_update.ensures.notes;
    }
