use Rattle.std.proofs.Common.{◌≡◌, ◌<◌, ◌++◌, ◌∷◌, [], ℕ, ◌+◌, List, get_or, length, take, sym, ap, subst, ◌∙◌, arith}
use Rattle.std.proofs.lemmas.List.{take_more}
use Rattle.kn_history.specs.declared.update.Numbered.{Numbered}
use Rattle.kn_query.specs.Following.{FollowsRemovals}
use Rattle.kn_query.proofs.NotedRows.{notes-none, notes-then}
use Rattle.kn_query.proofs.Rows.{follows-none, follows-then}
use Rattle.kn_query.proofs.following.follow_update.Goals as goal

pub loop-numbered-init : goal.loop-numbered-init
loop-numbered-init c = record {
  follows = follows-none c.args.rows.now c.args.base.now;
  notes = notes-none c.args.changed.now c.args.base.now.live;
}

pub loop-numbered-preserved : goal.loop-numbered-preserved
loop-numbered-preserved c =
    let changes : List Numbered = c.args.update.now.changes in
    let i : ℕ = c.loop-numbered.numbered-index in
    let here : Numbered = c.numbered-item.result in
    let within : c.loop-numbered.numbered-index < length changes =
    omega (arith, c.loop-numbered-test.true, ap length c.as_slice-numbered-items.ensures) in
    let is : here ≡ get_or changes i here = c.numbered-item.is
    ∙ ap (λ (l : List Numbered). get_or l i here) c.as_slice-numbered-items.ensures in
    let more : take i changes ++ here ∷ [] ≡ take (i + 1) changes = ap (λ (x : Numbered). take i changes ++ x ∷ []) is
    ∙ sym (take_more changes i here within) in
    record {
      follows = subst (λ (cs : List Numbered).
          FollowsRemovals cs c.args.rows.now c.args.base.now c.follow_change.new.base) more
          (follows-then c.args.rows.now (take i changes) (here ∷ []) c.args.base.now c.loop-numbered.base
          c.follow_change.new.base c.loop-numbered.invariant.follows c.follow_change.ensures.follows);
      notes = notes-then c.args.changed.now c.loop-numbered.changed c.follow_change.new.changed c.args.base.now.live
          c.loop-numbered.base.live c.follow_change.new.base.live c.loop-numbered.invariant.follows.flags
          c.loop-numbered.invariant.notes c.follow_change.ensures.notes;
    }
