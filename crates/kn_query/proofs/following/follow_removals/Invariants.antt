use Rattle.std.proofs.Common.{drop, take}
use Rattle.kn_history.specs.History.{all_changes}
use Rattle.kn_query.specs.ChangedRows.{NotesRows}
use Rattle.kn_query.specs.Following.{FollowsRemovals}
use Rattle.kn_query.proofs.following.follow_removals.Given as goal

abbrev pub invariant-loop-place : goal.invariant-loop-place
invariant-loop-place l = record {
  follows : FollowsRemovals (all_changes (drop l.first (take l.place l.version))) l.rows l.fn.base l.base;
  notes : NotesRows l.fn.changed l.changed l.fn.base.live l.base.live;
}
