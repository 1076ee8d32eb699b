use Rattle.std.proofs.Common.{take}
use Rattle.kn_query.specs.ChangedRows.{NotesRows}
use Rattle.kn_query.specs.Following.{FollowsRemovals}
use Rattle.kn_query.proofs.following.follow_update.Given as goal

abbrev pub invariant-loop-numbered : goal.invariant-loop-numbered
invariant-loop-numbered l = record {
  follows : FollowsRemovals (take l.numbered-index l.update.changes) l.rows l.fn.base l.base;
  notes : NotesRows l.fn.changed l.changed l.fn.base.live l.base.live;
}
