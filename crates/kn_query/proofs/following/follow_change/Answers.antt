use Rattle.std.proofs.Common.{◌∷◌, [], sym, subst}
use Rattle.kn_history.specs.declared.update.Change.{Change}
use Rattle.kn_query.specs.Following.{FollowsRemovals}
use Rattle.kn_query.proofs.NotedRows.{notes-none}
use Rattle.kn_query.proofs.Rows.{follows-addition}
use Rattle.kn_query.proofs.following.follow_change.Goals as goal

pub returns-in-Add : goal.returns-in-Add
returns-in-Add c = record {
  follows = follows-addition c.args.rows.now c.args.numbered.now _ c.args.base.now c.in-Add.is;
  notes = notes-none c.args.changed.now c.args.base.now.live;
}

pub returns-in-Remove : goal.returns-in-Remove
returns-in-Remove c = record {
  follows = subst (λ (change : Change). FollowsRemovals (record { change = change; id = c.args.numbered.now.id } ∷ [])
      c.args.rows.now c.args.base.now c.remove_row.new.base)
      (sym c.in-Remove.is) c.remove_row.ensures.follows;
  notes = c.remove_row.ensures.notes;
}
