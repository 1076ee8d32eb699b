use Rattle.std.proofs.Common.{arith}
use Rattle.std.proofs.lemmas.Option.{slice_get_within}
use Rattle.kn_query.proofs.NotedRows.{notes-none, notes-removal}
use Rattle.kn_query.proofs.Rows.{follows-absent, follows-removal, id-here}
use Rattle.kn_query.proofs.following.remove_row.Goals as goal

pub remove-requires : goal.remove-requires
remove-requires c =
    let here = c.in-Some.ensures in
    let within = slice_get_within c.args.rows.now c.in-Some.row here.credential here.there in
    omega (arith, within, c.requires.flags)

pub returns-in-Some : goal.returns-in-Some
returns-in-Some c =
    let here = c.in-Some.ensures in
    let within = slice_get_within c.args.rows.now c.in-Some.row here.credential here.there in
    record {
      follows = follows-removal c.args.rows.now c.args.id c.in-Some.row c.args.base.now c.remove.new.self
          c.len-ids.ensures.ids c.requires.flags
          (id-here c.args.rows.now c.in-Some.row c.args.id here.credential here.there here.same) c.remove.ensures;
      notes = notes-removal c.args.changed.now c.add.new.self c.in-Some.row c.args.base.now c.remove.new.self
          (omega (arith, within, c.requires.flags)) c.remove.ensures c.add.ensures.has c.add.ensures.keeps
          c.add.ensures.below;
    }

pub returns-in-None : goal.returns-in-None
returns-in-None c = record {
  follows = follows-absent c.args.rows.now c.args.id c.args.base.now c.in-None.ensures;
  notes = notes-none c.args.changed.now c.args.base.now.live;
}
