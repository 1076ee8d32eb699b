use Rattle.kn_proof.proofs.WholeReplies.{more_rows}
use Rattle.kn_proof.proofs.reader.read_rows.Goals as goal

pub rows-preserved : goal.rows-preserved
rows-preserved c =
    rw c.in-Ok-add.ensures.ok
    (more_rows c.args.lines.now c.rows.rest.now c.in-Ok.line.rest.now c.rows.rows c.in-Ok.line.row c.rows.invariant
    c.in-Ok.ensures.spelled c.in-Ok.ensures.range)
