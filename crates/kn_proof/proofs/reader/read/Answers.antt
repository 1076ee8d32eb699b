use Rattle.kn_proof.proofs.WholeReplies.{reply_told, fault_told}
use Rattle.kn_proof.proofs.reader.read.Goals as goal

pub returns-in-Ok-clause-ok : goal.returns-in-Ok-clause-ok
returns-in-Ok-clause-ok c =
    reply_told c.args.text.now c.in-Ok.line.rest.now c.in-Ok.line.header c.read_rows.result c.in-Ok.ensures.spelled
    c.in-Ok.ensures.range c.read_rows.ensures.ok

pub returns-in-Ok-clause-err : goal.returns-in-Ok-clause-err
returns-in-Ok-clause-err c =
    fault_told c.args.text.now c.in-Ok.line.rest.now c.in-Ok.line.header c.read_rows.result c.in-Ok.ensures.spelled
    c.in-Ok.ensures.range c.read_rows.ensures.err
