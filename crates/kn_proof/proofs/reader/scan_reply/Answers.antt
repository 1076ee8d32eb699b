use Rattle.std.proofs.Common.{refl}
use Rattle.kn_proof.proofs.ScanLaws.{head_of}
use Rattle.kn_proof.proofs.WholeReplies.{fault_from}
use Rattle.kn_proof.proofs.reader.scan_reply.Goals as goal

pub returns-in-Ok-scan_rows-clause-ok : goal.returns-in-Ok-scan_rows-clause-ok
returns-in-Ok-scan_rows-clause-ok c =
    head_of c.args.text.now c.in-Ok.line.rest.now _ c.in-Ok.ensures.spelled c.in-Ok.ensures.range
    c.in-Ok-scan_rows.ensures.ok

pub returns-in-Err-scan_rows-clause-err : goal.returns-in-Err-scan_rows-clause-err
returns-in-Err-scan_rows-clause-err c =
    fault_from c.args.text.now c.in-Ok.line.rest.now _ c.in-Err-scan_rows.fault c.in-Ok.ensures.spelled
    c.in-Ok.ensures.range (c.in-Err-scan_rows.ensures.err _ refl)
