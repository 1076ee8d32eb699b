use Rattle.kn_proof.proofs.OneReplyOrFault.{one_first_fault, reply_without_fault}
use Rattle.kn_proof.proofs.ScanLaws.{told_first, unread}
use Rattle.kn_proof.proofs.WholeReplies.{only_reply}
use Rattle.kn_proof.proofs.reader.read_reply.Goals as goal

pub returns-in-Ok-clause-err : goal.returns-in-Ok-clause-err
returns-in-Ok-clause-err c = unread c.args.text.now _ _ _ c.read.result c.in-Ok.ensures.ok c.read.ensures.err

pub returns-in-Ok-clause-only : goal.returns-in-Ok-clause-only
returns-in-Ok-clause-only c = only_reply c.args.text.now c.read.result c.read.ensures.ok c.read.ensures.err

pub returns-in-Ok-clause-exact : goal.returns-in-Ok-clause-exact
returns-in-Ok-clause-exact c = told_first c.args.text.now _ _ _ c.read.result c.in-Ok.ensures.ok

pub returns-in-Err-clause-only : goal.returns-in-Err-clause-only
returns-in-Err-clause-only c =
    λ reply is. absurd (reply_without_fault c.args.text.now reply c.in-Err.fault is c.in-Err.ensures.err)

pub returns-in-Err-clause-exact : goal.returns-in-Err-clause-exact
returns-in-Err-clause-exact c =
    λ fault first. one_first_fault c.args.text.now c.in-Err.fault fault c.in-Err.ensures.err first
