use Rattle.kn_proof.proofs.Exists.{reply_or_fault}
use Rattle.kn_proof.proofs.OneReplyOrFault.{one_first_fault, one_reply, reply_without_fault}
use Rattle.kn_proof.proofs.laws.one_reply_or_fault.Goals as goal

pub returns-clause-each : goal.returns-clause-each
returns-clause-each c = reply_or_fault

pub returns-clause-not_both : goal.returns-clause-not_both
returns-clause-not_both c = reply_without_fault

pub returns-clause-one_reply : goal.returns-clause-one_reply
returns-clause-one_reply c = one_reply

pub returns-clause-one_fault : goal.returns-clause-one_fault
returns-clause-one_fault c = one_first_fault
