use Rattle.std.proofs.Common.{refl, sym}
use Rattle.kn_proof.proofs.reader.end_reply.Goals as goal

pub returns-in-Err-clause-err : goal.returns-in-Err-clause-err
returns-in-Err-clause-err c = rw (sym c.len.ensures) (c.in-Err.ensures.err c.args.header refl)
