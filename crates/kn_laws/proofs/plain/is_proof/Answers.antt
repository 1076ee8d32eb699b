use Rattle.kn_laws.proofs.PlainProofs.{ends_proof-Decides}
use Rattle.kn_laws.proofs.plain.is_proof.Goals as goal

pub returns : goal.returns
returns c = ends_proof-Decides c.args.top c.args.requesters.now c.args.statements.now c.args.rows.now c.args.level _
    c.in_ok-found.ensures
