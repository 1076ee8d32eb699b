use Rattle.kn_registry.proofs.PassMoves.{confirmed_looks, stays_of}
use Rattle.kn_registry.proofs.registry.Registry.pin_again.Goals as goal

pub returns-in-Err-clause-refused : goal.returns-in-Err-clause-refused
returns-in-Err-clause-refused g c =
    stays_of c.args.pass.now c.is_newest.new.pass
    (confirmed_looks c.args.pass.now c.is_newest.new.pass c.if-not-is_newest.ensures.confirmed)
