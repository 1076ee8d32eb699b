use Rattle.kn_rows.proofs.NarrowedPieces.{AreSpelled-known, AreSpelled-unknown}
use Rattle.kn_rows.proofs.numbered.Numbered.narrowed_leaf.Goals as goal

pub returns-in-Some : goal.returns-in-Some
returns-in-Some c = AreSpelled-known c.args.self.now.names c.args.name.now c.in-Some.number c.in-Some.ensures.number

pub returns-in-None : goal.returns-in-None
returns-in-None c = AreSpelled-unknown c.args.self.now.names c.args.name.now c.in-None.ensures.absent
