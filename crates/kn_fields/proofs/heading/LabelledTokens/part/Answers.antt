use Rattle.std.proofs.Common.{arith}
use Rattle.kn_fields.proofs.Headings.{part_some, part_none}
use Rattle.kn_fields.proofs.heading.LabelledTokens.part.Goals as goal

pub returns-in-Some : goal.returns-in-Some
returns-in-Some c =
    part_some c.args.number c.args.self.now c.headings.result.now c.in-Some.heading.now c.headings.ensures
    (grind (arith, c.heading_of.ensures, c.in-Some.is))

pub returns-in-None : goal.returns-in-None
returns-in-None c =
    part_none c.args.number c.args.self.now c.headings.result.now c.headings.ensures
    (grind (arith, c.heading_of.ensures, c.in-None.is))
