use Rattle.std.proofs.Common.{arith, ◌+◌, ◌∙◌}
use Rattle.kn_assert.proofs.FieldLemmas.{only_none, only_some}
use Rattle.kn_assert.proofs.parts.only.Goals as goal

pub returns-then-part-ne2 : goal.returns-then-part-ne2
returns-then-part-ne2 c =
    only_none c.args.tokens.now (c.args.part.label + 1) c.args.part.end (omega (arith, c.requires.before))
    c.requires.within
    (λ e. c.if-part-ne2.true (omega (arith, e)))

pub returns : goal.returns
returns c =
    c.get.ensures ∙ only_some c.args.tokens.now (c.args.part.label + 1) c.args.part.end
    (omega (arith, c.if-part-ne2.false)) c.requires.within
