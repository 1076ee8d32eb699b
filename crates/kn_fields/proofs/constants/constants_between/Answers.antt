use Rattle.std.proofs.Common.{append-nil, append_assoc, arith}
use Rattle.std.proofs.lemmas.Grind.{common_steps}
use Rattle.kn_fields.specs.Constants.{constants_of}
use Rattle.kn_fields.proofs.Between.{between_length, three_here}
use Rattle.kn_fields.proofs.Lists.{constants_over}
use Rattle.kn_fields.proofs.constants.constants_between.Goals as goal

pub loop-i-init : goal.loop-i-init
loop-i-init c = grind (arith, common_steps)

pub loop-i-preserved : goal.loop-i-preserved
unfolding constants_of
loop-i-preserved c =
    let here = three_here c.args.tokens.now c.loop-i.i c.args.to (omega (arith, c.loop-i-test.true))
    c.requires.within in
    grind (
      arith,
      append_assoc,
      here.all,
      c.in_ok-push_constant.ensures here.name here.value here.name_there here.value_there,
    )

pub push_constant-requires : goal.push_constant-requires
push_constant-requires c =
    let here = three_here c.args.tokens.now c.loop-i.i c.args.to (omega (arith, c.loop-i-test.true))
    c.requires.within in
    grind (arith, here, c.ranges.to)

pub returns : goal.returns
returns c = grind (arith, append-nil, between_length, constants_over)
