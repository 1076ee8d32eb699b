use Rattle.std.proofs.Common.{arith}
use Rattle.kn_auth.proofs.Blocks.{xor_more}
use Rattle.kn_auth.proofs.hmac.xor_with.Goals as goal

pub loop-place-preserved : goal.loop-place-preserved
loop-place-preserved c =
    rw c.loop-place.invariant (xor_more c.args.pad c.args.block.now c.loop-place.place (omega arith))
