use Rattle.std.proofs.Common.{arith}
use Rattle.kn_fields.proofs.DepthScan.{quiet_step}
use Rattle.kn_fields.proofs.depth.goes_deep.Goals as goal

pub loop-i-preserved-in_default-sign_byte : goal.loop-i-preserved-in_default-sign_byte
loop-i-preserved-in_default-sign_byte c =
    let before = c.loop-i.invariant in
    record {
      left = quiet_step _ _ _ _ _ _ _ before.left c.in-Some.ensures c.loop-i-test.true c.in_default-sign_byte.ensures
          before.depth_few;
      depth_few = before.depth_few;
      run_few = omega arith;
    }
