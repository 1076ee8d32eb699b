use Rattle.std.proofs.Common.{◌≡◌, ◌≤◌}
use Rattle.kn_fields.specs.Fields.{between}
use Rattle.kn_fields.specs.Scanning.{goes_deep}
use Rattle.kn_fields.proofs.depth.goes_deep.Given as goal

-- what is left decides
abbrev pub invariant-loop-i : goal.invariant-loop-i
invariant-loop-i l =
    record {
      left : goes_deep 0 0 (between l.from l.to l.tokens) ≡ goes_deep l.depth l.run (between l.i l.to l.tokens);
      depth_few : l.depth ≤ 64;
      run_few : l.run ≤ 8;
    }
