use Rattle.std.proofs.Common.{◌≡◌, ◌-◌, ◌≤◌, ◌++◌}
use Rattle.kn_fields.specs.Fields.{between}
use Rattle.kn_fields.specs.Constants.{constants_of, AreSettings}
use Rattle.kn_fields.proofs.constants.constants_between.Given as goal

-- the constants so far, and those that are left, are all
abbrev pub invariant-loop-i : goal.invariant-loop-i
invariant-loop-i l =
    record {
      within : l.i ≤ l.to;
      settings : AreSettings (between l.i l.to l.tokens);
      kept : l.list ++ constants_of (between l.i l.to l.tokens) ≡ constants_of (between l.from l.to l.tokens);
    }

abbrev pub decreases-loop-i : goal.decreases-loop-i
decreases-loop-i l = l.to - l.i
