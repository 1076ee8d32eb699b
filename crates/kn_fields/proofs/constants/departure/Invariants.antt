use Rattle.std.proofs.Common.{◌≡◌, ◌≤◌, []}
use Rattle.kn_fields.specs.Fields.{between}
use Rattle.kn_fields.specs.Expectations.{AreNames, departs, expecting_behind}
use Rattle.kn_fields.specs.Scanning.{first_place}
use Rattle.kn_fields.specs.declared.constants.Expecting.TheVariants.{Setting}
use Rattle.kn_fields.proofs.constants.departure.Given as goal

-- what is left decides, and the names so far and what is due are known
abbrev pub invariant-loop-i : goal.invariant-loop-i
invariant-loop-i l =
    record {
      within : l.i ≤ l.to;
      left : first_place departs [] (between l.from l.to l.tokens)
          ≡ first_place departs (between l.from l.i l.tokens) (between l.i l.to l.tokens);
      names : AreNames l.names (between l.from l.i l.tokens);
      due : l.expecting ≡ expecting_behind Setting (between l.from l.i l.tokens);
    }
