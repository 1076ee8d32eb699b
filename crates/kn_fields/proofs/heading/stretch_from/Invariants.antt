use Rattle.std.proofs.Common.{◌≡◌, ◌+◌, drop}
use Rattle.std.specs.List.{prefix_len, list_any}
use Rattle.kn_fields.specs.Fields.{between}
use Rattle.kn_fields.specs.Scanning.{is_stray}
use Rattle.kn_fields.proofs.Parts.{goes_on}
use Rattle.kn_fields.proofs.heading.stretch_from.Given as goal

-- what is left decides where it ends, and what is passed, whether there is a stray
abbrev pub invariant-loop-i : goal.invariant-loop-i
invariant-loop-i l =
    record {
      end : l.from + prefix_len goes_on (drop l.from l.tokens) ≡ l.i + prefix_len goes_on (drop l.i l.tokens);
      has_stray : l.has_stray ≡ list_any is_stray (between l.from l.i l.tokens);
    }
