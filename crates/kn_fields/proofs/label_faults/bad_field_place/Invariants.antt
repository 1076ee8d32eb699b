use Rattle.std.proofs.Common.{◌≡◌, [], length}
use Rattle.kn_fields.specs.Fields.{between}
use Rattle.kn_fields.specs.Faults.{is_bad_field}
use Rattle.kn_fields.specs.Scanning.{first_place}
use Rattle.kn_fields.proofs.label_faults.bad_field_place.Given as goal

-- what is left decides
abbrev pub invariant-loop-i : goal.invariant-loop-i
invariant-loop-i l =
    first_place is_bad_field [] l.tokens
    ≡ first_place is_bad_field (between 0 l.i l.tokens) (between l.i (length l.tokens) l.tokens)
