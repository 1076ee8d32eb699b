use Rattle.std.proofs.Common.{◌≡◌, [], take, drop}
use Rattle.kn_fields.specs.Fields.{fields_of}
use Rattle.kn_fields.specs.Scanning.{is_wrong, first_place}
use Rattle.kn_fields.proofs.Headings.{labels}
use Rattle.kn_fields.proofs.label_faults.wrong_place.Given as goal

-- the labels that are left decide
abbrev pub invariant-loop-i : goal.invariant-loop-i
invariant-loop-i l =
    first_place (is_wrong l.wrong) [] l.tokens
    ≡ first_place (is_wrong l.wrong) (take l.i (labels (fields_of l.tokens))) (drop l.i (labels (fields_of l.tokens)))
