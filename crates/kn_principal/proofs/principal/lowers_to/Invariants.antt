use Rattle.std.proofs.Common.{◌≡◌, drop, length, map, bytes_eq}
use Rattle.kn_principal.specs.Principals.{lower_case}
use Rattle.kn_principal.proofs.principal.lowers_to.Given as goal

-- what is left decides
abbrev pub invariant-loop-byte : goal.invariant-loop-byte
invariant-loop-byte l = bytes_eq (map lower_case l.text) l.lowered
    ≡ bytes_eq (map lower_case (drop (length l.yielded) l.text)) (drop (length l.yielded) l.lowered)
