use Rattle.std.proofs.Common.{◌≡◌, take, map}
use Rattle.kn_principal.specs.Principals.{lower_case}
use Rattle.kn_principal.proofs.principal.lowered_in_front.Given as goal

-- the bytes so far, in lower case
abbrev pub invariant-loop-byte : goal.invariant-loop-byte
invariant-loop-byte l = l.octets ≡ map lower_case (take l.byte-index l.caseless)
