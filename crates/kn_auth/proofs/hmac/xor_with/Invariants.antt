use Rattle.std.proofs.Common.{◌≡◌, ◌++◌, take, drop}
use Rattle.kn_auth.specs.Codes.{xor_with}
use Rattle.kn_auth.proofs.hmac.xor_with.Given as goal

-- the bytes so far are combined with the pad
abbrev pub invariant-loop-place : goal.invariant-loop-place
invariant-loop-place l = l.combined ≡ xor_with l.pad (take l.place l.block) ++ drop l.place l.block
