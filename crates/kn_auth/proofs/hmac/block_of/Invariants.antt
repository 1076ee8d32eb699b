use Rattle.std.proofs.Common.{◌≡◌, ◌-◌, ◌++◌, take, replicate}
use Rattle.kn_auth.proofs.hmac.block_of.Given as goal

-- the bytes so far, and zeros
abbrev pub invariant-loop-place : goal.invariant-loop-place
invariant-loop-place l = l.block ≡ take l.place l.bytes ++ replicate (64 - l.place) 0
