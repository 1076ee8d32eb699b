use Rattle.std.proofs.Common.{◌≤◌, ◌-◌, vec_len}
use Rattle.kn_bench.specs.declared.feeding.TheConstants.{STREAM_BYTES}
use Rattle.kn_bench.proofs.feeding.sample.Given as goal

abbrev pub invariant-requests : goal.invariant-requests
invariant-requests l = vec_len l.text ≤ STREAM_BYTES

abbrev pub decreases-requests : goal.decreases-requests
decreases-requests l = STREAM_BYTES - vec_len l.text
