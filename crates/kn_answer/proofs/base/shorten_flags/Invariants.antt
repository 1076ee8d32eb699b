use Rattle.std.proofs.Common.{◌≡◌, ◌+◌, length, take}
use Rattle.kn_answer.proofs.base.shorten_flags.Given as goal

abbrev pub invariant-loop-place : goal.invariant-loop-place
invariant-loop-place l = record {
  size : length l.flags + l._place ≡ l.len + length l.initial.flags;
  same : l.flags ≡ take (length l.flags) l.initial.flags;
}
