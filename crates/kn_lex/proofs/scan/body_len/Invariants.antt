use Rattle.std.proofs.Common.{◌≡◌, ◌≤◌, ◌+◌, ◌-◌, drop, length}
use Rattle.kn_lex.specs.Scanning.{body_len}
use Rattle.kn_lex.proofs.scan.body_len.Given as goal

-- what was passed counts with what is left
abbrev pub invariant-loop-at : goal.invariant-loop-at
invariant-loop-at l = record {
  within : l.at ≤ length l.rest;
  counted : body_len l.rest ≡ l.at + body_len (drop l.at l.rest);
}

abbrev pub decreases-loop-at : goal.decreases-loop-at
decreases-loop-at l = length l.rest - l.at
