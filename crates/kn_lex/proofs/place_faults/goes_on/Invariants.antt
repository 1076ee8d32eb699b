use Rattle.std.proofs.Common.{◌≡◌, drop, false}
use Rattle.kn_lex.specs.Faults.{goes_on}
use Rattle.kn_lex.proofs.place_faults.goes_on.Given as goal

-- what is left decides
abbrev pub invariant-loop-byte : goal.invariant-loop-byte
invariant-loop-byte l = goes_on false l.rest ≡ goes_on l.commented (drop l.byte-index l.rest)
