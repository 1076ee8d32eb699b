use Rattle.std.proofs.Common.{◌≡◌, ◌+◌, drop}
use Rattle.std.specs.List.{prefix_len}
use Rattle.kn_lex.specs.Bytes.{has_class}
use Rattle.kn_lex.proofs.bytes.run_len.Given as goal

-- what was passed counts with what is left
abbrev pub invariant-loop-i : goal.invariant-loop-i
invariant-loop-i l = prefix_len (has_class l.class) l.bytes ≡ l.i + prefix_len (has_class l.class) (drop l.i l.bytes)
