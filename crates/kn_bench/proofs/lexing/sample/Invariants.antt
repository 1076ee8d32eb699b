use Rattle.std.proofs.Common.{◌≤◌, ◌-◌, vec_len}
use Rattle.kn_bench.proofs.lexing.sample.Given as goal

abbrev pub invariant-assertions : goal.invariant-assertions
invariant-assertions l = vec_len l.text ≤ l.size

abbrev pub decreases-assertions : goal.decreases-assertions
decreases-assertions l = l.size - vec_len l.text

abbrev pub invariant-fill : goal.invariant-fill
invariant-fill l = vec_len l.text ≤ l.size

abbrev pub decreases-fill : goal.decreases-fill
decreases-fill l = l.size - vec_len l.text
