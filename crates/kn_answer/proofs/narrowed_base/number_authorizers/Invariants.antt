use Rattle.std.proofs.Common.{◌≡◌, ◌+◌, ◌≤◌, List, length, map, take}
use Rattle.kn_meaning.specs.Equations.{Part}
use Rattle.kn_rows.specs.BaseRows.{IsBaseOf}
use Rattle.kn_rows.specs.Numbering.{with_names}
use Rattle.kn_answer.proofs.narrowed_base.number_authorizers.Given as goal

abbrev pub invariant-loop-part : goal.invariant-loop-part
invariant-loop-part l = record {
  entered : l.numbered.names ≡ with_names l.initial.numbered.names (take l.part-index
      (map (λ part. part.assertion.authorizer) l.list));
  base : (parts : List Part) → IsBaseOf parts l.initial.numbered.names l.initial.numbered.system
      → IsBaseOf parts l.numbered.names l.numbered.system;
  one_each : length l.numbered.names ≡ length l.numbered.system.requesters;
  rows : l.numbered.system.rows ≡ l.initial.numbered.system.rows;
  levels : l.numbered.system.levels ≡ l.initial.numbered.system.levels;
  names : length l.numbered.names ≤ length l.initial.numbered.names + l.part-index;
}
