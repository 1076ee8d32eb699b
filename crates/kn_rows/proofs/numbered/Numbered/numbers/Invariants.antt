use Rattle.std.proofs.Common.{◌≡◌, ◌+◌, ◌≤◌, List, length, take}
use Rattle.kn_meaning.specs.Equations.{Part}
use Rattle.kn_rows.specs.BaseRows.{AreNumbersOf, IsBaseOf}
use Rattle.kn_rows.specs.Numbering.{with_names}
use Rattle.kn_rows.proofs.numbered.Numbered.numbers.Given as goal

abbrev pub invariant-loop-principal : goal.invariant-loop-principal
invariant-loop-principal l = record {
  numbers : AreNumbersOf l.self.names (take l.principal-index l.principals) l.numbers;
  base : (parts : List Part) → IsBaseOf parts l.initial.self.names l.initial.self.system
      → IsBaseOf parts l.self.names l.self.system;
  rows : l.self.system.rows ≡ l.initial.self.system.rows;
  one_each : length l.self.names ≡ length l.self.system.requesters;
  entered : l.self.names ≡ with_names l.initial.self.names (take l.principal-index l.principals);
  names : length l.self.names ≤ length l.initial.self.names + l.principal-index;
}
