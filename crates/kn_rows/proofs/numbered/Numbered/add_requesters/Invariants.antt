use Rattle.std.proofs.Common.{◌≡◌, ◌+◌, ◌≤◌, length, take}
use Rattle.kn_rows.specs.Numbering.{AreNumbered}
use Rattle.kn_rows.specs.Extending.{AddsNames}
use Rattle.kn_rows.proofs.numbered.Numbered.add_requesters.Given as goal

abbrev pub invariant-loop-requester : goal.invariant-loop-requester
invariant-loop-requester l = record {
  few : length l.self.names ≤ length l.initial.self.names + l.requester-index;
  numbered : AreNumbered l.requesters l.self.names l.self.system.requesters;
  reached : AddsNames (take l.requester-index l.requesters) l.initial.self.names l.self.names;
  levels : l.self.system.levels ≡ l.initial.self.system.levels;
  rows : l.self.system.rows ≡ l.initial.self.system.rows;
}
