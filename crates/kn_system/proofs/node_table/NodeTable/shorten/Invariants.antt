use Rattle.std.proofs.Common.{◌≡◌, ◌+◌, length, take}
use Rattle.kn_system.proofs.node_table.NodeTable.shorten.Given as goal

abbrev pub invariant-loop-place : goal.invariant-loop-place
invariant-loop-place l = record {
  size : length l.self.pieces + l._place ≡ l.size + length l.initial.self.pieces;
  pieces : l.self.pieces ≡ take (length l.self.pieces) l.initial.self.pieces;
  ups : l.self.ups ≡ take (length l.self.pieces) l.initial.self.ups;
}
