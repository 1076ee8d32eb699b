use Rattle.std.proofs.Common.{◌≡◌, ◌++◌, ◌∷◌, [], ◌<◌, ◌≤◌, ◌^◌, All, length, take}
use Rattle.kn_system.specs.declared.nodes.Up.TheVariants.{Row}
use Rattle.kn_system.specs.StoredNodes.{number_of_up}
use Rattle.kn_system.proofs.NodeLinks.{AreAdded}
use Rattle.kn_system.proofs.node_table.NodeTable.add_nodes.Given as goal

abbrev pub invariant-loop-piece : goal.invariant-loop-piece
invariant-loop-piece l = record {
  pieces : l.self.pieces ≡ l.fn.self.pieces ++ take l.piece-index l.formula;
  added : AreAdded l.formula (length l.fn.self.pieces) (Row l.row ∷ []) l.fn.self.ups l.self.ups l.above.items
      l.piece-index;
  kept_ups : take (length l.fn.self.ups) l.self.ups ≡ l.fn.self.ups;
  longer : length l.fn.self.ups ≤ length l.self.ups;
  low : All (λ up. number_of_up up < 2 ^ 24) l.above.items;
}
