use Rattle.std.proofs.Common.{◌≡◌, take}
use Rattle.kn_bench.proofs.stated.copy_pieces.Given as goal

abbrev pub invariant-loop-piece : goal.invariant-loop-piece
invariant-loop-piece l = l.copy ≡ take l.piece-index l.pieces
