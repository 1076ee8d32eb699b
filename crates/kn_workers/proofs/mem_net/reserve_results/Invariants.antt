use Rattle.std.proofs.Common.{◌≡◌, length}
use Rattle.kn_workers.specs.Rooms.{AreFit}
use Rattle.kn_workers.proofs.mem_net.reserve_results.Given as goal

abbrev pub invariant-loop-i : goal.invariant-loop-i
invariant-loop-i l = (length l.all ≡ l.i) × AreFit l.rooms 0 l.all
