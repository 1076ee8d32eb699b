use Rattle.std.proofs.Common.{◌≡◌, ◌+◌, ◌≤◌, length, drop}
use Rattle.kn_workers.specs.InMemory.{door_seen}
use Rattle.kn_workers.specs.Nets.{AreBound}
use Rattle.kn_workers.specs.Rooms.{AreFit, HaveRooms}
use Rattle.kn_workers.proofs.mem_net.make_doors.Given as goal

abbrev pub invariant-loop-i : goal.invariant-loop-i
invariant-loop-i l =
    (length l.results + l.i ≡ l.doors)
    × AreFit l.initial.rooms l.i l.results
    × (l.doors ≤ l.made.spare + l.i)
    × (length l.made.items ≡ l.i)
    × AreBound door_seen l.quota l.doors 0 l.made.items
    × (l.rooms ≡ drop l.i l.initial.rooms)
    × HaveRooms l.initial.rooms 0 l.made.items
