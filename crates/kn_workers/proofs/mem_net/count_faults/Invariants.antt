use Rattle.std.proofs.Common.{◌≡◌, drop}
use Rattle.kn_workers.specs.InMemory.{door_seen}
use Rattle.kn_workers.specs.Nets.{with_faults}
use Rattle.kn_workers.proofs.mem_net.count_faults.Given as goal

abbrev pub invariant-loop-door : goal.invariant-loop-door
invariant-loop-door l =
    with_faults door_seen l.faults (drop l.door-index l.doors) ≡ with_faults door_seen l.initial.faults l.doors
