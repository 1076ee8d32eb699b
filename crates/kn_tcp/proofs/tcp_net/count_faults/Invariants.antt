use Rattle.std.proofs.Common.{◌≡◌, drop}
use Rattle.kn_tcp.specs.Tcp.{counted_seen}
use Rattle.kn_workers.specs.Nets.{with_faults}
use Rattle.kn_tcp.proofs.tcp_net.count_faults.Given as goal

abbrev pub invariant-loop-door : goal.invariant-loop-door
invariant-loop-door l = with_faults counted_seen l.faults (drop l.door-index l.doors)
    ≡ with_faults counted_seen l.initial.faults l.doors
