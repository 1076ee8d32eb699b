use Rattle.std.proofs.Common.{◌≡◌, ◌+◌, ◌≤◌, length}
use Rattle.kn_tcp.specs.Tcp.{counted_seen}
use Rattle.kn_workers.specs.Nets.{AreBound}
use Rattle.kn_tcp.proofs.tcp_net.make_doors.Given as goal

abbrev pub invariant-loop-i : goal.invariant-loop-i
invariant-loop-i l =
    (l.doors ≤ l.made.spare + l.i)
    × (length l.made.items ≡ l.i)
    × AreBound counted_seen l.quota l.doors 0 l.made.items
