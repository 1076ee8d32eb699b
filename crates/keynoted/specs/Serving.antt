-- Why `serve` ends, and what it leaves (keynoted's own).
use Rattle.std.specs.Prelude.{◌≡◌}
use Rattle.kn_outside.specs.Seen.{FilesSeen, LinkSeen}
use Rattle.kn_inputs.specs.Inputs.{RunsOver, StopsAtPolicy, AreKeysStopped}
use Rattle.kn_words.specs.Orders.{Order}
use Rattle.kn_workers.specs.declared.binding.Binding.{Binding}
use Rattle.kn_workers.specs.Addresses.{ServesOver}
use Rattle.kn_workers.specs.Connections.{ServedSeen}
use Rattle.kn_workers.specs.Doors.{DoorSeen}
use Rattle.kn_workers.specs.Nets.{NetSeen}
use Rattle.keynoted.specs.declared.serve_ending.ServeEnding.{ServeEnding}
use Rattle.keynoted.specs.declared.serve_ending.ServeEnding.TheVariants.{PolicyStopped, KeysStopped, Ended}

-- what a net is asked to bind for it: a door for each worker, and they share the connections
abbrev pub binding_of : Order → Binding
binding_of order = record { address = order.address; doors = order.workers; quota = order.connections }

module _ {C R : Type 0} (door : R → DoorSeen (ServedSeen C)) (link : C → LinkSeen) where
  -- Why `serve` ends so, and what it leaves of the files and of the net. Before both files are tried the net is
  -- untouched; behind that the address was served over what they hold.
  abbrev pub ServeCause : FilesSeen → FilesSeen → NetSeen R → NetSeen R → Order → ServeEnding → Type 0
  ServeCause f f' n n' order (PolicyStopped stop) = StopsAtPolicy f f' order.files.policy stop × (n' ≡ n)
  ServeCause f f' n n' order (KeysStopped stop) = AreKeysStopped f f' order.files stop × (n' ≡ n)
  ServeCause f f' n n' order (Ended ending) =
      RunsOver f f' order.files (λ g past. ServesOver door link g past n n' (binding_of order) ending)
