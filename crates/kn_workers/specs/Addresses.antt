-- Why serving the connections of an address ends, and what it leaves of the net (keynoted's own).
use Rattle.std.specs.Prelude.{ℕ, ◌≡◌, true, false, List, length, Some}
use Rattle.kn_outside.specs.Seen.{LinkSeen}
use Rattle.kn_outside.specs.Faults.{Rose}
use Rattle.kn_history.specs.declared.update.Update.{Update}
use Rattle.kn_daemon.specs.Daemon.{DaemonConfig}
use Rattle.kn_registry.specs.Passes.{PassSeen}
use Rattle.kn_workers.specs.declared.address.AddressEnding.{AddressEnding}
use Rattle.kn_workers.specs.declared.address.AddressEnding.TheVariants.{BindMemory, Unbound, WorkMemory, DoorFailed}
use Rattle.kn_workers.specs.declared.address.AddressEnding.TheVariants.{Served}
use Rattle.kn_workers.specs.declared.binding.Binding.{Binding}
use Rattle.kn_workers.specs.declared.worker.ServeEnd.{ServeEnd}
use Rattle.kn_workers.specs.Connections.{ServedSeen}
use Rattle.kn_workers.specs.Doors.{DoorSeen}
use Rattle.kn_workers.specs.Nets.{NetSeen, AreBound, with_faults}
use Rattle.kn_workers.specs.Workers.{AllServed}

module _ {C R : Type 0} (door : R → DoorSeen (ServedSeen C)) (link : C → LinkSeen) where
  -- The address was bound, which gave these doors, and as many came back. The net's count is then its own and theirs.
  pub record AreBack (n n' : NetSeen R) (binding : Binding) (doors : List R) : Type 0 where
    pub bound : AreBound door binding.quota binding.doors 0 doors
    pub count : length doors ≡ binding.doors
    pub net : n' ≡ record n { bound = Some binding; rooms = n'.rooms; faults = with_faults door n.faults n'.rooms }

  -- The address was bound, and each door had a worker, who served each connection that it gave. The root, from which no
  -- pass was split before, had seen this history before, and what it has seen afterwards is the history of all
  -- connections. All doors came back.
  pub record AreServed (g : DaemonConfig) (past : List Update) (n n' : NetSeen R) (binding : Binding) (end : ServeEnd)
      (history : List Update) : Type 0 where
    pub doors : List R
    pub back : AreBack n n' binding doors
    pub before : PassSeen
    pub after : PassSeen
    pub past_seen : before.seen ≡ past
    pub root : before.number ≡ 0
    pub unsplit : before.splits ≡ 0
    pub history_seen : after.seen ≡ history
    pub served : AllServed door link g before after doors n'.rooms end

  -- Why serving an address over this history ends so, and what it leaves of the net. A door that failed, or an address
  -- that couldn't be bound, raised the net's count.
  abbrev pub ServesOver : DaemonConfig → List Update → NetSeen R → NetSeen R → Binding → AddressEnding → Type 0
  ServesOver g past n n' binding BindMemory = n' ≡ n
  ServesOver g past n n' binding Unbound =
      Rose n.faults n'.faults × (n' ≡ record n { bound = Some binding; faults = n'.faults })
  ServesOver g past n n' binding WorkMemory = AreBack n n' binding n'.rooms
  ServesOver g past n n' binding DoorFailed = (finished : ℕ) × (history : List Update)
      × AreServed g past n n' binding (record { finished = finished; failed = true }) history
      × Rose n.faults n'.faults
  ServesOver g past n n' binding (Served finished version) = (history : List Update)
      × AreServed g past n n' binding (record { finished = finished; failed = false }) history
      × (finished ≡ binding.quota) × (version ≡ length history)
