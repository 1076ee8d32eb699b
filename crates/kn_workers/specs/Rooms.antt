-- A net in memory and its rooms: what the doors get of them, and the room for their results (keynoted's own).
use Rattle.std.specs.Prelude.{ℕ, zero, suc, ◌≡◌, ◌+◌, ◌≤◌, true, false, List, [], ◌∷◌, length, Option, Result, Ok, Err}
use Rattle.kn_base.specs.ListWithRoom.{ListWithRoom}
use Rattle.kn_outside.specs.Faults.{count_up}
use Rattle.kn_outside.specs.InMemory.{LinkInMemory, is_failing}
use Rattle.kn_workers.specs.Connections.{ServedSeen}
use Rattle.kn_workers.specs.InMemory.{DoorInMemory}
use Rattle.kn_workers.specs.Nets.{NetSeen}
use Rattle.kn_workers.specs.declared.binding.Binding.{Binding}
use Rattle.kn_workers.specs.declared.binding.BindFault.{BindFault}
use Rattle.kn_workers.specs.declared.binding.BindFault.TheVariants.{Failed, NoMemory}
use Rattle.kn_workers.specs.declared.mem_door.MemRoom.{MemRoom}

-- a net in memory: its rooms before they are bound, the numbers of its calls that fail, how many calls there were, what
-- was bound, the rooms that came back, and how many calls failed
pub record NetInMemory : Type 0 where
  pub waiting : List MemRoom
  pub failing : List ℕ
  pub calls : ℕ
  pub bound : Option Binding
  pub rooms : List DoorInMemory
  pub faults : ℕ

abbrev pub net_seen : NetInMemory → NetSeen DoorInMemory
net_seen n = record { bound = n.bound; rooms = n.rooms; faults = n.faults }

-- the links of the room of this place; past the rooms there are none
abbrev pub links_of : List MemRoom → ℕ → List LinkInMemory
links_of [] i = []
links_of (room ∷ rooms) zero = room.links
links_of (room ∷ rooms) (suc i) = links_of rooms i

-- the calls that fail at the door of the room of this place
abbrev pub failing_of : List MemRoom → ℕ → List ℕ
failing_of [] i = []
failing_of (room ∷ rooms) zero = room.failing
failing_of (room ∷ rooms) (suc i) = failing_of rooms i

abbrev pub Results : Type 0
Results = ListWithRoom (ServedSeen LinkInMemory)

-- from this place on each list of results is empty, and has room for the links of its room
abbrev pub AreFit : List MemRoom → ℕ → List Results → Type 0
AreFit rooms i [] = Unit {0}
AreFit rooms i (r ∷ results) = (r.items ≡ []) × (length (links_of rooms i) ≤ r.spare) × AreFit rooms (i + 1) results

-- from this place on each door has the links and the failing calls of its room, and no call was made of it
abbrev pub HaveRooms : List MemRoom → ℕ → List DoorInMemory → Type 0
HaveRooms rooms i [] = Unit {0}
HaveRooms rooms i (d ∷ doors) =
    (d.links ≡ links_of rooms i) × (d.failing ≡ failing_of rooms i) × (d.calls ≡ 0) × HaveRooms rooms (i + 1) doors

-- binding in memory fails exactly where the call is among those that fail, and else the doors have the rooms
abbrev pub BindsRooms : Result (List DoorInMemory) BindFault → NetInMemory → NetInMemory → Type 0
BindsRooms (Ok doors) n n' =
    (is_failing n.failing (count_up n.calls) ≡ false) × HaveRooms n.waiting 0 doors
    × (n' ≡ record n { waiting = []; calls = count_up n.calls; bound = n'.bound })
BindsRooms (Err Failed) n n' =
    (is_failing n.failing (count_up n.calls) ≡ true)
    × (n' ≡ record n { calls = count_up n.calls; bound = n'.bound; faults = count_up n.faults })
BindsRooms (Err NoMemory) n n' = n' ≡ n
