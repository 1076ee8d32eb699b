-- Doors and nets in memory (keynoted's own).
use Rattle.std.specs.Prelude.{ℕ, ◌≡◌, ◌+◌, ◌≤◌, ◌⊎◌, true, false, List, [], ◌∷◌, length, All, Some}
use Rattle.kn_base.specs.ListWithRoom.{ListWithRoom}
use Rattle.kn_outside.specs.Faults.{count_up}
use Rattle.kn_outside.specs.InMemory.{LinkInMemory, is_failing}
use Rattle.kn_outside.specs.Seen.{LinkSeen}
use Rattle.kn_workers.specs.Connections.{ServedSeen}
use Rattle.kn_workers.specs.Doors.{DoorSeen}
use Rattle.kn_workers.specs.declared.accepted.Accepted.{Accepted}
use Rattle.kn_workers.specs.declared.accepted.Accepted.TheVariants.{Conn, Closed, Failed}

-- a door in memory: the links that it is still to give, the numbers of its calls that fail, how many calls there were,
-- its quota, how many links it gave, how many calls failed, and what was finished
pub record DoorInMemory : Type 0 where
  pub links : List LinkInMemory
  pub failing : List ℕ
  pub calls : ℕ
  pub quota : ℕ
  pub given : ℕ
  pub faults : ℕ
  pub done : List (ServedSeen LinkInMemory)

-- a door of these links and failing calls, before any call of it
abbrev pub new_door : List LinkInMemory → List ℕ → ℕ → DoorInMemory
new_door links failing quota = record {
  links = links;
  failing = failing;
  calls = 0;
  quota = quota;
  given = 0;
  faults = 0;
  done = [];
}

-- what is seen of a link in memory
abbrev pub link_seen : LinkInMemory → LinkSeen
link_seen l = record { written = Some l.written; taken = Some l.taken; left = Some l.left; faults = l.faults }

-- a link as it is made
pub record IsNewLink (l : LinkInMemory) : Type 0 where
  pub taken : l.taken ≡ []
  pub written : l.written ≡ []
  pub faults : l.faults ≡ 0

abbrev pub door_seen : DoorInMemory → DoorSeen (ServedSeen LinkInMemory)
door_seen d =
    record { quota = d.quota; given = d.given; finished = length d.done; done = Some d.done; faults = d.faults }

-- there is room for the results of all links, and no more are given than the quota, and no more finished than given
pub record IsKept (links : List LinkInMemory) (quota given : ℕ)
    (done : ListWithRoom (ServedSeen LinkInMemory)) : Type 0 where
  pub new : All IsNewLink links
  pub room : length links + given ≤ length done.items + done.spare
  pub within : given ≤ quota
  pub finished : length done.items ≤ given

-- What the next connection of a door in memory changes: it is the first link that is left. A call below the quota fails
-- exactly where there is none, or where it is among those that fail.
abbrev pub GivesNext : Accepted LinkInMemory → DoorInMemory → DoorInMemory → Type 0
GivesNext (Conn link) d d' =
    (is_failing d.failing (count_up d.calls) ≡ false) × (d.links ≡ link ∷ d'.links)
    × (d' ≡ record d { links = d'.links; calls = count_up d.calls; given = d.given + 1 })
GivesNext Closed d d' = d' ≡ record d { calls = count_up d.calls }
GivesNext Failed d d' =
    ((d.links ≡ []) ⊎ (is_failing d.failing (count_up d.calls) ≡ true))
    × (d' ≡ record d { calls = count_up d.calls; faults = count_up d.faults })
