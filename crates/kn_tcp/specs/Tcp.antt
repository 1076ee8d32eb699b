-- The system's net and its doors (keynoted's own).
use Rattle.std.specs.Prelude.{ℕ, ◌≤◌, List, Option, None}
use Rattle.kn_real.specs.Counted.{CountedLink}
use Rattle.kn_workers.specs.Connections.{ServedSeen}
use Rattle.kn_workers.specs.Doors.{DoorSeen}
use Rattle.kn_workers.specs.Nets.{NetSeen}
use Rattle.kn_workers.specs.declared.binding.Binding.{Binding}

-- a door that keeps its numbers alone: its quota, how many connections it gave, how many were finished, and how many
-- calls failed
pub record CountedDoor : Type 0 where
  pub quota : ℕ
  pub given : ℕ
  pub finished : ℕ
  pub faults : ℕ

-- no more are given than the quota, and no more are finished than were given
pub record IsCounted (quota given finished : ℕ) : Type 0 where
  pub within : given ≤ quota
  pub counted : finished ≤ given

-- such a door doesn't tell what was finished
abbrev pub counted_seen : CountedDoor → DoorSeen (ServedSeen CountedLink)
counted_seen d = record { quota = d.quota; given = d.given; finished = d.finished; done = None; faults = d.faults }

-- the system's net: what was bound, the rooms that came back, and how many calls failed
pub record TcpNetSeen : Type 0 where
  pub bound : Option Binding
  pub rooms : List CountedDoor
  pub faults : ℕ

abbrev pub tcp_seen : TcpNetSeen → NetSeen CountedDoor
tcp_seen n = record { bound = n.bound; rooms = n.rooms; faults = n.faults }
