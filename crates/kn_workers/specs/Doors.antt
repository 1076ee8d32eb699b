-- Doors: what contracts see of one, what its calls change, and what a worker does at it (keynoted's own).
use Rattle.std.specs.Prelude.{ℕ, ◌≡◌, ◌+◌, ◌≤◌, ◌<◌, Bool, List, [], ◌∷◌, ◌++◌, length, All, Option, option_map}
use Rattle.std.specs.Prelude.{MatchBool}
use Rattle.kn_outside.specs.Seen.{LinkSeen}
use Rattle.kn_outside.specs.Faults.{Rose}
use Rattle.kn_history.specs.declared.update.Update.{Update}
use Rattle.kn_daemon.specs.Daemon.{DaemonConfig}
use Rattle.kn_registry.specs.Passes.{PassSeen, Moves}
use Rattle.kn_workers.specs.Connections.{ServedSeen, IsNew, IsConnection, FollowEachOther, stops_of, own_in}
use Rattle.kn_workers.specs.declared.accepted.Accepted.{Accepted}
use Rattle.kn_workers.specs.declared.accepted.Accepted.TheVariants.{Conn, Closed, Failed}

-- A door: how many connections it is to give, how many it gave, how many were finished, which ones if it tells them,
-- and how many calls of it failed.
pub record DoorSeen (S : Type 0) : Type 0 where
  pub quota : ℕ
  pub given : ℕ
  pub finished : ℕ
  pub done : Option (List S)
  pub faults : ℕ

-- what was finished, with more behind it
abbrev pub with_more : {S : Type 0} → List S → Option (List S) → Option (List S)
with_more more done = option_map (λ first. first ++ more) done

module _ {C : Type 0} where
  -- what the next connection of a door changes
  abbrev pub Accepts : (C → LinkSeen) → Accepted C → DoorSeen (ServedSeen C) → DoorSeen (ServedSeen C) → Type 0
  Accepts seen (Conn link) d d' = IsNew (seen link) × (d.given < d.quota) × (d' ≡ record d { given = d.given + 1 })
  Accepts seen Closed d d' = (d.given ≡ d.quota) × (d' ≡ d)
  Accepts seen Failed d d' = (d.given < d.quota) × Rose d.faults d'.faults × (d' ≡ record d { faults = d'.faults })

  -- a connection more is finished
  abbrev pub after_finish : ServedSeen C → DoorSeen (ServedSeen C) → DoorSeen (ServedSeen C)
  after_finish served d = record d { finished = d.finished + 1; done = with_more (served ∷ []) d.done }

  -- What a worker has done at a door so far: it served and finished each connection that the door gave, so many.
  pub record WorksAt (seen : C → LinkSeen) (g : DaemonConfig) (v w : PassSeen) (d d' : DoorSeen (ServedSeen C))
      (count : ℕ) : Type 0 where
    pub connections : List (ServedSeen C)
    pub more : List Update
    pub own : List Update
    pub moves : Moves v w more own (stops_of connections)
    pub each : All (IsConnection seen g w.seen v.number) connections
    pub follow : FollowEachOther (length v.seen) connections (length w.seen)
    pub own_are : own ≡ own_in w.seen v.number connections
    pub counted : count ≡ length connections
    pub still : count ≡ 0 → w ≡ v
    pub given : d'.given ≡ d.given + count
    pub finished : d'.finished ≡ d.finished + count
    pub done : d'.done ≡ with_more connections d.done
    pub quota : d'.quota ≡ d.quota
    pub later : d.faults ≤ d'.faults

  -- whether a door gave less than its quota: then a call of it failed, and else none
  abbrev pub HasGiven : Bool → DoorSeen (ServedSeen C) → DoorSeen (ServedSeen C) → Type 0
  HasGiven failed d d' =
      MatchBool failed ((d'.given < d'.quota) × Rose d.faults d'.faults)
      ((d'.given ≡ d'.quota) × (d'.faults ≡ d.faults))
