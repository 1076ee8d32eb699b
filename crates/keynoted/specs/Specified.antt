-- What is said of a run of the program, all together (keynoted's own).
use Rattle.std.specs.Prelude.{ℕ, ◌≡◌, ◌⊎◌, List}
use Rattle.kn_outside.specs.Seen.{LinkSeen}
use Rattle.kn_outside.specs.Faults.{Rose}
use Rattle.kn_workers.specs.Connections.{ServedSeen}
use Rattle.kn_workers.specs.Doors.{DoorSeen}
use Rattle.kn_words.specs.Commands.{IsNoCommand}
use Rattle.keynoted.specs.Outcomes.{OutsideSeen, IsEnded}
use Rattle.keynoted.specs.Calling.{CallsFor, EndsWith, EndsRefused}

module _ {C R : Type 0} (door : R → DoorSeen (ServedSeen C)) (connection : C → LinkSeen) where
  -- a run of the words `given` ended with this status
  pub record IsRun (given : List (List ℕ)) (before after : OutsideSeen R) (status : ℕ) : Type 0 where
    -- It had one outcome, whose line was printed byte for byte; or a front of the line stands and the status is 9.
    pub ends : IsEnded door connection given before after status
    -- Words of no command are refused.
    pub refused : IsNoCommand given → EndsRefused given before.output after.output status
    -- Where no call fails, the status is the one for which words, files and input call, or memory ran out, or writing
    -- the line failed.
    pub called : (due : ℕ) → CallsFor given before after due
        → EndsWith due status ⊎ ((status ≡ 9) × Rose before.output.faults after.output.faults)
