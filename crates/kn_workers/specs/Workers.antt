-- Workers side by side: each serves a door by a pass of its own, which is joined into the root (keynoted's own).
use Rattle.std.specs.Prelude.{ℕ, zero, suc, ◌≡◌, ◌+◌, ◌≤◌, Bool, List, [], ◌∷◌, ◌++◌, length, map, drop, All, nat_lt}
use Rattle.std.specs.Prelude.{sum_by}
use Rattle.std.specs.List.{list_any}
use mathlib.Core.List.{IsPrefix}
use Rattle.kn_outside.specs.Seen.{LinkSeen}
use Rattle.kn_history.specs.declared.update.Update.{Update}
use Rattle.kn_turn.specs.declared.view.EndedPass.{EndedPass}
use Rattle.kn_turn.specs.Passes.{split_of, after_split, after_join}
use Rattle.kn_daemon.specs.Daemon.{DaemonConfig}
use Rattle.kn_registry.specs.Passes.{PassSeen, IsSoundPass}
use Rattle.kn_workers.specs.Connections.{ServedSeen, IsConnection, FollowEachOther, stops_of, own_in}
use Rattle.kn_workers.specs.Doors.{DoorSeen, with_more, HasGiven}
use Rattle.kn_workers.specs.declared.worker.ServeEnd.{ServeEnd}
use Rattle.kn_history.specs.History.{own_updates}

-- the passes that are split from a root, so many
abbrev pub splits_from : PassSeen → ℕ → List PassSeen
splits_from root zero = []
splits_from root (suc n) = split_of root ∷ splits_from (after_split root) n

-- a root after passes were joined into it
abbrev pub after_joins : PassSeen → List PassSeen → PassSeen
after_joins root [] = root
after_joins root (pass ∷ passes) = after_joins (after_join root pass) passes

-- some passes were split from a root, and joined into it again
pub record IsRejoined (v w : PassSeen) : Type 0 where
  pub count : ℕ
  pub is : w ≡ after_joins (record v { splits = v.splits + count }) (splits_from v count)
  pub seen : w.seen ≡ v.seen

-- what one worker did: its door before and after, its connections, and what is kept of its pass
pub record Work (C D : Type 0) : Type 0 where
  pub before : D
  pub after : D
  pub connections : List (ServedSeen C)
  pub kept : EndedPass Update

module _ {C D : Type 0} (door : D → DoorSeen (ServedSeen C)) where
  -- whether a door has given less than its quota
  abbrev pub gave_less : D → Bool
  gave_less d = nat_lt (door d).given (door d).quota

  -- how many connections all doors give together
  abbrev pub all_quotas : List D → ℕ
  all_quotas [] = 0
  all_quotas (d ∷ doors) = (door d).quota + all_quotas doors

  module _ (seen : C → LinkSeen) (g : DaemonConfig) (start : ℕ) (history : List Update) where
    -- The worker with this number served each connection that its door gave, over the history.
    pub record HasWorked (caller : ℕ) (work : Work C D) : Type 0 where
      pub each : All (IsConnection seen g history caller) work.connections
      pub end : ℕ
      pub follow : FollowEachOther start work.connections end
      pub within : end ≤ length history
      pub number : work.kept.number ≡ caller
      pub stops : work.kept.stops ≡ stops_of work.connections
      pub mine : work.kept.mine ≡ own_in history caller work.connections
      pub given : (door work.after).given ≡ (door work.before).given + length work.connections
      pub finished : (door work.after).finished ≡ (door work.before).finished + length work.connections
      pub done : (door work.after).done ≡ with_more work.connections (door work.before).done
      pub quota : (door work.after).quota ≡ (door work.before).quota
      pub failed : HasGiven (gave_less work.after) (door work.before) (door work.after)

    -- workers with the numbers from this one on
    abbrev pub EachWorked : ℕ → List (Work C D) → Type 0
    EachWorked caller [] = Unit {0}
    EachWorked caller (work ∷ works) = HasWorked caller work × EachWorked (caller + 1) works

  -- Each door had a worker, whose pass was split from the root and joined into it again, in the doors' order. The root
  -- made no update and didn't have the turn: each update that it has seen since is one of a connection.
  pub record AllServed (link : C → LinkSeen) (g : DaemonConfig) (v w : PassSeen) (doors doors' : List D)
      (end : ServeEnd) : Type 0 where
    pub works : List (Work C D)
    pub before : map (λ work. work.before) works ≡ doors
    pub after : map (λ work. work.after) works ≡ doors'
    pub each : EachWorked link g (length v.seen) w.seen (v.splits + 1) works
    pub seen : IsPrefix v.seen w.seen
    pub own : own_updates v.number (drop (length v.seen) w.seen) ≡ []
    pub sound : IsSoundPass w
    pub number : w.number ≡ v.number
    pub mine : w.mine ≡ v.mine
    pub stops : w.stops ≡ v.stops
    pub splits : w.splits ≡ v.splits + length works
    pub ended : w.ended ≡ v.ended ++ map (λ work. work.kept) works
    pub finished : end.finished ≡ sum_by (λ work. length work.connections) works
    pub failed : end.failed ≡ list_any (λ work. gave_less work.after) works
