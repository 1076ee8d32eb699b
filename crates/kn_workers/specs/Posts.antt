-- The posts of workers, before and after their work (keynoted's own).
use Rattle.std.specs.Prelude.{ℕ, ◌≢◌, ◌+◌, Bool, false, ◌||◌, List, [], ◌∷◌, map}
use mathlib.Core.List.{IsPrefix}
use Rattle.atomic_table.specs.Seated.{TableId}
use Rattle.kn_outside.specs.Seen.{LinkSeen}
use Rattle.kn_history.specs.declared.update.Update.{Update}
use Rattle.kn_daemon.specs.Daemon.{DaemonConfig}
use Rattle.kn_registry.specs.Passes.{PassSeen, IsReady}
use Rattle.kn_workers.specs.Connections.{ServedSeen}
use Rattle.kn_workers.specs.Doors.{DoorSeen, WorksAt, HasGiven}
use Rattle.kn_workers.specs.declared.post.Post.{Post}

-- a pass that was split from a root, between two calls
abbrev pub IsSplit : TableId → PassSeen → Type 0
IsSplit registry pass = IsReady registry pass × (pass.number ≢ 0)

module _ {D : Type 0} where
  -- the posts of doors with these passes, before any work
  abbrev pub posts_of : List D → List PassSeen → List (Post D)
  posts_of [] passes = []
  posts_of (d ∷ doors) [] = []
  posts_of (d ∷ doors) (pass ∷ passes) =
      record { door = d; pass = pass; end = record { finished = 0; failed = false } } ∷ posts_of doors passes

  abbrev pub doors_of : List (Post D) → List D
  doors_of posts = map (λ p. p.door) posts

  abbrev pub passes_of : List (Post D) → List PassSeen
  passes_of posts = map (λ p. p.pass) posts

  -- how many connections were finished at all posts
  abbrev pub all_finished : List (Post D) → ℕ
  all_finished [] = 0
  all_finished (p ∷ posts) = p.end.finished + all_finished posts

  -- whether the work at a post ended by a failed door
  abbrev pub some_failed : List (Post D) → Bool
  some_failed [] = false
  some_failed (p ∷ posts) = p.end.failed || some_failed posts

-- what all these passes have seen is the first part of a history
abbrev pub AllSeenIn : List Update → List PassSeen → Type 0
AllSeenIn history [] = Unit {0}
AllSeenIn history (pass ∷ passes) = IsPrefix pass.seen history × AllSeenIn history passes

-- the work at a post
pub record WorksAtPost {C D : Type 0} (registry : TableId) (door : D → DoorSeen (ServedSeen C)) (seen : C → LinkSeen)
    (g : DaemonConfig) (p p' : Post D) : Type 0 where
  pub ready : IsReady registry p'.pass
  pub works : WorksAt seen g p.pass p'.pass (door p.door) (door p'.door) p'.end.finished
  pub failed : HasGiven p'.end.failed (door p.door) (door p'.door)
