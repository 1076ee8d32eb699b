-- Rooms of a net in memory, their results, and the shares of doors.
use Rattle.std.proofs.Common.{◌≡◌, ℕ, zero, suc, ◌+◌, ◌≤◌, List, [], ◌∷◌, ◌++◌, length, drop, refl, sym, ap, ◌∙◌}
use Rattle.std.proofs.Common.{arith, Some, None, subst}
use Rattle.std.specs.Prelude.{slice_get, remove}
use Rattle.kn_outside.specs.InMemory.{LinkInMemory}
use Rattle.kn_workers.specs.Doors.{DoorSeen}
use Rattle.kn_workers.specs.InMemory.{DoorInMemory, door_seen}
use Rattle.kn_workers.specs.declared.mem_door.MemRoom.{MemRoom}
use Rattle.kn_workers.specs.Nets.{share, IsBound, AreBound}
use Rattle.kn_workers.specs.Rooms.{links_of, failing_of, Results, AreFit, HaveRooms}

-- results for one room more
pub fit_one_more : (rooms : List MemRoom) (i : ℕ) (all : List Results) (r : Results) → AreFit rooms i all →
    r.items ≡ [] → length (links_of rooms (i + length all)) ≤ r.spare → AreFit rooms i (all ++ r ∷ [])
fit_one_more rooms i [] r fit none enough =
    (none, subst (λ (n : ℕ). length (links_of rooms n) ≤ r.spare) (omega arith) enough, tt)
fit_one_more rooms i (x ∷ all) r fit none enough =
    let at : i + length (x ∷ all) ≡ i + 1 + length all = omega arith in (
      fit.0,
      fit.1,
      fit_one_more rooms (i + 1) all r fit.2 none
          (subst (λ (n : ℕ). length (links_of rooms n) ≤ r.spare) at enough),
    )

-- the first results fit the first room, and the others the others
pub fit_first : (rooms : List MemRoom) (i : ℕ) (all : List Results) (r : Results) → slice_get all 0 ≡ Some r →
    AreFit rooms i all → (r.items ≡ []) × (length (links_of rooms i) ≤ r.spare) × AreFit rooms (i + 1) (remove all 0)
fit_first rooms i [] r e fit = absurd (cc e)
fit_first rooms i (x ∷ all) r e fit =
    let same : x ≡ r = cc e in (
      subst (λ (y : Results). y.items ≡ []) same fit.0,
      subst (λ (y : Results). length (links_of rooms i) ≤ y.spare) same fit.1,
      fit.2,
    )

-- a room and its links, and a place past the rooms
pub links_at : (rooms : List MemRoom) (i : ℕ) (room : MemRoom) → slice_get rooms i ≡ Some room →
    links_of rooms i ≡ room.links
links_at [] i room e = absurd (cc e)
links_at (x ∷ rooms) zero room e =
    let same : x ≡ room = cc e in
    ap (λ (r : MemRoom). r.links) same
links_at (x ∷ rooms) (suc i) room e = links_at rooms i room e

pub links_past : (rooms : List MemRoom) (i : ℕ) → slice_get rooms i ≡ None → links_of rooms i ≡ []
links_past [] i e = refl
links_past (x ∷ rooms) zero e = absurd (cc e)
links_past (x ∷ rooms) (suc i) e = links_past rooms i e

-- the first room of those from a place on is the room of that place
pub links_from : (rooms : List MemRoom) (i : ℕ) → links_of (drop i rooms) 0 ≡ links_of rooms i
links_from rooms zero = refl
links_from [] (suc i) = refl
links_from (room ∷ rooms) (suc i) = links_from rooms i

pub failing_from : (rooms : List MemRoom) (i : ℕ) → failing_of (drop i rooms) 0 ≡ failing_of rooms i
failing_from rooms zero = refl
failing_from [] (suc i) = refl
failing_from (room ∷ rooms) (suc i) = failing_from rooms i

-- one door more has its room
pub have_one_more : (rooms : List MemRoom) (i : ℕ) (made : List DoorInMemory) (d : DoorInMemory) →
    HaveRooms rooms i made → d.links ≡ links_of rooms (i + length made) →
    d.failing ≡ failing_of rooms (i + length made) → d.calls ≡ 0 → HaveRooms rooms i (made ++ d ∷ [])
have_one_more rooms i [] d have links failing none =
    let at : i + 0 ≡ i = omega arith in
    (links ∙ ap (links_of rooms) at, failing ∙ ap (failing_of rooms) at, none, tt)
have_one_more rooms i (x ∷ made) d have links failing none =
    let at : i + length (x ∷ made) ≡ i + 1 + length made = omega arith in (
      have.0,
      have.1,
      have.2,
      have_one_more rooms (i + 1) made d have.3 (links ∙ ap (links_of rooms) at)
          (failing ∙ ap (failing_of rooms) at) none,
    )

pub rest_length : {X : Type 0} (xs : List X) (x : X) → slice_get xs 0 ≡ Some x → length xs ≡ length (remove xs 0) + 1
rest_length [] x e = absurd (cc e)
rest_length (y ∷ ys) x e = omega arith

module _ {S R : Type 0} (seen : R → DoorSeen S) (quota doors : ℕ) where
  -- one door more is bound
  pub bound_one_more : (i : ℕ) (rooms : List R) (room : R) → AreBound seen quota doors i rooms →
      IsBound (share quota doors (i + length rooms)) (seen room) → AreBound seen quota doors i (rooms ++ room ∷ [])
  bound_one_more i [] room bound one =
      (subst (λ (n : ℕ). IsBound (share quota doors n) (seen room)) (omega arith) one, tt)
  bound_one_more i (r ∷ rooms) room bound one =
      let at : i + length (r ∷ rooms) ≡ i + 1 + length rooms = omega arith in (
        bound.0,
        bound_one_more (i + 1) rooms room bound.1
            (subst (λ (n : ℕ). IsBound (share quota doors n) (seen room)) at one),
      )

-- a door as it is made
pub bound_new : (quota own : ℕ) (links : List LinkInMemory) (failing : List ℕ) (d : DoorInMemory) →
    d ≡ record { links = links; failing = failing; calls = 0; quota = own; given = 0; faults = 0; done = [] } →
    own ≡ quota → IsBound quota (door_seen d)
bound_new quota own links failing d is own_is =
    subst (λ (x : DoorInMemory). IsBound quota (door_seen x)) (sym is)
    (record { quota_is = own_is; none_given = refl; none_finished = refl; none_failed = refl; none_done = refl })
