-- Nets: what contracts see of one, and what binding an address gives (keynoted's own).
use Rattle.std.specs.Prelude.{ℕ, ◌≡◌, ◌+◌, ◌/◌, ◌%◌, ◌^◌, ◌-◌, List, [], ◌∷◌, Option, Some, Result, Ok, Err, IfSome}
use Rattle.std.specs.Prelude.{min, nat_lt, if◌then◌else◌}
use Rattle.kn_outside.specs.Faults.{Rose}
use Rattle.kn_workers.specs.Doors.{DoorSeen}
use Rattle.kn_workers.specs.declared.binding.Binding.{Binding}
use Rattle.kn_workers.specs.declared.binding.BindFault.{BindFault}
use Rattle.kn_workers.specs.declared.binding.BindFault.TheVariants.{Failed, NoMemory}

-- A net: what was bound, the rooms that came back, and how many calls failed, those of the rooms included.
pub record NetSeen (R : Type 0) : Type 0 where
  pub bound : Option Binding
  pub rooms : List R
  pub faults : ℕ

-- how many connections the door of this place gives, where so many doors share a quota
abbrev pub share : ℕ → ℕ → ℕ → ℕ
share quota doors i = quota / doors + (if nat_lt i (quota % doors) then 1 else 0)

-- a door that was just bound, with this quota
pub record IsBound {S : Type 0} (quota : ℕ) (d : DoorSeen S) : Type 0 where
  pub quota_is : d.quota ≡ quota
  pub none_given : d.given ≡ 0
  pub none_finished : d.finished ≡ 0
  pub none_failed : d.faults ≡ 0
  pub none_done : IfSome d.done (λ done. done ≡ [])

-- from this place on each room is a door that was just bound, with its share
abbrev pub AreBound : {S R : Type 0} → (R → DoorSeen S) → ℕ → ℕ → ℕ → List R → Type 0
AreBound seen quota doors i [] = Unit {0}
AreBound seen quota doors i (room ∷ rooms) =
    IsBound (share quota doors i) (seen room) × AreBound seen quota doors (i + 1) rooms

-- what binding changes where it gives this answer
abbrev pub Binds : {R T : Type 0} → Binding → Result T BindFault → NetSeen R → NetSeen R → Type 0
Binds binding (Ok rooms) n n' = n' ≡ record n { bound = Some binding }
Binds binding (Err Failed) n n' = Rose n.faults n'.faults × (n' ≡ record n { bound = Some binding; faults = n'.faults })
Binds binding (Err NoMemory) n n' = n' ≡ n

-- a count of faults and those of doors together, as far as u64 goes
abbrev pub with_faults : {S R : Type 0} → (R → DoorSeen S) → ℕ → List R → ℕ
with_faults seen faults [] = faults
with_faults seen faults (room ∷ rooms) = with_faults seen (min (faults + (seen room).faults) (2 ^ 64 - 1)) rooms
