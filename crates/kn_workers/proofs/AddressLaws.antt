-- Why serving an address ends.
use Rattle.std.proofs.Common.{◌≡◌, ℕ, ◌+◌, ◌<◌, ◌≤◌, Bool, true, false, List, [], ◌∷◌, length, map, refl, sym, ap, ◌∙◌}
use Rattle.std.proofs.Common.{subst, arith, Some}
use Rattle.std.specs.Prelude.{min, sum_by, ◌||◌, ◌^◌, ◌-◌}
use Rattle.std.specs.List.{list_any}
use Rattle.std.proofs.lemmas.List.Sums.{sum_by-cons}
use Rattle.kn_outside.specs.Seen.{LinkSeen}
use Rattle.kn_outside.specs.Faults.{Rose}
use Rattle.kn_history.specs.declared.update.Update.{Update}
use Rattle.kn_daemon.specs.Daemon.{DaemonConfig}
use Rattle.kn_registry.specs.Passes.{PassSeen}
use Rattle.kn_workers.specs.declared.address.AddressEnding.TheVariants.{DoorFailed, Served}
use Rattle.kn_workers.specs.declared.binding.Binding.{Binding}
use Rattle.kn_workers.specs.declared.worker.ServeEnd.{ServeEnd}
use Rattle.kn_workers.specs.Addresses.{AreServed, ServesOver}
use Rattle.kn_workers.specs.Connections.{ServedSeen}
use Rattle.kn_workers.specs.Doors.{DoorSeen, HasGiven}
use Rattle.kn_workers.specs.Nets.{NetSeen, AreBound, with_faults}
use Rattle.kn_workers.specs.Workers.{Work, EachWorked, AllServed, all_quotas, gave_less}
use Rattle.kn_workers.proofs.ShareLaws.{shares_add_up}

module _ {C R : Type 0} (door : R → DoorSeen (ServedSeen C)) where
  -- a count that is as large as it can be stays so
  faults_stay : (faults : ℕ) (rooms : List R) → min faults (2 ^ 64 - 1) ≤ with_faults door faults rooms
  faults_stay faults [] = omega arith
  faults_stay faults (room ∷ rooms) =
      let rest = faults_stay (min (faults + (door room).faults) (2 ^ 64 - 1)) rooms in
      omega (arith, rest)

  abbrev less : Work C R → Bool
  less work = gave_less door work.after

  abbrev connections_of : Work C R → ℕ
  connections_of work = length work.connections

  abbrev before_of : List (Work C R) → List R
  before_of works = map (λ work. work.before) works

  abbrev after_of : List (Work C R) → List R
  after_of works = map (λ work. work.after) works

  -- the count with the faults of one more door
  abbrev with_door : ℕ → Work C R → ℕ
  with_door faults work = min (faults + (door work.after).faults) (2 ^ 64 - 1)

  module _ (link : C → LinkSeen) (g : DaemonConfig) (start : ℕ) (history : List Update) where
    -- a door that gave less than its quota raises the count
    faults_rise : (caller faults : ℕ) (works : List (Work C R)) → EachWorked door link g start history caller works
        → list_any less works ≡ true → min (faults + 1) (2 ^ 64 - 1) ≤ with_faults door faults (after_of works)
    faults_rise caller faults [] each some = absurd (cc some)
    faults_rise caller faults (work ∷ works) each some =
        by (less work) refl (λ later. faults_rise (caller + 1) (with_door faults work) works each.1 later)
      where
        by : (failed : Bool) → less work ≡ failed
            → (list_any less works ≡ true
            → min (with_door faults work + 1) (2 ^ 64 - 1) ≤ with_faults door (with_door faults work) (after_of works))
            → min (faults + 1) (2 ^ 64 - 1) ≤ with_faults door faults (after_of (work ∷ works))
        by true e again =
            let given : HasGiven true (door work.before) (door work.after) =
            subst (λ (b : Bool). HasGiven b (door work.before) (door work.after)) e each.0.failed in
            let rose : min ((door work.before).faults + 1) (2 ^ 64 - 1) ≤ (door work.after).faults = given.1 in
            let rest = faults_stay (with_door faults work) (after_of works) in
            omega (arith, rose, rest)
        by false e again =
            let later : list_any less works ≡ true = subst (λ (b : Bool). b || list_any less works ≡ true) e some in
            let rest = again later in
            omega (arith, rest)

    -- where no door gave less than its quota, as many connections were served as all quotas together
    all_given : (caller quota doors i : ℕ) (works : List (Work C R)) → EachWorked door link g start history caller works
        → list_any less works ≡ false → AreBound door quota doors i (before_of works)
        → sum_by connections_of works ≡ all_quotas door (before_of works)
    all_given caller quota doors i [] each none bound = refl
    all_given caller quota doors i (work ∷ works) each none bound =
        by (less work) refl (λ later. all_given (caller + 1) quota doors (i + 1) works each.1 later bound.1)
      where
        by : (failed : Bool) → less work ≡ failed
            → (list_any less works ≡ false → sum_by connections_of works ≡ all_quotas door (before_of works))
            → sum_by connections_of (work ∷ works) ≡ all_quotas door (before_of (work ∷ works))
        by true e again =
            absurd (cc (subst (λ (b : Bool). b || list_any less works ≡ false) e none))
        by false e again =
            let later : list_any less works ≡ false = subst (λ (b : Bool). b || list_any less works ≡ false) e none in
            let given : HasGiven false (door work.before) (door work.after) =
            subst (λ (b : Bool). HasGiven b (door work.before) (door work.after)) e each.0.failed in
            let all : (door work.after).given ≡ (door work.after).quota = given.0 in
            let rest = again later in
            let nothing = bound.0.none_given in
            let more = each.0.given in
            let same = each.0.quota in
            let sum = sum_by-cons connections_of work works in
            omega (arith, all, rest, nothing, more, same, sum)

  module _ (link : C → LinkSeen) (g : DaemonConfig) (v w : PassSeen) (doors doors' : List R) (end : ServeEnd)
      (all : AllServed door link g v w doors doors' end) where
    failed_raises : (faults : ℕ) → end.failed ≡ true → Rose faults (with_faults door faults doors')
    failed_raises faults failed =
        subst (λ (l : List R). Rose faults (with_faults door faults l)) all.after
        (faults_rise link g (length v.seen) w.seen (v.splits + 1) faults all.works all.each (sym all.failed ∙ failed))

    all_finished : (quota count : ℕ) → 0 < count → length doors ≡ count → AreBound door quota count 0 doors
        → end.failed ≡ false → end.finished ≡ quota
    all_finished quota count some many bound failed =
        let before : AreBound door quota count 0 (before_of all.works) =
        subst (AreBound door quota count 0) (sym all.before) bound in
        all.finished
        ∙ all_given link g (length v.seen) w.seen (v.splits + 1) quota count 0 all.works all.each
        (sym all.failed ∙ failed) before
        ∙ ap (λ (l : List R). all_quotas door l) all.before ∙ shares_add_up door quota count doors some many bound

  -- what was bound and given back
  module _ (n m n' : NetSeen R) (binding : Binding) (doors : List R) (binds : m ≡ record n { bound = Some binding })
      (unbinds : n' ≡ record m { rooms = doors; faults = with_faults door m.faults doors }) where
    rooms_are : n'.rooms ≡ doors
    rooms_are = ap (λ (x : NetSeen R). x.rooms) unbinds

    behind : n' ≡ record n { bound = Some binding; rooms = doors; faults = with_faults door n.faults doors }
    behind = unbinds
        ∙ ap (λ (x : NetSeen R). record x { rooms = doors; faults = with_faults door x.faults doors }) binds

    net_is : n' ≡ record n { bound = Some binding; rooms = n'.rooms; faults = with_faults door n.faults n'.rooms }
    net_is = behind
        ∙ ap (λ (l : List R). record n { bound = Some binding; rooms = l; faults = with_faults door n.faults l })
        (sym rooms_are)

    faults_are : n'.faults ≡ with_faults door n.faults doors
    faults_are = ap (λ (x : NetSeen R). x.faults) behind

    module _ (link : C → LinkSeen) (g : DaemonConfig) (before : List R) (v w : PassSeen) (end : ServeEnd)
        (root : v.number ≡ 0) (unsplit : v.splits ≡ 0) (bound : AreBound door binding.quota binding.doors 0 before)
        (count : length before ≡ binding.doors) (all : AllServed door link g v w before doors end) where
      are_served : AreServed door link g v.seen n n' binding end w.seen
      are_served = record {
        doors = before;
        back = record { bound = bound; count = count; net = net_is };
        before = v;
        after = w;
        past_seen = refl;
        root = root;
        unsplit = unsplit;
        history_seen = refl;
        served = subst (λ (l : List R). AllServed door link g v w before l end) (sym rooms_are) all;
      }

      ended_so : (failed : Bool) → end.failed ≡ failed
          → AreServed door link g v.seen n n' binding (record { finished = end.finished; failed = failed }) w.seen
      ended_so failed e =
          subst (λ (b : Bool).
          AreServed door link g v.seen n n' binding (record { finished = end.finished; failed = b }) w.seen) e
          are_served

      pub served_less : end.failed ≡ true → ServesOver door link g v.seen n n' binding DoorFailed
      served_less failed = (
        end.finished,
        w.seen,
        ended_so true failed,
        subst (λ (k : ℕ). Rose n.faults k) (sym faults_are)
            (failed_raises link g v w before doors end all n.faults failed),
      )

      pub served_whole : end.failed ≡ false → 0 < binding.doors → (version : ℕ) → version ≡ length w.seen
          → ServesOver door link g v.seen n n' binding (Served end.finished version)
      served_whole failed some version last = (
        w.seen,
        ended_so false failed,
        all_finished link g v w before doors end all binding.quota binding.doors some count bound failed,
        last,
      )
