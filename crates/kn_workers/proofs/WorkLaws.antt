-- What a worker has done at a door, step by step.
use Rattle.std.proofs.Common.{◌≡◌, ℕ, zero, suc, ◌+◌, ◌<◌, ◌≤◌, true, false, List, [], ◌∷◌, ◌++◌, length, refl, sym, ap}
use Rattle.std.proofs.Common.{◌∙◌, append_assoc, append-nil, length-append, arith, Option, Some, None, subst}
use Rattle.std.specs.Prelude.{All, slice_index_or, slice_range, take, drop, ◌-◌}
use Rattle.std.proofs.lemmas.List.{take-append-le}
use Rattle.std.proofs.Math.Seq.{drop-append_seam, take-length}
use Rattle.std.proofs.lemmas.Grind.{flat_map-append}
use Rattle.std.proofs.lemmas.List.Elements.{All-append}
use Rattle.kn_outside.specs.Seen.{LinkSeen}
use Rattle.kn_outside.specs.Faults.{Rose}
use Rattle.kn_history.specs.declared.update.Update.{Update}
use Rattle.kn_history.specs.History.{is_valid_history, own_updates}
use Rattle.kn_daemon.specs.Daemon.{DaemonConfig}
use Rattle.kn_daemon.specs.Laws.{ServedLonger}
use Rattle.kn_base.specs.declared.limits.TheConstants.{CONNECTIONS}
use Rattle.kn_registry.specs.Passes.{PassSeen, Moves}
use Rattle.kn_registry.proofs.PassMoves.{moves-nothing, moves-more}
use Rattle.kn_workers.specs.Connections.{ServedSeen, IsConnection, FollowEachOther, stops_of, own_in}
use Rattle.kn_workers.specs.Doors.{DoorSeen, with_more, after_finish, WorksAt, HasGiven}
use Rattle.kn_workers.proofs.ConnectionLaws.{connection_longer}

with-nothing : {S : Type 0} (done : Option (List S)) → done ≡ with_more [] done
with-nothing None = refl
with-nothing (Some l) = ap Some (sym (append-nil l))

with-more-twice : {S : Type 0} (a b : List S) (done : Option (List S)) →
    with_more b (with_more a done) ≡ with_more (a ++ b) done
with-more-twice a b None = refl
with-more-twice a b (Some l) = ap Some (append_assoc l a b)

all-nothing : {X : Type 0} (P : X → Type 0) → All P []
all-nothing P k d lt = absurd (omega (arith, lt))

all-one : {X : Type 0} (P : X → Type 0) (x : X) → P x → All P (x ∷ [])
all-one P x p zero d lt = p
all-one P x p (suc k) d lt = absurd (omega (arith, lt))

rose-later : (a b c : ℕ) → a ≤ b → Rose b c → Rose a c
rose-later a b c le rose = omega (arith, le, rose)

-- what lies between two lengths, also where the list grows
range-grows : (h more : List Update) (i j : ℕ) → j ≤ length h → slice_range (h ++ more) i j ≡ slice_range h i j
range-grows [] more i j le =
    let none : j - i ≡ 0 = omega (arith, le) in
    let empty : List Update = [] in
    ap (λ (n : ℕ). take n (drop i more)) none ∙ sym (ap (λ (n : ℕ). take n (drop i empty)) none)
range-grows (x ∷ h) more zero j le = take-append-le (j - 0) (x ∷ h) more (omega (arith, le))
range-grows (x ∷ h) more (suc i) zero le =
    let none : 0 - suc i ≡ 0 = omega arith in
    ap (λ (n : ℕ). take n (drop i (h ++ more))) none ∙ sym (ap (λ (n : ℕ). take n (drop i h)) none)
range-grows (x ∷ h) more (suc i) (suc j) le =
    let less : suc j - suc i ≡ j - i = omega arith in
    ap (λ (n : ℕ). take n (drop i (h ++ more))) less ∙ range-grows h more i j (omega (arith, le))
    ∙ ap (λ (n : ℕ). take n (drop i h)) (sym less)

range-added : (h more : List Update) → slice_range (h ++ more) (length h) (length (h ++ more)) ≡ more
range-added h more =
    let added : length (h ++ more) - length h ≡ length more = omega (arith, length-append h more) in
    ap (λ (n : ℕ). take n (drop (length h) (h ++ more))) added ∙ ap (take (length more)) (drop-append_seam h more)
    ∙ take-length more

-- no call of a door failed meanwhile
pub record IsCalm {S : Type 0} (d d' : DoorSeen S) : Type 0 where
  pub same : d'.faults ≡ d.faults

module _ {C : Type 0} where
  pub own-grows : (h more : List Update) (caller : ℕ) (connections : List (ServedSeen C)) →
      All (λ s. s.to ≤ length h) connections → own_in (h ++ more) caller connections ≡ own_in h caller connections
  own-grows h more caller [] within = refl
  own-grows h more caller (s ∷ connections) within =
      ap (λ (x : List Update × List Update). x.0 ++ x.1)
      (λ i. (
        ap (own_updates caller) (range-grows h more s.from s.to (within 0 s (omega arith))) i,
        own-grows h more caller connections (λ k x lt. within (suc k) x (omega (arith, lt))) i,
      ))

  -- the caller's own updates, with those of one connection more
  own-one-more : (h more : List Update) (caller : ℕ) (connections : List (ServedSeen C)) (s : ServedSeen C)
      (own : List Update) → All (λ s. s.to ≤ length h) connections → own ≡ own_in h caller connections →
      s.from ≡ length h → s.to ≡ length (h ++ more) →
      own ++ own_updates caller more ≡ own_in (h ++ more) caller (connections ++ s ∷ [])
  own-one-more h more caller connections s own within own_are from to =
      let last : slice_range (h ++ more) s.from s.to ≡ more =
      ap (λ (x : ℕ × ℕ). slice_range (h ++ more) x.0 x.1) (λ i. (from i, to i)) ∙ range-added h more in
      ap (λ (x : List Update). x ++ own_updates caller more)
      (own_are ∙ sym (own-grows h more caller connections within))
      ∙ ap (λ (x : List Update). own_in (h ++ more) caller connections ++ own_updates caller x) (sym last)
      ∙ ap (λ (x : List Update). own_in (h ++ more) caller connections ++ x)
      (sym (append-nil (own_updates caller (slice_range (h ++ more) s.from s.to))))
      ∙ sym
      (flat_map-append (λ (x : ServedSeen C). own_updates caller (slice_range (h ++ more) x.from x.to)) connections
      (s ∷ []))

  follow-one-more : (start middle end : ℕ) (connections : List (ServedSeen C)) (s : ServedSeen C) →
      FollowEachOther start connections middle → s.from ≡ middle → s.to ≡ end →
      FollowEachOther start (connections ++ s ∷ []) end
  follow-one-more start middle end [] s follow from to = (from ∙ sym follow, to)
  follow-one-more start middle end (c ∷ connections) s follow from to =
      (follow.0, follow-one-more c.to middle end connections s follow.1 from to)

  stops-one-more : (connections : List (ServedSeen C)) (s : ServedSeen C) →
      stops_of connections ++ s.stops ≡ stops_of (connections ++ s ∷ [])
  stops-one-more connections s =
      ap (λ (l : List ℕ). stops_of connections ++ l) (sym (append-nil s.stops))
      ∙ sym (flat_map-append (λ (x : ServedSeen C). x.stops) connections (s ∷ []))

  pub gave_all : (d d' after : DoorSeen (ServedSeen C)) → d'.given ≡ d'.quota → after ≡ d' → IsCalm d d' →
      HasGiven false d after
  gave_all d d' after all same calm = (
    subst (λ (x : DoorSeen (ServedSeen C)). x.given ≡ x.quota) (sym same) all,
    ap (λ (x : DoorSeen (ServedSeen C)). x.faults) same ∙ calm.same,
  )

  -- a connection that is given and finished leaves the count of faults
  pub works_calmly : (d d' given after : DoorSeen (ServedSeen C)) (s : ServedSeen C) → IsCalm d d' →
      given ≡ record d' { given = d'.given + 1 } → after ≡ after_finish s given → IsCalm d after
  works_calmly d d' given after s calm given_is after_is =
      record {
        same =
            ap (λ (x : DoorSeen (ServedSeen C)). x.faults) after_is
            ∙ ap (λ (x : DoorSeen (ServedSeen C)). x.faults) given_is ∙ calm.same;
      }

  pub calm_nothing : (d : DoorSeen (ServedSeen C)) → IsCalm d d
  calm_nothing d = record { same = refl }

  module _ (seen : C → LinkSeen) (g : DaemonConfig) where
    pub works_nothing : (v : PassSeen) (d : DoorSeen (ServedSeen C)) → WorksAt seen g v v d d 0
    works_nothing v d = record {
      connections = [];
      more = [];
      own = [];
      moves = moves-nothing v;
      each = all-nothing (IsConnection seen g v.seen v.number);
      follow = refl;
      own_are = refl;
      counted = refl;
      still = λ none. refl;
      given = omega arith;
      finished = omega arith;
      done = with-nothing d.done;
      quota = refl;
      later = omega arith;
    }

    -- one more connection was served and finished
    pub works_more : (longer : ServedLonger) (u v w : PassSeen) (d d' given after : DoorSeen (ServedSeen C)) (count : ℕ)
        (s : ServedSeen C) →
        WorksAt seen g u v d d' count → given ≡ record d' { given = d'.given + 1 } → after ≡ after_finish s given →
        IsConnection seen g w.seen v.number s → s.from ≡ length v.seen → s.to ≡ length w.seen →
        ((more : List Update) × (own : List Update) × Moves v w more own s.stops) → is_valid_history w.seen ≡ true →
        WorksAt seen g u w d after (count + 1)
    works_more longer u v w d d' given after count s k given_is after_is c from to moves valid =
        let seen_more : w.seen ≡ v.seen ++ moves.0 = moves.2.seen in
        let valid_more : is_valid_history (v.seen ++ moves.0) ≡ true = ap is_valid_history (sym seen_more) ∙ valid in
        let quota_is : after.quota ≡ d'.quota = ap (λ (x : DoorSeen (ServedSeen C)). x.quota) after_is
        ∙ ap (λ (x : DoorSeen (ServedSeen C)). x.quota) given_is in
        let given_after : after.given ≡ d'.given + 1 = ap (λ (x : DoorSeen (ServedSeen C)). x.given) after_is
        ∙ ap (λ (x : DoorSeen (ServedSeen C)). x.given) given_is in
        let finished_after : after.finished ≡ d'.finished + 1 =
        ap (λ (x : DoorSeen (ServedSeen C)). x.finished) after_is
        ∙ ap (λ (x : DoorSeen (ServedSeen C)). x.finished + 1) given_is in
        let done_after : after.done ≡ with_more (s ∷ []) d'.done = ap (λ (x : DoorSeen (ServedSeen C)). x.done) after_is
        ∙ ap (λ (x : DoorSeen (ServedSeen C)). with_more (s ∷ []) x.done) given_is in
        let faults_after : after.faults ≡ d'.faults = ap (λ (x : DoorSeen (ServedSeen C)). x.faults) after_is
        ∙ ap (λ (x : DoorSeen (ServedSeen C)). x.faults) given_is in
        let before = k.given in
        let before' = k.finished in
        let counted = k.counted in
        let later = k.later in
        record {
          connections = k.connections ++ s ∷ [];
          more = k.more ++ moves.0;
          own = k.own ++ moves.1;
          moves =
              subst (λ (l : List ℕ). Moves u w (k.more ++ moves.0) (k.own ++ moves.1) l)
              (stops-one-more k.connections s)
              (moves-more u v w k.more moves.0 k.own moves.1 (stops_of k.connections) s.stops k.moves moves.2);
          each = All-append (IsConnection seen g w.seen u.number) k.connections (s ∷ [])
              (λ i x lt. subst (λ (h : List Update). IsConnection seen g h u.number (slice_index_or k.connections i x))
              (sym seen_more)
              (connection_longer longer seen g v.seen moves.0 u.number (slice_index_or k.connections i x) valid_more
              (k.each i x lt)))
              (all-one (IsConnection seen g w.seen u.number) s
              (subst (λ (n : ℕ). IsConnection seen g w.seen n s) k.moves.number c));
          follow = follow-one-more (length u.seen) (length v.seen) (length w.seen) k.connections s k.follow from to;
          own_are =
              subst (λ (h : List Update). k.own ++ moves.1 ≡ own_in h u.number (k.connections ++ s ∷ []))
              (sym seen_more)
              (ap (λ (x : List Update). k.own ++ x)
              (sym (subst (λ (n : ℕ). own_updates n moves.0 ≡ moves.1) k.moves.number moves.2.named))
              ∙ own-one-more v.seen moves.0 u.number k.connections s k.own
              (λ i x lt. (k.each i x lt).served.places.within) k.own_are from
              (to ∙ ap (λ (h : List Update). length h) seen_more));
          counted = ap (λ (n : ℕ). n + 1) counted ∙ sym (length-append k.connections (s ∷ []));
          still = λ none. absurd (omega (arith, none));
          given = omega (arith, given_after, before);
          finished = omega (arith, finished_after, before');
          done = done_after ∙ ap (with_more (s ∷ [])) k.done ∙ with-more-twice k.connections (s ∷ []) d.done;
          quota = quota_is ∙ k.quota;
          later = omega (arith, faults_after, later);
        }

    -- the door failed, and gave nothing
    pub works_until : (u v : PassSeen) (d d' after : DoorSeen (ServedSeen C)) (count : ℕ) →
        WorksAt seen g u v d d' count → after ≡ record d' { faults = after.faults } → d'.faults ≤ after.faults →
        WorksAt seen g u v d after count
    works_until u v d d' after count k after_is later =
        let first = k.later in
        record {
          connections = k.connections;
          more = k.more;
          own = k.own;
          moves = k.moves;
          each = k.each;
          follow = k.follow;
          own_are = k.own_are;
          counted = k.counted;
          still = k.still;
          given = ap (λ (x : DoorSeen (ServedSeen C)). x.given) after_is ∙ k.given;
          finished = ap (λ (x : DoorSeen (ServedSeen C)). x.finished) after_is ∙ k.finished;
          done = ap (λ (x : DoorSeen (ServedSeen C)). x.done) after_is ∙ k.done;
          quota = ap (λ (x : DoorSeen (ServedSeen C)). x.quota) after_is ∙ k.quota;
          later = omega (arith, first, later);
        }

    pub gave_less : (u v : PassSeen) (d d' after : DoorSeen (ServedSeen C)) (count : ℕ) →
        WorksAt seen g u v d d' count → after ≡ record d' { faults = after.faults } → d'.given < d'.quota →
        Rose d'.faults after.faults → HasGiven true d after
    gave_less u v d d' after count k after_is less rose = (
      subst (λ (n : ℕ × ℕ). n.0 < n.1)
          (sym (ap (λ (x : DoorSeen (ServedSeen C)). (x.given, x.quota)) after_is)) less,
      rose-later d.faults d'.faults after.faults k.later rose,
    )

    -- the door has no more to give
    pub works_closed : (u v : PassSeen) (d d' after : DoorSeen (ServedSeen C)) (count : ℕ) →
        WorksAt seen g u v d d' count → after ≡ d' → WorksAt seen g u v d after count
    works_closed u v d d' after count k same =
        subst (λ (x : DoorSeen (ServedSeen C)). WorksAt seen g u v d x count) (sym same) k

    pub count_fits : (u v : PassSeen) (d d' : DoorSeen (ServedSeen C)) (count : ℕ) → WorksAt seen g u v d d' count →
        d'.given < d'.quota → d.quota ≤ CONNECTIONS → count < CONNECTIONS
    count_fits u v d d' count k less few =
        let given = k.given in
        let quota = k.quota in
        omega (arith, given, quota, less, few)
