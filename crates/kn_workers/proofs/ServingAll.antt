-- What all workers have done, seen in the root's history.
use Rattle.std.proofs.Common.{◌≡◌, ℕ, zero, suc, ◌+◌, ◌<◌, ◌≤◌, Bool, true, false, List, [], ◌∷◌, ◌++◌, length, refl}
use Rattle.std.proofs.Common.{sym, ap, ◌∙◌, append_assoc, append-nil, length-append, arith, subst}
use Rattle.std.specs.Prelude.{take, drop, map, All, slice_index_or, nat_lt, sum_by, ◌||◌}
use Rattle.std.specs.List.{AllByRecursion, AllZip, list_any}
use Rattle.std.proofs.lemmas.Bool.{lt-ltb, ltb-true}
use Rattle.std.proofs.lemmas.List.Sums.{sum_by-cons}
use Rattle.std.proofs.Math.Seq.{take-append_seam, drop-append_seam}
use mathlib.Core.List.{IsPrefix}
use Rattle.atomic_table.specs.Seated.{TableId}
use Rattle.kn_base.specs.declared.limits.TheConstants.{CONNECTIONS}
use Rattle.kn_outside.specs.Seen.{LinkSeen}
use Rattle.kn_history.specs.declared.update.Update.{Update}
use Rattle.kn_history.specs.History.{is_valid_history, own_updates}
use Rattle.kn_turn.specs.declared.view.EndedPass.{EndedPass}
use Rattle.kn_turn.specs.Passes.{split_of, after_split, after_join}
use Rattle.kn_daemon.specs.Daemon.{DaemonConfig}
use Rattle.kn_daemon.specs.Laws.{ServedLonger}
use Rattle.kn_registry.specs.Passes.{PassSeen, IsReady, IsSoundPass}
use Rattle.kn_registry.proofs.PassMoves.{named_more}
use Rattle.kn_workers.specs.Connections.{ServedSeen, IsConnection, own_in}
use Rattle.kn_workers.specs.Doors.{DoorSeen, WorksAt, HasGiven}
use Rattle.kn_workers.specs.declared.post.Post.{Post}
use Rattle.kn_workers.specs.declared.worker.ServeEnd.{ServeEnd}
use Rattle.kn_workers.specs.Workers.{splits_from, after_joins, Work, gave_less, all_quotas, HasWorked, EachWorked}
use Rattle.kn_workers.specs.Workers.{AllServed}
use Rattle.kn_workers.specs.Posts.{IsSplit, posts_of, passes_of, doors_of, all_finished, some_failed, AllSeenIn}
use Rattle.kn_workers.specs.Posts.{WorksAtPost}
use Rattle.kn_workers.proofs.ConnectionLaws.{connection_longer}
use Rattle.kn_workers.proofs.WorkLaws.{own-grows}
use Rattle.kn_workers.proofs.HiringLaws.{split_ready, posts_length, splits_length}

false_of : (b : Bool) → (b ≡ true → ⊥) → b ≡ false
false_of true never = absurd (never refl)
false_of false never = refl

not-less : (a : ℕ) → nat_lt a a ≡ false
not-less a = false_of (nat_lt a a) (λ e. let less = ltb-true a a e in absurd (omega (arith, less)))

abbrev kept_of : PassSeen → EndedPass Update
kept_of pass = record { number = pass.number; mine = pass.mine; stops = pass.stops }

-- what joining leaves of a root, and what it keeps
record IsJoined (root new : PassSeen) (passes : List PassSeen) : Type 0 where
  number : new.number ≡ root.number
  mine : new.mine ≡ root.mine
  stops : new.stops ≡ root.stops
  splits : new.splits ≡ root.splits
  ended : new.ended ≡ root.ended ++ map kept_of passes

is_joined : (root : PassSeen) (passes : List PassSeen) → AllByRecursion (λ p. p.ended ≡ []) passes →
    IsJoined root (after_joins root passes) passes
is_joined root [] none =
    record { number = refl; mine = refl; stops = refl; splits = refl; ended = sym (append-nil root.ended) }
is_joined root (p ∷ passes) none =
    let rest = is_joined (after_join root p) passes none.1 in
    record {
      number = rest.number;
      mine = rest.mine;
      stops = rest.stops;
      splits = rest.splits;
      ended =
          rest.ended
          ∙ ap (λ (l : List (EndedPass Update)). (root.ended ++ (l ++ kept_of p ∷ [])) ++ map kept_of passes) none.0
          ∙ append_assoc root.ended (kept_of p ∷ []) (map kept_of passes);
    }

-- a root that made nothing has no update of its own behind what it had seen
none_own : (root new : PassSeen) → IsSoundPass root → IsSoundPass new → new.number ≡ root.number →
    new.mine ≡ root.mine → IsPrefix root.seen new.seen →
    own_updates root.number (drop (length root.seen) new.seen) ≡ []
none_own root new was is number mine front =
    let more = front.0 in
    let behind : drop (length root.seen) new.seen ≡ more = ap (drop (length root.seen)) (sym front.1)
    ∙ drop-append_seam root.seen more in
    let all : own_updates root.number new.seen ≡ root.mine = ap (λ (n : ℕ). own_updates n new.seen) (sym number)
    ∙ is.own ∙ mine in
    ap (own_updates root.number) behind
    ∙ named_more root.number root.seen more root.mine [] was.own
    (ap (own_updates root.number) front.1 ∙ all ∙ sym (append-nil root.mine))

module _ {C D : Type 0} (registry : TableId) (door : D → DoorSeen (ServedSeen C)) (seen : C → LinkSeen)
    (g : DaemonConfig) where
  less_is : (failed : Bool) (d : DoorSeen (ServedSeen C)) (d' : D) → HasGiven failed d (door d') →
      failed ≡ gave_less door d'
  less_is true d d' given = sym (lt-ltb (door d').given (door d').quota given.0)
  less_is false d d' given = sym (ap (λ (n : ℕ). nat_lt n (door d').quota) given.0 ∙ not-less (door d').quota)

  -- the work at a post, as it is seen in a longer history
  has_worked : (longer : ServedLonger) (root : PassSeen) (history : List Update) (d : D) (end : ServeEnd) (p : Post D)
      (k : WorksAtPost registry door seen g (record { door = d; pass = split_of root; end = end }) p) →
      IsPrefix p.pass.seen history → is_valid_history history ≡ true →
      HasWorked door seen g (length root.seen) history (root.splits + 1)
      (record { before = d; after = p.door; connections = k.works.connections; kept = kept_of p.pass })
  has_worked longer root history d end p k front valid =
      let w = k.works in
      let valid_more : is_valid_history (p.pass.seen ++ front.0) ≡ true = ap is_valid_history front.1 ∙ valid in
      let within : length p.pass.seen + length front.0 ≡ length history =
      sym (length-append p.pass.seen front.0) ∙ ap (λ (l : List Update). length l) front.1 in
      record {
        each = λ i x lt.
            subst (λ (h : List Update). IsConnection seen g h (root.splits + 1) (slice_index_or w.connections i x))
            front.1
            (connection_longer longer seen g p.pass.seen front.0 (root.splits + 1) (slice_index_or w.connections i x)
            valid_more (w.each i x lt));
        end = length p.pass.seen;
        follow = w.follow;
        within = omega (arith, within);
        number = w.moves.number;
        stops = w.moves.stops;
        mine =
            w.moves.mine ∙ w.own_are
            ∙ sym
            (own-grows p.pass.seen front.0 (root.splits + 1) w.connections
            (λ i x lt. (w.each i x lt).served.places.within))
            ∙ ap (λ (h : List Update). own_in h (root.splits + 1) w.connections) front.1;
        given = w.given ∙ ap (λ (n : ℕ). (door d).given + n) w.counted;
        finished = w.finished ∙ ap (λ (n : ℕ). (door d).finished + n) w.counted;
        done = w.done;
        quota = w.quota;
        failed =
            subst (λ (b : Bool). HasGiven b (door d) (door p.door)) (less_is p.end.failed (door d) p.door k.failed)
            k.failed;
      }

  record Built (root : PassSeen) (history : List Update) (doors : List D) (posts : List (Post D)) : Type 0 where
    works : List (Work C D)
    before : map (λ work. work.before) works ≡ doors
    after : map (λ work. work.after) works ≡ doors_of posts
    each : EachWorked door seen g (length root.seen) history (root.splits + 1) works
    kept : map (λ work. work.kept) works ≡ map kept_of (passes_of posts)
    finished : all_finished posts ≡ sum_by (λ (work : Work C D). length work.connections) works
    failed : some_failed posts ≡ list_any (λ (work : Work C D). gave_less door work.after) works
    count : length works ≡ length doors
    ended : AllByRecursion (λ p. p.ended ≡ []) (passes_of posts)

  built : (longer : ServedLonger) (root : PassSeen) (history : List Update) (doors : List D) (posts : List (Post D)) →
      is_valid_history history ≡ true →
      AllZip (WorksAtPost registry door seen g) (posts_of doors (splits_from root (length doors))) posts →
      AllSeenIn history (passes_of posts) → Built root history doors posts
  built longer root history [] [] valid zip fronts = record {
    works = [];
    before = refl;
    after = refl;
    each = tt;
    kept = refl;
    finished = refl;
    failed = refl;
    count = refl;
    ended = tt;
  }
  built longer root history [] (p ∷ posts) valid zip fronts = absurd zip
  built longer root history (d ∷ doors) [] valid zip fronts = absurd zip
  built longer root history (d ∷ doors) (p ∷ posts) valid zip fronts =
      let rest = built longer (after_split root) history doors posts valid zip.1 fronts.1 in
      let k = zip.0 in
      let work : Work C D =
      record { before = d; after = p.door; connections = k.works.connections; kept = kept_of p.pass } in
      record {
        works = work ∷ rest.works;
        before = ap (λ (l : List D). d ∷ l) rest.before;
        after = ap (λ (l : List D). p.door ∷ l) rest.after;
        each =
            (has_worked longer root history d (record { finished = 0; failed = false }) p k fronts.0 valid, rest.each);
        kept = ap (λ (l : List (EndedPass Update)). kept_of p.pass ∷ l) rest.kept;
        finished = ap (λ (n : ℕ × ℕ). n.0 + n.1) (λ i. (k.works.counted i, rest.finished i))
            ∙ sym (sum_by-cons (λ (work : Work C D). length work.connections) work rest.works);
        failed =
            ap (λ (b : Bool × Bool). b.0 || b.1)
            (λ i. (less_is p.end.failed (door d) p.door k.failed i, rest.failed i));
        count = ap (λ (n : ℕ). suc n) rest.count;
        ended = (k.works.moves.ended, rest.ended);
      }

  -- the root after all posts were gathered
  pub all_worked : (longer : ServedLonger) (root hired new : PassSeen) (doors doors' : List D)
      (posts posts' : List (Post D)) (end : ServeEnd) →
      posts ≡ posts_of doors (splits_from root (length doors)) →
      hired ≡ record root { splits = root.splits + length doors } →
      AllZip (WorksAtPost registry door seen g) posts posts' → new ≡ after_joins hired (passes_of posts') →
      IsPrefix hired.seen new.seen × AllSeenIn new.seen (passes_of posts') →
      IsSoundPass root → IsSoundPass new → is_valid_history new.seen ≡ true → end.finished ≡ all_finished posts' →
      end.failed ≡ some_failed posts' → doors' ≡ doors_of posts' →
      AllServed door seen g root new doors doors' end
  all_worked longer root hired new doors doors' posts posts' end posts_are hired_is zip new_is fronts was_sound sound
      valid finished failed doors_are =
      let b =
      built longer root new.seen doors posts' valid
      (subst (λ (l : List (Post D)). AllZip (WorksAtPost registry door seen g) l posts') posts_are zip)
      fronts.1 in
      let j =
      subst (λ (w : PassSeen). IsJoined w new (passes_of posts')) hired_is
      (subst (λ (w : PassSeen). IsJoined hired w (passes_of posts')) (sym new_is)
      (is_joined hired (passes_of posts') b.ended)) in
      record {
        works = b.works;
        before = b.before;
        after = b.after ∙ sym doors_are;
        each = b.each;
        seen = subst (λ (w : PassSeen). IsPrefix w.seen new.seen) hired_is fronts.0;
        own =
            none_own root new was_sound sound j.number j.mine
            (subst (λ (w : PassSeen). IsPrefix w.seen new.seen) hired_is fronts.0);
        sound = sound;
        number = j.number;
        mine = j.mine;
        stops = j.stops;
        splits = j.splits ∙ ap (λ (n : ℕ). root.splits + n) (sym b.count);
        ended = j.ended ∙ ap (λ (l : List (EndedPass Update)). root.ended ++ l) (sym b.kept);
        finished = finished ∙ b.finished;
        failed = failed ∙ b.failed;
      }

  -- no more connections were finished than the doors' quotas
  served_few : (v w : PassSeen) (d d' : DoorSeen (ServedSeen C)) (count : ℕ) (failed : Bool) →
      WorksAt seen g v w d d' count → HasGiven failed d d' → count ≤ d.quota
  served_few v w d d' count true k given =
      let quota = k.quota in let more = k.given in let less = given.0 in omega (arith, quota, more, less)
  served_few v w d d' count false k given =
      let quota = k.quota in let more = k.given in let all = given.0 in omega (arith, quota, more, all)

  pub finished_few : (root : PassSeen) (doors : List D) (posts : List (Post D)) →
      AllZip (WorksAtPost registry door seen g) (posts_of doors (splits_from root (length doors))) posts →
      all_finished posts ≤ all_quotas door doors
  finished_few root [] [] zip = omega arith
  finished_few root [] (p ∷ posts) zip = absurd zip
  finished_few root (d ∷ doors) [] zip = absurd zip
  finished_few root (d ∷ doors) (p ∷ posts) zip =
      let few =
      served_few (split_of root) p.pass (door d) (door p.door) p.end.finished p.end.failed zip.0.works
      zip.0.failed in
      let rest = finished_few (after_split root) doors posts zip.1 in
      omega (arith, few, rest)

  pub worked_split : (root : PassSeen) (doors : List D) (posts : List (Post D)) →
      AllZip (WorksAtPost registry door seen g) (posts_of doors (splits_from root (length doors))) posts →
      AllByRecursion (IsSplit registry) (passes_of posts)
  worked_split root [] [] zip = tt
  worked_split root [] (p ∷ posts) zip = absurd zip
  worked_split root (d ∷ doors) [] zip = absurd zip
  worked_split root (d ∷ doors) (p ∷ posts) zip =
      let number : p.pass.number ≡ root.splits + 1 = zip.0.works.moves.number in
      ((zip.0.ready, λ none. absurd (omega (arith, number, none))), worked_split (after_split root) doors posts zip.1)

  pub worked_length : (root : PassSeen) (doors : List D) (posts : List (Post D)) →
      AllZip (WorksAtPost registry door seen g) (posts_of doors (splits_from root (length doors))) posts →
      length posts ≡ length doors
  worked_length root [] [] zip = refl
  worked_length root [] (p ∷ posts) zip = absurd zip
  worked_length root (d ∷ doors) [] zip = absurd zip
  worked_length root (d ∷ doors) (p ∷ posts) zip =
      ap (λ (n : ℕ). suc n) (worked_length (after_split root) doors posts zip.1)

  -- the posts are ready for their work
  hired_ready : (root : PassSeen) (doors : List D) (most : ℕ) → IsReady registry root → all_quotas door doors ≤ most →
      AllByRecursion (λ p. IsReady registry p.pass × ((door p.door).quota ≤ most))
      (posts_of doors (splits_from root (length doors)))
  hired_ready root [] most ready few = tt
  hired_ready root (d ∷ doors) most ready few = (
    ((split_ready registry root ready).0, omega (arith, few)),
    hired_ready (after_split root) doors most
        (record { own = ready.own; idle = ready.idle; valid = ready.valid }) (omega (arith, few)),
  )

  each-of : {X : Type 0} (P : X → Type 0) (xs : List X) → AllByRecursion P xs → All P xs
  each-of P [] all i x lt = absurd (omega (arith, lt))
  each-of P (y ∷ ys) all zero x lt = all.0
  each-of P (y ∷ ys) all (suc i) x lt = each-of P ys all.1 i x (omega (arith, lt))

  pub posts_ready : (root : PassSeen) (doors : List D) (posts : List (Post D)) →
      posts ≡ posts_of doors (splits_from root (length doors)) → IsReady registry root →
      all_quotas door doors ≤ CONNECTIONS →
      All (λ p. IsReady registry p.pass × ((door p.door).quota ≤ CONNECTIONS)) posts
  posts_ready root doors posts are ready few =
      subst (All (λ (p : Post D). IsReady registry p.pass × ((door p.door).quota ≤ CONNECTIONS))) (sym are)
      (each-of (λ (p : Post D). IsReady registry p.pass × ((door p.door).quota ≤ CONNECTIONS))
      (posts_of doors (splits_from root (length doors))) (hired_ready root doors CONNECTIONS ready few))

  -- the posts as they are handed on from the threads
  pub handed : (root : PassSeen) (doors : List D) (items old new : List (Post D)) (len : ℕ) → len ≡ length items →
      items ≡ posts_of doors (splits_from root (length doors)) → old ≡ items →
      AllZip (WorksAtPost registry door seen g) old new →
      AllByRecursion (IsSplit registry) (passes_of (take len (new ++ drop (length new) items)))
      × (all_finished (take len (new ++ drop (length new) items)) ≤ all_quotas door doors)
      × AllZip (WorksAtPost registry door seen g) (posts_of doors (splits_from root (length doors)))
      (take len (new ++ drop (length new) items))
      × (len ≡ length doors)
  handed root doors items old new len len_is items_are old_is zip =
      let R = WorksAtPost registry door seen g in
      let first = posts_of doors (splits_from root (length doors)) in
      let zipped : AllZip R first new = subst (λ (l : List (Post D)). AllZip R l new) (old_is ∙ items_are) zip in
      let long : length first ≡ length doors =
      posts_length doors (splits_from root (length doors)) (splits_length root (length doors)) in
      let count : len ≡ length doors = len_is ∙ ap (λ (l : List (Post D)). length l) items_are ∙ long in
      let same : len ≡ length new = count ∙ sym (worked_length root doors new zipped) in
      let whole : take len (new ++ drop (length new) items) ≡ new =
      ap (λ (n : ℕ). take n (new ++ drop (length new) items)) same
      ∙ take-append_seam new (drop (length new) items) in (
        subst (λ (l : List (Post D)). AllByRecursion (IsSplit registry) (passes_of l)) (sym whole)
            (worked_split root doors new zipped),
        subst (λ (l : List (Post D)). all_finished l ≤ all_quotas door doors) (sym whole)
            (finished_few root doors new zipped),
        subst (AllZip R first) (sym whole) zipped,
        count,
      )

-- what holds of two lists at each place holds of them side by side
pub zip_of : {X : Type 0} (R : X → X → Type 0) (xs ys : List X) → length ys ≡ length xs →
    ((i : ℕ) (d : X) → i < length xs → R (slice_index_or xs i d) (slice_index_or ys i d)) → AllZip R xs ys
zip_of R [] [] long each = tt
zip_of R [] (y ∷ ys) long each = absurd (omega (arith, long))
zip_of R (x ∷ xs) [] long each = absurd (omega (arith, long))
zip_of R (x ∷ xs) (y ∷ ys) long each =
    let rest : length ys ≡ length xs = omega (arith, long) in
    (each 0 x (omega arith), zip_of R xs ys rest (λ i d lt. each (suc i) d (omega (arith, lt))))
