-- A seat that is split or joined keeps the turn's invariant, and so do its first state and the look after a join.
use Rattle.std.proofs.Common.{◌≡◌, ◌≢◌, ℕ, zero, suc, ◌+◌, ◌<◌, ◌≤◌, ◌==◌, List, [], ◌∷◌, ◌++◌, map, set, slice_index}
use Rattle.std.proofs.Common.{slice_set, Bool, true, false, refl, sym, ap, ◌∙◌, subst, inl, ⊎_elim, arith, true≢false}
use Rattle.std.specs.Prelude.{Option, Some}
use mathlib.Core.Option.{some, none, some-injective, some-ne-none}
use mathlib.Core.Logic.{dite}
use native.Mathlib.Decide.{ℕ_discrete}
use lib.ListN.{get_elem?}
use Rattle.atomic_table.specs.Table.{step, keeps, Allows, Splits, Joins, opening}
use Rattle.atomic_table.proofs.Lists.{at_set, at_snoc, set_else}
use Rattle.kn_turn.specs.declared.view.EndedPass.{EndedPass}
use Rattle.kn_turn.specs.declared.view.View.{View}
use Rattle.kn_turn.specs.declared.view.Stage.{Stage}
use Rattle.kn_turn.specs.declared.view.Stage.TheVariants.{Idle}
use Rattle.kn_turn.specs.Counts.{one_if}
use Rattle.kn_turn.specs.Entries.{entries_of, longer}
use Rattle.kn_turn.specs.Views.{ticket_at, value_at, ticket_if, ticket_count, value_count, count_of_ticket, live_count}
use Rattle.kn_turn.specs.Views.{number_if, number_count, known_entries, HasEnded, first_view, child_view, parent_view}
use Rattle.kn_turn.specs.Views.{note_view, spent_view, ended_of, after_absorb, after_inform, after_settle}
use Rattle.kn_turn.specs.Invariant.{Fits, IsHome, IsKept, settles}
use Rattle.kn_turn.proofs.Sums.{one_if-le, one_if-same, one_if-other, total-append, total-set, total-snoc, total-two}
use Rattle.kn_turn.proofs.Prefixes.{longer_between, longer-nil}
use Rattle.kn_turn.proofs.PassEntries.{entries_of-above, entries_of-between, has_ended-between, has_ended-append}
use Rattle.kn_turn.proofs.PassEntries.{all_up_to-prefix, all_up_to-later}
use Rattle.kn_turn.proofs.StepLemmas.{St, M, one_changes, apart_still, home_still, sound_of, named_live}

module _ {S E : Type 0} (by : E → ℕ) (log : S → List E) where
  -- the view of the first seat, over a value with no entries
  pub starts : (items : List (Option S)) (x : S) → items ≡ Some x ∷ [] → log x ≡ []
      → IsKept by log (opening (0 ∷ 0 ∷ 0 ∷ []) items first_view)
  starts items x items_are empty = record {
    history = [];
    drawn = 0;
    passed = 0;
    limit = 0;
    words = refl;
    tickets = omega arith;
    low = omega arith;
    few = omega arith;
    numbers = λ n. let one = one_if-le (0 == n) in omega arith;
    beyond = λ n above. let zero_is = one_if-other 0 n (λ e. absurd (omega arith)) in omega arith;
    inside = tt;
    home = inl (x, ap (map some) items_are, empty, omega arith);
    apart = λ t. omega arith;
    each = first;
  } where
    fits : Fits by [] 0 0 0 first_view
    fits = record {
      seen = ([], refl);
      old = ([], refl);
      queue = omega arith;
      mine = λ _. (refl, refl);
      ended =
          λ _. (tt, tt);
      splits = λ _ _. refl;
      stage = tt;
    }

    first : (j : ℕ) (v : View E) → get_elem? (first_view ∷ []) j ≡ some v → Fits by [] 0 0 0 v
    first zero v e = subst (Fits by [] 0 0 0) (some-injective first_view v e) fits
    first (suc j) v e = absurd (some-ne-none v (sym e))

  refit_limit : (history : List E) (passed drawn limit limit' : ℕ) (u : View E) → Fits by history passed drawn limit u
      → (u.live ≡ true → u.number ≡ 0 → u.splits ≡ limit') → Fits by history passed drawn limit' u
  refit_limit history passed drawn limit limit' u f splits =
      record {
        seen = f.seen;
        old = f.old;
        queue = f.queue;
        mine = f.mine;
        ended = f.ended;
        splits = splits;
        stage =
            f.stage;
      }

  -- a pass is split from the root
  pub splits_off : (id : ℕ) (v : View E) → v.stage ≡ Idle → v.live ≡ true → v.number ≡ 0 → v.splits < 63
      → Splits (IsKept by log) id v (parent_view v) (child_view v)
  splits_off id v idle live root room s k at =
      let f = k.each id v at in
      let w : View E = parent_view v in
      let c : View E = child_view v in
      let after : List (View E) = set s.views id w in
      let limit_is : v.splits ≡ k.limit = f.splits live root in
      let low = k.low in
      let sum = λ (g : View E → ℕ). total-snoc g after c in
      let change = λ (g : View E → ℕ). total-set g s.views id v w at in record {
        history = k.history;
        drawn = k.drawn;
        passed = k.passed;
        limit = k.limit + 1;
        words = k.words;
        tickets = let a = sum ticket_count in let b = change ticket_count in let t = k.tickets in omega arith;
        low = omega arith;
        few = let a = sum live_count in let b = change live_count in let t = k.few in omega arith;
        numbers = λ n. let a = sum (number_count n) in let b = change (number_count n) in
            dite (ℕ_discrete (v.splits + 1) n)
            (λ new. let z = k.beyond n (omega arith) in let one = one_if-same (v.splits + 1) n new in omega arith)
            (λ other. let z = one_if-other (v.splits + 1) n other in let t = k.numbers n in omega arith);
        beyond = λ n above. let a = sum (number_count n) in let b = change (number_count n) in
            let z = k.beyond n (omega arith) in let o = one_if-other (v.splits + 1) n (λ e. absurd (omega arith)) in
            omega arith;
        inside = all_up_to-later by k.limit k.history k.inside;
        home = subst (IsHome log k.history s.homes) (let a = sum value_count in
            omega arith) (home_still by log s k id v w at refl);
        apart = λ t. let a = sum (count_of_ticket t) in
            let b = apart_still by log s k id v w at (λ t'. omega arith) t in omega arith;
        each = λ j u e. ⊎_elim
            (λ (there : get_elem? after j ≡ some u). ⊎_elim
            (λ (t : (j ≡ id) × (w ≡ u)). subst (Fits by k.history k.passed k.drawn (k.limit + 1)) t.1
            record {
              seen = f.seen;
              old = f.old;
              queue = f.queue;
              mine = f.mine;
              ended = f.ended;
              splits =
                  λ _ _. omega arith;
              stage = f.stage;
            })
            (λ (t : (j ≢ id) × (get_elem? s.views j ≡ some u)). refit_limit k.history k.passed k.drawn k.limit
            (k.limit + 1) u (k.each j u t.1)
            (λ alive_too root_too.
            let apart = t.0 in
            let two = total-two (number_count 0) s.views id j v u (λ is. apart (sym is)) at t.1 in
            let once = k.numbers 0 in
            let a = named_live by log 0 v live in let a1 = one_if-same v.number 0 root in
            let b = named_live by log 0 u alive_too in let b1 = one_if-same u.number 0 root_too in
            absurd (omega arith)))
            (at_set s.views id j w u there))
            (λ (new : c ≡ u). subst (Fits by k.history k.passed k.drawn (k.limit + 1)) new record {
              seen = f.seen;
              old = (k.history, refl);
              queue = omega arith;
              mine = λ _. (
                entries_of-above by k.limit (v.splits + 1) k.history k.inside (omega arith),
                entries_of-above by k.limit (v.splits + 1) v.seen
                    (all_up_to-prefix by k.limit v.seen k.history f.seen k.inside) (omega arith),
              );
              ended = λ _. (tt, tt);
              splits = λ _ zero_is. absurd (omega arith);
              stage = tt;
            })
            (at_snoc after c u j e);
      }

  -- a note of what a pass has seen is split from it
  pub notes : (id : ℕ) (v : View E) → Splits (IsKept by log) id v v (note_view v)
  notes id v s k at =
      let f = k.each id v at in
      let c : View E = note_view v in
      let after : List (View E) = set s.views id v in
      let sum = λ (g : View E → ℕ). total-snoc g after c in
      let change = λ (g : View E → ℕ). total-set g s.views id v v at in record {
        history = k.history;
        drawn = k.drawn;
        passed = k.passed;
        limit = k.limit;
        words = k.words;
        tickets = let a = sum ticket_count in let b = change ticket_count in let t = k.tickets in omega arith;
        low = k.low;
        few = let a = sum live_count in let b = change live_count in let t = k.few in omega arith;
        numbers = λ n. let a = sum (number_count n) in let b = change (number_count n) in let t = k.numbers n in
            omega arith;
        beyond = λ n above. let a = sum (number_count n) in let b = change (number_count n) in
            let t = k.beyond n above in omega arith;
        inside = k.inside;
        home = subst (IsHome log k.history s.homes) (let a = sum value_count in
            omega arith) (home_still by log s k id v v at refl);
        apart = λ t. let a = sum (count_of_ticket t) in
            let b = apart_still by log s k id v v at (λ t'. omega arith) t in omega arith;
        each = λ j u e. ⊎_elim
            (λ (there : get_elem? after j ≡ some u). ⊎_elim
            (λ (t : (j ≡ id) × (v ≡ u)). subst (Fits by k.history k.passed k.drawn k.limit) t.1 f)
            (λ (t : (j ≢ id) × (get_elem? s.views j ≡ some u)). k.each j u t.1)
            (at_set s.views id j v u there))
            (λ (new : c ≡ u). subst (Fits by k.history k.passed k.drawn k.limit) new record {
              seen = f.seen;
              old = (k.history, refl);
              queue = omega arith;
              mine = λ live. absurd (true≢false (sym live));
              ended = λ live. absurd (true≢false (sym live));
              splits = λ live. absurd (true≢false (sym live));
              stage = tt;
            })
            (at_snoc after c u j e);
      }

  -- two views become one, with the numbers of both, and the other is spent
  two_change : (s : St by log) (k : IsKept by log s) (id other : ℕ) (v w both : View E) → get_elem? s.views id ≡ some v
      → ¬ (other ≡ id) → get_elem? (set s.views id both) other ≡ some w
      → v.stage ≡ Idle → w.stage ≡ Idle → both.stage ≡ Idle → live_count both ≤ live_count v + live_count w
      → ((n : ℕ) → number_count n both ≡ number_count n v + number_count n w)
      → Fits by k.history k.passed k.drawn k.limit both
      → IsKept by log record { words = s.words; homes = s.homes; views = set (set s.views id both) other spent_view }
  two_change s k id other v w both at apart at' v_idle w_idle both_idle lives numbers fits =
      let after : List (View E) = set s.views id both in
      let sum = λ (g : View E → ℕ). total-set g after other w spent_view at' in
      let change = λ (g : View E → ℕ). total-set g s.views id v both at in
      let q1 : ticket_count v ≡ 0 = ap ticket_at v_idle in let q2 : ticket_count w ≡ 0 = ap ticket_at w_idle in
      let q3 : ticket_count both ≡ 0 = ap ticket_at both_idle in
      let h1 : value_count v ≡ 0 = ap value_at v_idle in let h2 : value_count w ≡ 0 = ap value_at w_idle in
      let h3 : value_count both ≡ 0 = ap value_at both_idle in record {
        history = k.history;
        drawn = k.drawn;
        passed = k.passed;
        limit = k.limit;
        words = k.words;
        tickets = let a = sum ticket_count in let b = change ticket_count in let t = k.tickets in omega arith;
        low = k.low;
        few = let a = sum live_count in let b = change live_count in let t = k.few in omega arith;
        numbers = λ n. let a = sum (number_count n) in let b = change (number_count n) in let t = k.numbers n in
            let c = numbers n in omega arith;
        beyond = λ n above. let a = sum (number_count n) in let b = change (number_count n) in
            let t = k.beyond n above in let c = numbers n in omega arith;
        inside = k.inside;
        home = subst (IsHome log k.history s.homes) (let a = sum value_count in let b = change value_count in
            omega arith) k.home;
        apart = λ t. let a = sum (count_of_ticket t) in let b = change (count_of_ticket t) in let c = k.apart t in
            let t1 : count_of_ticket t v ≡ 0 = ap (λ (st : Stage). ticket_if t st v.ticket) v_idle in
            let t2 : count_of_ticket t w ≡ 0 = ap (λ (st : Stage). ticket_if t st w.ticket) w_idle in
            let t3 : count_of_ticket t both ≡ 0 = ap (λ (st : Stage). ticket_if t st both.ticket) both_idle in
            omega arith;
        each = λ j u e. ⊎_elim
            (λ (t : (j ≡ other) × (spent_view ≡ u)). subst (Fits by k.history k.passed k.drawn k.limit) t.1 record {
              seen = (k.history, refl);
              old = (k.history, refl);
              queue = omega arith;
              mine = λ live. absurd (true≢false (sym live));
              ended = λ live. absurd (true≢false (sym live));
              splits = λ live. absurd (true≢false (sym live));
              stage = tt;
            })
            (λ (t : (j ≢ other) × (get_elem? after j ≡ some u)). ⊎_elim
            (λ (x : (j ≡ id) × (both ≡ u)). subst (Fits by k.history k.passed k.drawn k.limit) x.1 fits)
            (λ (x : (j ≢ id) × (get_elem? s.views j ≡ some u)). k.each j u x.1)
            (at_set s.views id j both u t.1))
            (at_set after other j spent_view u e);
      }

  -- where the other seat was before the first view changed
  was_there : (s : St by log) (id other : ℕ) (both w : View E) → ¬ (other ≡ id)
      → get_elem? (set s.views id both) other ≡ some w → get_elem? s.views other ≡ some w
  was_there s id other both w apart at = sym (set_else s.views id other both apart) ∙ at

  named_both : (n : ℕ) (v w : View E) → v.live ≡ true → w.live ≡ true
      → number_count n (after_absorb v w) ≡ number_count n v + number_count n w
  named_both n v w live live' =
      let a = named_live by log n v live in
      let b = named_live by log n w live' in
      let c = named_live by log n (after_absorb v w) live in
      let d = total-append (λ (x : EndedPass E). one_if (x.number == n)) v.ended (w.ended ++ ended_of w ∷ []) in
      let e = total-append (λ (x : EndedPass E). one_if (x.number == n)) w.ended (ended_of w ∷ []) in omega arith

  -- a pass is joined into another
  pub absorbs : (id other : ℕ) (v w : View E) → v.stage ≡ Idle → v.live ≡ true → v.old ≡ [] → w.stage ≡ Idle
      → w.live ≡ true → w.old ≡ [] → Joins (IsKept by log) id v other w (after_absorb v w) spent_view
  absorbs id other v w idle live fresh idle' live' fresh' s k at apart at' =
      let f = k.each id v at in
      let g = k.each other w (was_there s id other (after_absorb v w) w apart at') in
      let two = longer_between v.seen w.seen k.history f.seen g.seen in
      let seen_ended : HasEnded by v.seen v.ended =
      subst (λ (l : List E). HasEnded by l v.ended) (longer-nil v.seen v.old fresh) (f.ended live).1 in
      let seen_ended' : HasEnded by w.seen w.ended =
      subst (λ (l : List E). HasEnded by l w.ended) (longer-nil w.seen w.old fresh') (g.ended live').1 in
      let l : List E = longer v.seen w.seen in
      let all_have : HasEnded by k.history (v.ended ++ (w.ended ++ ended_of w ∷ [])) =
      has_ended-append by k.history v.ended (w.ended ++ ended_of w ∷ []) (f.ended live).0
      (has_ended-append by k.history w.ended (ended_of w ∷ []) (g.ended live').0 ((g.mine live').0, tt)) in
      let own : entries_of by w.number l ≡ w.mine =
      entries_of-between by w.number w.seen l k.history w.mine two.1 two.2 (g.mine live').1 (g.mine live').0 in
      let known_have : HasEnded by l (v.ended ++ (w.ended ++ ended_of w ∷ [])) =
      has_ended-append by l v.ended (w.ended ++ ended_of w ∷ [])
      (has_ended-between by v.seen l k.history v.ended two.0 two.2 seen_ended (f.ended live).0)
      (has_ended-append by l w.ended (ended_of w ∷ [])
      (has_ended-between by w.seen l k.history w.ended two.1 two.2 seen_ended' (g.ended live').0) (own, tt)) in
      two_change s k id other v w (after_absorb v w) at apart at' idle idle' idle (omega arith)
      (λ n. named_both n v w live live') record {
        seen = f.seen;
        old = g.seen;
        queue = f.queue;
        mine = f.mine;
        ended = λ _. (all_have, known_have);
        splits = f.splits;
        stage = f.stage;
      }

  named_note : (n : ℕ) (v w : View E) → w.live ≡ false
      → number_count n (after_inform v w) ≡ number_count n v + number_count n w
  named_note n v w dead = let z : number_count n w ≡ 0 = ap (λ (b : Bool). number_if n b w.number w.ended) dead in
      omega arith

  -- a note is joined into a pass
  pub informs : (id other : ℕ) (v w : View E) → v.stage ≡ Idle → v.live ≡ true → v.old ≡ [] → w.stage ≡ Idle
      → w.live ≡ false → Joins (IsKept by log) id v other w (after_inform v w) spent_view
  informs id other v w idle live fresh idle' dead s k at apart at' =
      let f = k.each id v at in
      let g = k.each other w (was_there s id other (after_inform v w) w apart at') in
      let two = longer_between v.seen w.seen k.history f.seen g.seen in
      let seen_ended : HasEnded by v.seen v.ended =
      subst (λ (l : List E). HasEnded by l v.ended) (longer-nil v.seen v.old fresh) (f.ended live).1 in
      two_change s k id other v w (after_inform v w) at apart at' idle idle' idle (omega arith)
      (λ n. named_note n v w dead) record {
        seen = f.seen;
        old = g.seen;
        queue = f.queue;
        mine = f.mine;
        ended = λ _. (
          (f.ended live).0,
          has_ended-between by v.seen (longer v.seen w.seen) k.history v.ended two.0 two.2 seen_ended
              (f.ended live).0,
        );
        splits = f.splits;
        stage = f.stage;
      }

  -- after a join the longer list is seen
  pub settles_at : (n id : ℕ) (me : M by log) → me.0.live ≡ true
      → Allows (IsKept by log) n id me 2 (λ x. x) (settles by (step n 2 0 0 none) me)
  settles_at n id me live s k _ at _ =
      let v : View E = me.0 in
      let f = k.each id v at in
      let w : View E = after_settle v in
      let two = longer_between v.seen v.old k.history f.seen f.old in
      let own : entries_of by v.number (known_entries v) ≡ v.mine =
      entries_of-between by v.number v.seen (known_entries v) k.history v.mine two.0 two.2 (f.mine live).1
      (f.mine live).0 in
      let mine : Fits by k.history k.passed k.drawn k.limit w = record {
        seen = two.2;
        old = (k.history, refl);
        queue = f.queue;
        mine = λ l. ((f.mine l).0, own);
        ended = λ l. (
          (f.ended l).0,
          subst (λ (x : List E). HasEnded by x v.ended) (sym (longer-nil (known_entries v) [] refl)) (f.ended l).1,
        );
        splits = f.splits;
        stage = f.stage;
      } in (
        w,
        keeps,
        tt,
        one_changes by log s k id v w (slice_set s.words 2 (slice_index s.words 2)) s.homes k.history k.drawn k.passed
            at refl refl refl
            (ap (λ (ws : List ℕ). slice_set ws 2 (slice_index ws 2)) k.words) (omega arith) k.inside
            (home_still by log s k id v w at refl) (apart_still by log s k id v w at (λ t. omega arith)) mine
            (λ j u _ d. k.each j u d),
        (refl, sound_of by log k.history k.passed k.drawn k.limit w mine k.inside live refl, two.0, two.1),
      )
