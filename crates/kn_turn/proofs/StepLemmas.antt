-- Each kind of step keeps the turn's invariant.
use Rattle.std.proofs.Common.{◌≡◌, ◌≢◌, ℕ, ◌+◌, ◌%◌, ◌^◌, ◌<◌, ◌≤◌, ◌==◌, List, [], ◌∷◌, ◌++◌, length, set, slice_index}
use Rattle.std.proofs.Common.{slice_set, Bool, true, refl, sym, ap, ◌∙◌, subst, inl, inr, ⊎_elim, arith, lt_of_not-le}
use Rattle.std.proofs.Common.{All}
use Rattle.std.proofs.Math.Nat.{mod-add-mod}
use Rattle.std.specs.Prelude.{Option, Some}
use mathlib.Core.Option.{some, none, some-injective, some-ne-none}
use mathlib.Core.Option as maybe
use mathlib.Core.List.{IsPrefix}
use mathlib.Core.Logic.{dite}
use native.Mathlib.Decide.{ℕ_discrete, dec_le}
use lib.ListN.{get_elem?}
use Rattle.atomic_table.specs.Table.{State, Me, step, keeps, takes, gives, put_back, Allows}
use Rattle.atomic_table.proofs.Lists.{at_set, one_turn}
use Rattle.kn_turn.specs.declared.view.View.{View}
use Rattle.kn_turn.specs.declared.view.Stage.{Stage}
use Rattle.kn_turn.specs.declared.view.Stage.TheVariants.{Idle, Waits, Served, Holds}
use Rattle.kn_turn.specs.Counts.{one_if, total}
use Rattle.kn_turn.specs.Entries.{entries_of, AllNameUpTo}
use Rattle.kn_turn.specs.Views.{ticket_at, value_at, ticket_if, ticket_count, value_count, count_of_ticket, live_count}
use Rattle.kn_turn.specs.Views.{ended_count, number_if, number_count, HasEnded, after_draw, after_serve, after_take}
use Rattle.kn_turn.specs.Views.{after_append, after_look, after_confirm, after_give}
use Rattle.kn_turn.specs.Invariant.{IsAtStage, IsSoundView, Fits, IsHome, IsKept, draws_ticket, sees_served}
use Rattle.kn_turn.specs.Invariant.{takes_value, appends, looks, confirms, passes_on}
use Rattle.kn_turn.proofs.Sums.{one_if-same, one_if-other, other-one_if, total-set, total-at, total-two, total-zero}
use Rattle.kn_turn.proofs.Sums.{total-le, total-gap}
use Rattle.kn_turn.proofs.Prefixes.{prefix_self, prefix_same, prefix_more, longer-nil}
use Rattle.kn_turn.proofs.PassEntries.{entries_of-append, entries_of-own, entries_of-still, has_ended-more}
use Rattle.kn_turn.proofs.PassEntries.{all_up_to-prefix}
use Rattle.kn_turn.proofs.PassEntries.{all_up_to-more}

module _ {S E : Type 0} (by : E → ℕ) (log : S → List E) where
  abbrev pub St : Type 0
  St = State (Option S) (View E)

  abbrev pub M : Type 0
  M = Me (Option S) (View E)

  abbrev pub Rule : St → Type 0
  Rule = IsKept by log

  named_as : (n : ℕ) (v w : View E) → w.live ≡ v.live → w.number ≡ v.number → w.ended ≡ v.ended
      → number_count n w ≡ number_count n v
  named_as n v w a b c i = number_if n (a i) (b i) (c i)

  -- one view changes, but neither which passes live nor their numbers
  pub one_changes : (s : St) (k : Rule s) (id : ℕ) (v w : View E) (words : List ℕ)
      (homes : List (maybe.Option (Option S))) (history : List E) (drawn passed : ℕ)
      → get_elem? s.views id ≡ some v → w.live ≡ v.live → w.number ≡ v.number → w.ended ≡ v.ended
      → words ≡ drawn % 2 ^ 64 ∷ passed % 2 ^ 64 ∷ length history ∷ []
      → drawn + ticket_count v + k.passed ≡ passed + ticket_count w + k.drawn → AllNameUpTo by k.limit history
      → IsHome log history homes (total value_count (set s.views id w))
      → ((t : ℕ) → total (count_of_ticket t) (set s.views id w) ≤ 1)
      → Fits by history passed drawn k.limit w
      → ((j : ℕ) (u : View E) → j ≢ id → get_elem? s.views j ≡ some u → Fits by history passed drawn k.limit u)
      → Rule record { words = words; homes = homes; views = set s.views id w }
  one_changes s k id v w words homes history drawn passed at live number ended words_are balance inside home apart mine
      others = record {
        history = history;
        drawn = drawn;
        passed = passed;
        limit = k.limit;
        words = words_are;
        tickets = let t = total-set ticket_count s.views id v w at in let b = k.tickets in omega arith;
        low = k.low;
        few = let t = total-set live_count s.views id v w at in let same : live_count w ≡ live_count v =
            ap one_if live in
            let b = k.few in omega arith;
        numbers = λ n. let t = total-set (number_count n) s.views id v w at in
            let same = named_as n v w live number ended in let b = k.numbers n in omega arith;
        beyond = λ n above. let t = total-set (number_count n) s.views id v w at in
            let same = named_as n v w live number ended in let b = k.beyond n above in omega arith;
        inside = inside;
        home = home;
        apart = apart;
        each = λ j u e. ⊎_elim (λ (t : (j ≡ id) × (w ≡ u)). subst (Fits by history passed drawn k.limit) t.1 mine)
            (λ (t : (j ≢ id) × (get_elem? s.views j ≡ some u)). others j u t.0 t.1) (at_set s.views id j w u e);
      }

  -- no ticket is new
  pub apart_still : (s : St) (k : Rule s) (id : ℕ) (v w : View E) → get_elem? s.views id ≡ some v
      → ((t : ℕ) → count_of_ticket t w ≤ count_of_ticket t v) → (t : ℕ)
      → total (count_of_ticket t) (set s.views id w) ≤ 1
  apart_still s k id v w at less t = let c = total-set (count_of_ticket t) s.views id v w at in let h = less t in
      let b = k.apart t in omega arith

  -- the value is where it was
  pub home_still : (s : St) (k : Rule s) (id : ℕ) (v w : View E) → get_elem? s.views id ≡ some v
      → value_count w ≡ value_count v → IsHome log k.history s.homes (total value_count (set s.views id w))
  home_still s k id v w at same =
      let c = total-set value_count s.views id v w at in
      let e : total value_count s.views ≡ total value_count (set s.views id w) = omega arith in
      subst (IsHome log k.history s.homes) e k.home

  pub refit : (history : List E) (passed drawn passed' drawn' limit : ℕ) (u : View E)
      → Fits by history passed drawn limit u → IsAtStage history passed' drawn' u.ticket u.taken u.stage
      → Fits by history passed' drawn' limit u
  refit history passed drawn passed' drawn' limit u f stands =
      record {
        seen = f.seen;
        old = f.old;
        queue = f.queue;
        mine = f.mine;
        ended = f.ended;
        splits = f.splits;
        stage =
            stands;
      }

  -- what a live pass with nothing old has seen is sound
  pub sound_of : (history : List E) (passed drawn limit : ℕ) (v : View E) → Fits by history passed drawn limit v
      → AllNameUpTo by limit history → v.live ≡ true → v.old ≡ [] → IsSoundView by v
  sound_of history passed drawn limit v f inside live fresh = record {
    own = (f.mine live).1;
    kept = subst (λ (l : List E). HasEnded by l v.ended) (longer-nil v.seen v.old fresh) (f.ended live).1;
    root = λ zero_is. subst (λ (n : ℕ). AllNameUpTo by n v.seen) (sym (f.splits live zero_is))
        (all_up_to-prefix by limit v.seen history f.seen inside);
  }

  stands_later : (history : List E) (passed drawn ticket : ℕ) (taken : List E) (st : Stage)
      → IsAtStage history passed drawn ticket taken st → IsAtStage history passed (drawn + 1) ticket taken st
  stands_later history passed drawn ticket taken Idle k = tt
  stands_later history passed drawn ticket taken Waits k = let b = k.1 in (k.0, omega arith)
  stands_later history passed drawn ticket taken Served k = let b = k.1 in (k.0, omega arith)
  stands_later history passed drawn ticket taken Holds k = let b = k.1 in (k.0, omega arith, k.2)

  not_drawn : (history : List E) (passed drawn ticket t : ℕ) (taken : List E) (st : Stage) → t ≡ drawn
      → IsAtStage history passed drawn ticket taken st → ticket_if t st ticket ≡ 0
  not_drawn history passed drawn ticket t taken Idle is k = refl
  not_drawn history passed drawn ticket t taken Waits is k = let b = k.1 in
      one_if-other ticket t (λ e. absurd (omega arith))
  not_drawn history passed drawn ticket t taken Served is k = let b = k.1 in
      one_if-other ticket t (λ e. absurd (omega arith))
  not_drawn history passed drawn ticket t taken Holds is k = let b = k.1 in
      one_if-other ticket t (λ e. absurd (omega arith))

  -- a ticket is drawn
  pub draws : (n id : ℕ) (me : M) → me.0.stage ≡ Idle → me.0.live ≡ true
      → Allows Rule n id me 0 (λ x. (x + 1) % 2 ^ 64) (draws_ticket (step n 0 1 0 none) me)
  draws n id me idle live s k _ at _ =
      let v : View E = me.0 in
      let w : View E = after_draw v k.drawn in
      let f = k.each id v at in
      let no_queue : ticket_count v ≡ 0 = ap ticket_at idle in
      let no_hold : value_count v ≡ 0 = ap value_at idle in (
        w,
        keeps,
        tt,
        one_changes s k id v w (slice_set s.words 0 ((slice_index s.words 0 + 1) % 2 ^ 64)) s.homes k.history
            (k.drawn + 1) k.passed at refl refl refl
            (ap (λ (ws : List ℕ). slice_set ws 0 ((slice_index ws 0 + 1) % 2 ^ 64)) k.words
            ∙ ap (λ (x : ℕ). x ∷ k.passed % 2 ^ 64 ∷ length k.history ∷ []) (mod-add-mod k.drawn (2 ^ 64) 1))
            (omega arith) k.inside (home_still s k id v w at (sym no_hold))
            (λ t. let c = total-set (count_of_ticket t) s.views id v w at in let none_before : count_of_ticket t v ≡ 0 =
            ap (λ (st : Stage). ticket_if t st v.ticket) idle in
            dite (ℕ_discrete t k.drawn)
            (λ is. let z = total-zero (count_of_ticket t) s.views
            (λ j u e. not_drawn k.history k.passed k.drawn u.ticket t u.taken u.stage is (k.each j u e).stage) in
            let one = one_if-same k.drawn t (sym is) in omega arith)
            (λ other. let z = one_if-other k.drawn t (λ e. other (sym e)) in let b = k.apart t in omega arith))
            (record {
              seen = f.seen;
              old = f.old;
              queue = (let one : live_count v ≡ 1 = ap one_if live in omega arith);
              mine = f.mine;
              ended = f.ended;
              splits = f.splits;
              stage =
                  (let t = k.tickets in omega arith, omega arith);
            })
            (λ j u _ e. let g = k.each j u e in
            refit k.history k.passed k.drawn k.passed (k.drawn + 1) k.limit u g
            (stands_later k.history k.passed k.drawn u.ticket u.taken u.stage g.stage)),
        (k.drawn, ap (λ (ws : List ℕ). slice_index ws 0) k.words, refl),
      )

  -- at its own ticket a seat is served
  served_now : (s : St) (k : Rule s) (ticket : ℕ) (taken : List E)
      → IsAtStage k.history k.passed k.drawn ticket taken Waits → k.passed % 2 ^ 64 ≡ ticket % 2 ^ 64
      → ticket ≡ k.passed
  served_now s k ticket taken stands is =
      let few = total-le ticket_count live_count s.views (λ j u e. (k.each j u e).queue) in
      let t = k.tickets in let b = k.few in let l = k.low in let after = stands.0 in let before = stands.1 in
      let near : ticket < k.passed + 64 = omega arith in
      sym (one_turn k.passed ticket (2 ^ 64) after (omega arith) is)

  pub sees : (n id : ℕ) (me : M) → me.0.stage ≡ Waits
      → Allows Rule n id me 1 (λ x. x) (sees_served (step n 1 0 0 none) me)
  sees n id me waits s k _ at _ =
      let v : View E = me.0 in
      let r : ℕ = slice_index s.words 1 in
      let f = k.each id v at in
      let r_is : r ≡ k.passed % 2 ^ 64 = ap (λ (ws : List ℕ). slice_index ws 1) k.words in
      let words_are = ap (λ (ws : List ℕ). slice_set ws 1 (slice_index ws 1)) k.words in
      let stands : IsAtStage k.history k.passed k.drawn v.ticket v.taken Waits =
      subst (IsAtStage k.history k.passed k.drawn v.ticket v.taken) waits f.stage in
      dite (ℕ_discrete r (v.ticket % 2 ^ 64))
      (λ hit.
      let now : v.ticket ≡ k.passed = served_now s k v.ticket v.taken stands (sym r_is ∙ hit) in
      let w : View E = after_serve v in
      let in_queue : ticket_count v ≡ 1 = ap ticket_at waits in
      let no_hold : value_count v ≡ 0 = ap value_at waits in (
        w,
        keeps,
        tt,
        one_changes s k id v w (slice_set s.words 1 r) s.homes k.history k.drawn k.passed at refl refl refl words_are
            (omega arith) k.inside (home_still s k id v w at (sym no_hold))
            (apart_still s k id v w at (λ t. let same : count_of_ticket t v ≡ count_of_ticket t w =
            ap (λ (st : Stage). ticket_if t st v.ticket) waits in omega arith))
            (record {
              seen = f.seen;
              old = f.old;
              queue = (let q = f.queue in omega arith);
              mine = f.mine;
              ended =
                  f.ended;
              splits = f.splits;
              stage = (now, stands.1);
            })
            (λ j u _ e. k.each j u e),
        ((λ _. refl), λ miss. absurd (miss hit)),
      ))
      (λ miss. (
        v,
        keeps,
        tt,
        one_changes s k id v v (slice_set s.words 1 r) s.homes k.history k.drawn k.passed at refl refl refl words_are
            (omega arith) k.inside (home_still s k id v v at refl)
            (apart_still s k id v v at (λ t. omega arith)) f (λ j u _ e. k.each j u e),
        ((λ hit. absurd (miss hit)), λ _. refl),
      ))

  -- who holds the value has the ticket that is served
  holds_ticket : (history : List E) (passed drawn ticket : ℕ) (taken : List E) (st : Stage)
      → IsAtStage history passed drawn ticket taken st → value_at st ≤ ticket_if passed st ticket
  holds_ticket history passed drawn ticket taken Idle k = omega arith
  holds_ticket history passed drawn ticket taken Waits k = omega arith
  holds_ticket history passed drawn ticket taken Served k = omega arith
  holds_ticket history passed drawn ticket taken Holds k = let one = one_if-same ticket passed k.0 in omega arith

  pub takes_out : (n id : ℕ) (me : M) → me.0.stage ≡ Served
      → Allows Rule n id me 2 (λ x. x) (takes_value log (step n 2 0 0 none) me)
  takes_out n id me is_served s k _ at _ =
      let v : View E = me.0 in
      let f = k.each id v at in
      let stands : IsAtStage k.history k.passed k.drawn v.ticket v.taken Served =
      subst (IsAtStage k.history k.passed k.drawn v.ticket v.taken) is_served f.stage in
      let in_queue : ticket_count v ≡ 1 = ap ticket_at is_served in
      let no_hold : value_count v ≡ 0 = ap value_at is_served in
      let has : count_of_ticket k.passed v ≡ 1 = ap (λ (st : Stage). ticket_if k.passed st v.ticket) is_served
      ∙ one_if-same v.ticket k.passed stands.0 in
      let gap = total-gap value_count (count_of_ticket k.passed) s.views id v
      (λ j u e. holds_ticket k.history k.passed k.drawn u.ticket u.taken u.stage (k.each j u e).stage) at in
      let one = k.apart k.passed in
      let none_out : total value_count s.views ≡ 0 = omega arith in
      ⊎_elim
      (λ (t : (x : S) × (s.homes ≡ some (Some x) ∷ []) × (log x ≡ k.history) × (total value_count s.views ≡ 0)).
      let x : S = t.0 in
      let home : s.homes ≡ some (Some x) ∷ [] = t.1 in
      let w : View E = after_take v (log x) in
      let c = total-set value_count s.views id v w at in (
        w,
        takes 0 (Some x),
        ap (λ (hs : List (maybe.Option (Option S))). get_elem? hs 0) home,
        one_changes s k id v w (slice_set s.words 2 (slice_index s.words 2)) (slice_set s.homes 0 none) k.history
            k.drawn k.passed at refl refl refl
            (ap (λ (ws : List ℕ). slice_set ws 2 (slice_index ws 2)) k.words) (omega arith) k.inside
            (inr (ap (λ (hs : List (maybe.Option (Option S))). slice_set hs 0 none) home, omega arith))
            (apart_still s k id v w at (λ t. let same : count_of_ticket t v ≡ count_of_ticket t w =
            ap (λ (st : Stage). ticket_if t st v.ticket) is_served in omega arith))
            (record {
              seen = f.seen;
              old = f.old;
              queue = (let q = f.queue in omega arith);
              mine = f.mine;
              ended =
                  f.ended;
              splits = f.splits;
              stage = (stands.0, stands.1, t.2);
            })
            (λ j u _ e. k.each j u e),
        (
          x,
          ap (λ (ws : List ℕ). slice_index ws 2) k.words
              ∙ ap length (sym t.2),
          subst (IsPrefix v.seen) (sym t.2) f.seen,
          refl,
        ),
      ))
      (λ (t : (s.homes ≡ none ∷ []) × (total value_count s.views ≡ 1)). let out = t.1 in absurd (omega arith))
      k.home

  out_once : (s : St) (k : Rule s) → total value_count s.views ≤ 1
  out_once s k =
      ⊎_elim
      (λ (t : (x : S) × (s.homes ≡ some (Some x) ∷ []) × (log x ≡ k.history) × (total value_count s.views ≡ 0)). let z =
      t.3 in omega arith)
      (λ (t : (s.homes ≡ none ∷ []) × (total value_count s.views ≡ 1)). let z = t.1 in omega arith)
      k.home

  -- while a seat holds the value it isn't at home
  home_empty : (s : St) (k : Rule s) (id : ℕ) (v : View E) → get_elem? s.views id ≡ some v → value_count v ≡ 1
      → (s.homes ≡ none ∷ []) × (total value_count s.views ≡ 1)
  home_empty s k id v at out =
      let one = total-at value_count s.views id v at in
      ⊎_elim
      (λ (t : (x : S) × (s.homes ≡ some (Some x) ∷ []) × (log x ≡ k.history) × (total value_count s.views ≡ 0)). let z =
      t.3 in absurd (omega arith))
      (λ (t : (s.homes ≡ none ∷ []) × (total value_count s.views ≡ 1)). t)
      k.home

  pub named_live : (n : ℕ) (u : View E) → u.live ≡ true
      → number_count n u ≡ one_if (u.number == n) + ended_count n u.ended
  named_live n u live = ap (λ (b : Bool). number_if n b u.number u.ended) live

  pub named_self : (v : View E) → v.live ≡ true → number_count v.number v ≡ 1 + ended_count v.number v.ended
  named_self v live = named_live v.number v live
      ∙ ap (λ (x : ℕ). x + ended_count v.number v.ended) (one_if-same v.number v.number refl)

  number_low : (s : St) (k : Rule s) (id : ℕ) (v : View E) → get_elem? s.views id ≡ some v → v.live ≡ true
      → v.number ≤ k.limit
  number_low s k id v at live = dite (dec_le v.number k.limit) (λ low. low)
      (λ high. let b = k.beyond v.number (lt_of_not-le high) in
      let t = total-at (number_count v.number) s.views id v at in let one = named_self v live in
      absurd (omega arith))

  stands_longer : (history history' : List E) (passed drawn ticket : ℕ) (taken : List E) (st : Stage) → value_at st ≡ 0
      → IsAtStage history passed drawn ticket taken st → IsAtStage history' passed drawn ticket taken st
  stands_longer history history' passed drawn ticket taken Idle out k = tt
  stands_longer history history' passed drawn ticket taken Waits out k = k
  stands_longer history history' passed drawn ticket taken Served out k = k
  stands_longer history history' passed drawn ticket taken Holds out k = absurd (omega arith)

  -- entries of another pass are more of the history
  fits_more : (history : List E) (passed drawn limit n : ℕ) (es : List E) (u : View E) → All (λ e. by e ≡ n) es
      → number_count n u ≡ 0 → value_count u ≡ 0 → Fits by history passed drawn limit u
      → Fits by (history ++ es) passed drawn limit u
  fits_more history passed drawn limit n es u names absent out f = record {
    seen = prefix_more u.seen history es f.seen;
    old = prefix_more u.old history es f.old;
    queue = f.queue;
    mine = λ live.
        let count = named_live n u live in
        let first : one_if (u.number == n) ≡ 0 = omega arith in (
          entries_of-still by n u.number history es names (λ same. other-one_if u.number n first (sym same))
              ∙ (f.mine live).0,
          (f.mine live).1,
        );
    ended = λ live.
        let count = named_live n u live in
        let more : ended_count n u.ended ≡ 0 = omega arith in
        (has_ended-more by n history es u.ended names more (f.ended live).0, (f.ended live).1);
    splits = f.splits;
    stage = stands_longer history (history ++ es) passed drawn u.ticket u.taken u.stage out f.stage;
  }

  -- more entries of this pass
  fits_own : (history : List E) (passed drawn limit : ℕ) (es : List E) (v : View E) → All (λ e. by e ≡ v.number) es
      → v.live ≡ true → v.old ≡ [] → v.stage ≡ Holds → v.taken ≡ history → ended_count v.number v.ended ≡ 0
      → Fits by history passed drawn limit v → Fits by (v.taken ++ es) passed drawn limit (after_append v es)
  fits_own history passed drawn limit es v names live fresh stage taken absent f =
      let l : List E = v.taken ++ es in
      let own : entries_of by v.number l ≡ v.mine ++ es =
      entries_of-append by v.number v.taken es
      ∙ (ap (λ w. w ++ entries_of by v.number es) (ap (entries_of by v.number) taken ∙ (f.mine live).0)
      ∙ ap (λ w. v.mine ++ w) (entries_of-own by v.number es names)) in
      let has : HasEnded by l v.ended =
      has_ended-more by v.number v.taken es v.ended names absent
      (subst (λ (x : List E). HasEnded by x v.ended) (sym taken) (f.ended live).0) in
      let stands : IsAtStage history passed drawn v.ticket v.taken Holds =
      subst (IsAtStage history passed drawn v.ticket v.taken) stage f.stage in record {
        seen = prefix_self l;
        old = subst (λ (x : List E). IsPrefix v.old (x ++ es)) (sym taken) (prefix_more v.old history es f.old);
        queue = f.queue;
        mine = λ _. (own, own);
        ended = λ _. (has, subst (λ (x : List E). HasEnded by x v.ended) (sym (longer-nil l v.old fresh)) has);
        splits = f.splits;
        stage = subst (IsAtStage l passed drawn v.ticket l) (sym stage) (stands.0, stands.1, refl);
      }

  -- more entries join the history, all of which name the pass that has the turn
  pub appends_more : (n id : ℕ) (me : M) (new : ℕ) (es : List E) → me.0.stage ≡ Holds → me.0.live ≡ true → me.0.old ≡ []
      → All (λ e. by e ≡ me.0.number) es → new ≡ length (me.0.taken ++ es)
      → Allows Rule n id me 2 (λ _. new) (λ _. appends by es (step n 2 new 0 none) me new)
  appends_more n id me new es stage live fresh names new_is s k _ at _ =
      let v : View E = me.0 in
      let f = k.each id v at in
      let l : List E = v.taken ++ es in
      let w : View E = after_append v es in
      let stands : IsAtStage k.history k.passed k.drawn v.ticket v.taken Holds =
      subst (IsAtStage k.history k.passed k.drawn v.ticket v.taken) stage f.stage in
      let l_is : k.history ++ es ≡ l = ap (λ (x : List E). x ++ es) (sym stands.2) in
      let out : value_count v ≡ 1 = ap value_at stage in
      let empty = home_empty s k id v at out in
      let self = named_self v live in
      let low = number_low s k id v at live in
      let count = total-at (number_count v.number) s.views id v at in
      let once = k.numbers v.number in
      let c = total-set value_count s.views id v w at in
      let total_out = empty.1 in
      let absent : ended_count v.number v.ended ≡ 0 = omega arith in
      let mine = fits_own k.history k.passed k.drawn k.limit es v names live fresh stage stands.2 absent f in
      let inside : AllNameUpTo by k.limit l =
      subst (AllNameUpTo by k.limit) l_is (all_up_to-more by k.limit v.number k.history es k.inside names low) in (
        w,
        keeps,
        tt,
        one_changes s k id v w (slice_set s.words 2 new) s.homes l k.drawn k.passed at refl refl refl
            (ap (λ (ws : List ℕ). slice_set ws 2 new) k.words
            ∙ ap (λ (x : ℕ). k.drawn % 2 ^ 64 ∷ k.passed % 2 ^ 64 ∷ x ∷ []) new_is)
            (omega arith) inside (inr (empty.0, omega arith)) (apart_still s k id v w at (λ t. omega arith)) mine
            (λ j u other d.
            let two = total-two (number_count v.number) s.views id j v u (λ is. other (sym is)) at d in
            let outs = total-two value_count s.views id j v u (λ is. other (sym is)) at d in
            let once_out = out_once s k in
            subst (λ (x : List E). Fits by x k.passed k.drawn k.limit u) l_is
            (fits_more k.history k.passed k.drawn k.limit v.number es u names (omega arith) (omega arith)
            (k.each j u d))),
        (refl, sound_of l k.passed k.drawn k.limit w mine inside live fresh),
      )

  -- the history is seen
  pub looks_at : (n id : ℕ) (me : M) → me.0.stage ≡ Holds → me.0.live ≡ true → me.0.old ≡ []
      → Allows Rule n id me 2 (λ x. x) (looks by (step n 2 0 0 none) me)
  looks_at n id me stage live fresh s k _ at _ =
      let v : View E = me.0 in
      let f = k.each id v at in
      let w : View E = after_look v in
      let stands : IsAtStage k.history k.passed k.drawn v.ticket v.taken Holds =
      subst (IsAtStage k.history k.passed k.drawn v.ticket v.taken) stage f.stage in
      let whole : v.taken ≡ k.history = stands.2 in
      let own : entries_of by v.number v.taken ≡ v.mine = ap (entries_of by v.number) whole ∙ (f.mine live).0 in
      let has : HasEnded by v.taken v.ended =
      subst (λ (x : List E). HasEnded by x v.ended) (sym whole) (f.ended live).0 in
      let mine : Fits by k.history k.passed k.drawn k.limit w = record {
        seen = prefix_same v.taken k.history whole;
        old = f.old;
        queue = f.queue;
        mine = λ l. ((f.mine l).0, own);
        ended = λ l. (
          (f.ended l).0,
          subst (λ (x : List E). HasEnded by x v.ended) (sym (longer-nil v.taken v.old fresh)) has,
        );
        splits = f.splits;
        stage = f.stage;
      } in (
        w,
        keeps,
        tt,
        one_changes s k id v w (slice_set s.words 2 (slice_index s.words 2)) s.homes k.history k.drawn k.passed at refl
            refl refl
            (ap (λ (ws : List ℕ). slice_set ws 2 (slice_index ws 2)) k.words) (omega arith) k.inside
            (home_still s k id v w at refl) (apart_still s k id v w at (λ t. omega arith)) mine
            (λ j u _ d. k.each j u d),
        (
          ap (λ (ws : List ℕ). slice_index ws 2) k.words ∙ ap length (sym whole),
          refl,
          sound_of k.history k.passed k.drawn k.limit w mine k.inside live fresh,
          subst (IsPrefix v.seen) (sym whole) f.seen,
        ),
      )

  -- the front is looked at, which may be the length of what was seen
  pub confirms_at : (n id : ℕ) (me : M) → Allows Rule n id me 2 (λ x. x) (confirms (step n 2 0 0 none) me)
  confirms_at n id me s k _ at _ =
      let v : View E = me.0 in
      let r : ℕ = slice_index s.words 2 in
      let f = k.each id v at in
      let w : View E = after_confirm v in
      let words_are = ap (λ (ws : List ℕ). slice_set ws 2 (slice_index ws 2)) k.words in
      let mine : Fits by k.history k.passed k.drawn k.limit w = record {
        seen = f.seen;
        old = f.old;
        queue = f.queue;
        mine = f.mine;
        ended = f.ended;
        splits = f.splits;
        stage = f.stage;
      } in
      dite (ℕ_discrete r (length v.seen))
      (λ whole. (
        w,
        keeps,
        tt,
        one_changes s k id v w (slice_set s.words 2 r) s.homes k.history k.drawn k.passed at refl refl refl words_are
            (omega arith) k.inside (home_still s k id v w at refl) (apart_still s k id v w at (λ t. omega arith)) mine
            (λ j u _ d. k.each j u d),
        ((λ _. refl), λ miss. absurd (miss whole)),
      ))
      (λ miss. (
        v,
        keeps,
        tt,
        one_changes s k id v v (slice_set s.words 2 r) s.homes k.history k.drawn k.passed at refl refl refl words_are
            (omega arith) k.inside (home_still s k id v v at refl) (apart_still s k id v v at (λ t. omega arith)) f
            (λ j u _ d. k.each j u d),
        ((λ whole. absurd (miss whole)), λ _. refl),
      ))

  stands_passed : (history : List E) (passed drawn ticket : ℕ) (taken : List E) (st : Stage)
      → ticket_if passed st ticket ≡ 0 → IsAtStage history passed drawn ticket taken st
      → IsAtStage history (passed + 1) drawn ticket taken st
  stands_passed history passed drawn ticket taken Idle other k = tt
  stands_passed history passed drawn ticket taken Waits other k = let differ = other-one_if ticket passed other in
      let a = k.0 in (omega arith, k.1)
  stands_passed history passed drawn ticket taken Served other k = absurd (other-one_if ticket passed other k.0)
  stands_passed history passed drawn ticket taken Holds other k = absurd (other-one_if ticket passed other k.0)

  -- the value goes home, and the turn to the next ticket
  pub gives_back : (n id : ℕ) (me : M) (x : S) → me.0.stage ≡ Holds → me.1 ≡ (0, Some x) ∷ [] → log x ≡ me.0.taken
      → Allows Rule n id me 1 (λ y. (y + 1) % 2 ^ 64) (passes_on (step n 1 1 0 none) me)
  gives_back n id me x stage carried value s k _ at _ =
      let v : View E = me.0 in
      let f = k.each id v at in
      let w : View E = after_give v in
      let stands : IsAtStage k.history k.passed k.drawn v.ticket v.taken Holds =
      subst (IsAtStage k.history k.passed k.drawn v.ticket v.taken) stage f.stage in
      let out : value_count v ≡ 1 = ap value_at stage in
      let in_queue : ticket_count v ≡ 1 = ap ticket_at stage in
      let has : count_of_ticket k.passed v ≡ 1 = ap (λ (st : Stage). ticket_if k.passed st v.ticket) stage
      ∙ one_if-same v.ticket k.passed stands.0 in
      let empty = home_empty s k id v at out in
      let c = total-set value_count s.views id v w at in
      let total_out = empty.1 in (
        w,
        gives,
        tt,
        one_changes s k id v w (slice_set s.words 1 ((slice_index s.words 1 + 1) % 2 ^ 64)) (put_back s.homes me.1)
            k.history k.drawn (k.passed + 1) at refl refl refl
            (ap (λ (ws : List ℕ). slice_set ws 1 ((slice_index ws 1 + 1) % 2 ^ 64)) k.words
            ∙ ap (λ (y : ℕ). k.drawn % 2 ^ 64 ∷ y ∷ length k.history ∷ []) (mod-add-mod k.passed (2 ^ 64) 1))
            (omega arith) k.inside
            (inl (x, (λ i. put_back (empty.0 i) (carried i)), value ∙ stands.2, omega arith))
            (apart_still s k id v w at (λ t. omega arith))
            (record {
              seen = f.seen;
              old = f.old;
              queue = omega arith;
              mine = f.mine;
              ended = f.ended;
              splits =
                  f.splits;
              stage = tt;
            })
            (λ j u other d.
            let two = total-two (count_of_ticket k.passed) s.views id j v u (λ is. other (sym is)) at d in
            let once = k.apart k.passed in
            let g = k.each j u d in
            refit k.history k.passed k.drawn (k.passed + 1) k.drawn k.limit u g
            (stands_passed k.history k.passed k.drawn u.ticket u.taken u.stage (omega arith) g.stage)),
        refl,
      )
