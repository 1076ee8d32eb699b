-- Loading texts by a root pass that is alone.
use Rattle.std.proofs.Common.{◌≡◌, ◌≢◌, ℕ, ◌+◌, ◌<◌, true, List, [], ◌∷◌, ◌++◌, length, length-append, suc, refl, sym}
use Rattle.std.proofs.Common.{ap, subst, ◌∙◌, inl, inr, arith, append_assoc, append-nil, Option, Some, None}
use Rattle.std.specs.Prelude.{All, IsSome, MatchOption}
use Rattle.std.proofs.lemmas.Bool.{and_parts, and_from}
use Rattle.std.proofs.lemmas.List.{append_cancel_right}
use Rattle.atomic_table.specs.Seated.{TableId}
use Rattle.kn_fields.specs.declared.fault.ReadFault.{ReadFault}
use Rattle.kn_fields.specs.Numbers.{fault_number}
use Rattle.kn_assert.specs.Reading.{assertion_of}
use Rattle.kn_history.specs.declared.update.Numbered.{Numbered}
use Rattle.kn_history.specs.declared.update.Update.{Update}
use Rattle.kn_history.specs.declared.fault.StoreFault.{StoreFault}
use Rattle.kn_history.specs.declared.fault.StoreFault.TheVariants.{Unknown, LiveFull, BytesFull, HistoryFull, LogFull}
use Rattle.kn_history.specs.declared.fault.StoreFault.TheVariants.{NoMemory}
use Rattle.kn_history.specs.History.{all_changes, additions, addition_by, additions_by, update_may_follow}
use Rattle.kn_history.specs.History.{updates_may_follow, refusal_of_text, is_valid_history, loaded_history}
use Rattle.kn_history.specs.History.{IsFirstRefused}
use Rattle.kn_history.specs.Loading.{IsLoadable, IsFaultyAt, IsFullAt}
use Rattle.kn_history.proofs.Additions.{additions-texts}
use Rattle.kn_history.proofs.Loading.{loadable_nothing}
use Rattle.kn_history.proofs.Valid.{loadable_is_valid}
use Rattle.kn_registry.specs.Passes.{PassSeen, IsReady, IsSoundPass, AddsAll, IsOneRefused, RefusesOne}
use Rattle.kn_turn.specs.Passes.{root_of}
use Rattle.kn_load.specs.Readings.{IsFaultyFor}
use Rattle.kn_load.specs.Loaded.{IsLoaded, StopsLoading, refused_at}
use Rattle.kn_load.specs.declared.fault.LoadFault.{LoadFault}
use Rattle.kn_load.specs.declared.fault.LoadFault.TheVariants as L
use Rattle.kn_load.proofs.Alone.{alone, looks_alone}

-- updates that may follow, and others that may follow behind them
updates-append : (past : List Numbered) (history more : List Update) → updates_may_follow past history ≡ true
    → updates_may_follow (past ++ all_changes history) more ≡ true → updates_may_follow past (history ++ more) ≡ true
updates-append past [] more h behind = subst (λ front. updates_may_follow front more ≡ true) (append-nil past) behind
updates-append past (first ∷ history) more h behind =
    let parts = and_parts (update_may_follow past first) (updates_may_follow (past ++ first.changes) history) h in
    and_from (update_may_follow past first) (updates_may_follow (past ++ first.changes) (history ++ more)) parts.0
    (updates-append (past ++ first.changes) history more parts.1
    (subst (λ front. updates_may_follow front more ≡ true) (sym (append_assoc past first.changes (all_changes history)))
    behind))

-- more texts are more additions
additions-append : (n : ℕ) (front texts : List (List ℕ))
    → additions_by 0 n front ++ additions_by 0 (n + length front) texts ≡ additions_by 0 n (front ++ texts)
additions-append n [] texts = ap (λ (k : ℕ). additions_by 0 k texts) (omega arith)
additions-append n (x ∷ front) texts =
    let same : n + length (x ∷ front) ≡ n + 1 + length front = omega arith in
    ap (λ (l : List Update). addition_by 0 x (n + 1) ∷ l)
    (ap (λ (k : ℕ). additions_by 0 (n + 1) front ++ additions_by 0 k texts) same
    ∙ additions-append (n + 1) front texts)

loaded_behind : (front texts : List (List ℕ))
    → loaded_history front ++ additions_by 0 (additions (all_changes (loaded_history front))) texts
    ≡ loaded_history (front ++ texts)
loaded_behind front texts =
    let zero_first : length front ≡ 0 + length front = omega arith in
    ap (λ (k : ℕ). loaded_history front ++ additions_by 0 k texts) (additions-texts 0 0 front ∙ zero_first)
    ∙ additions-append 0 front texts

-- nothing is loaded yet
pub loaded_nothing : (registry : TableId) (root : PassSeen) → root ≡ root_of registry → IsReady registry root
    → IsLoaded [] registry root
loaded_nothing registry root is ready = record {
  loadable = loadable_nothing;
  root = record {
    ready = ready;
    number = ap (λ (p : PassSeen). p.number) is;
    unsplit =
        ap (λ (p : PassSeen). p.splits) is;
  };
  seen = ap (λ (p : PassSeen). p.seen) is;
}

-- the refused one has its place among the texts
pub place_within : (old new : PassSeen) (texts : List (List ℕ)) (place : ℕ) (refusal : StoreFault)
    → RefusesOne old new texts place refusal → refusal ≢ NoMemory → place < length texts
place_within old new texts place refusal refuses other = by refusal refuses other
  where
    within : (past : List Update) (caller : ℕ) (fault : StoreFault) → IsFirstRefused past caller texts place fault
        → place < length texts
    within past caller fault first =
        let all = ap length first.cut in
        let both = length-append first.front (first.text ∷ first.rest) in
        let is = first.place_is in
        omega arith

    by : (fault : StoreFault) → RefusesOne old new texts place fault → fault ≢ NoMemory → place < length texts
    by NoMemory stays none = absurd (none refl)
    by (Unknown id) one none = within new.seen old.number (Unknown id) one.first
    by (LiveFull count) one none = within new.seen old.number (LiveFull count) one.first
    by (BytesFull bytes) one none = within new.seen old.number (BytesFull bytes) one.first
    by (HistoryFull updates) one none = within new.seen old.number (HistoryFull updates) one.first
    by (LogFull bytes) one none = within new.seen old.number (LogFull bytes) one.first

around : (a b c d : List (List ℕ)) (t : List ℕ) → a ++ (b ++ t ∷ c) ++ d ≡ (a ++ b) ++ t ∷ (c ++ d)
around a b c d t = simp append_assoc

reads_there : (front : List (List ℕ)) (text : List ℕ) (rest : List (List ℕ))
    → All (λ t. IsSome (assertion_of t)) (front ++ text ∷ rest) → IsSome (assertion_of text)
reads_there [] text rest all = all 0 text (omega arith)
reads_there (x ∷ front) text rest all = reads_there front text rest (λ k d lt. all (suc k) d (omega (arith, lt)))

module _ (front texts rest : List (List ℕ)) (place : ℕ) (refusal : StoreFault) (loadable : IsLoadable front)
    (reads : All (λ t. IsSome (assertion_of t)) texts)
    (first : IsFirstRefused (loaded_history front) 0 texts place refusal) where
  before_it : IsLoadable (front ++ first.front)
  before_it = (loadable_is_valid (front ++ first.front)).1
      (subst (λ (h : List Update). is_valid_history h ≡ true) (loaded_behind front first.front)
      (updates-append [] (loaded_history front)
      (additions_by 0 (additions (all_changes (loaded_history front))) first.front)
      ((loadable_is_valid front).0 loadable) first.follow))

  full_there : IsFullAt (front ++ texts ++ rest) (length front + place + 1) refusal
  full_there =
      let both = length-append front first.front in
      let is = first.place_is in record {
        front = front ++ first.front;
        text = first.text;
        reached = record {
          rest = first.rest ++ rest;
          cut = ap (λ (l : List (List ℕ)). front ++ l ++ rest) first.cut
              ∙ around front first.front first.rest rest first.text;
          place = omega arith;
          loadable = before_it;
        };
        reads = reads_there first.front first.text first.rest
            (subst (All (λ t. IsSome (assertion_of t))) first.cut reads);
        refused = subst (λ (h : List Update). refusal_of_text (all_changes h) first.text ≡ Some refusal)
            (loaded_behind front first.front) first.refused;
      }

module _ (front texts : List (List ℕ)) (registry : TableId) (v w : PassSeen) (l : IsLoaded front registry v)
    (sound : IsSoundPass w) where
  -- the next texts are added
  pub loaded_more : IsReady registry w → AddsAll v w texts → IsLoaded (front ++ texts) registry w
  loaded_more ready adds =
      let made = additions_by v.number (additions (all_changes adds.before)) texts in
      let own = alone v w adds.more made _ l.root.number l.root.unsplit sound adds.moves in
      let grown : w.seen ≡ v.seen ++ made = adds.moves.seen ∙ ap (λ (m : List Update). v.seen ++ m) own in
      let before : adds.before ≡ loaded_history front =
      append_cancel_right adds.before v.seen made (sym adds.ends ∙ grown) ∙ l.seen in
      let seen : w.seen ≡ loaded_history (front ++ texts) =
      adds.ends ∙ ap (λ (h : List Update). h ++ additions_by v.number (additions (all_changes h)) texts) before
      ∙ ap (λ (n : ℕ). loaded_history front ++ additions_by n (additions (all_changes (loaded_history front))) texts)
      l.root.number ∙ loaded_behind front texts in
      record {
        loadable = (loadable_is_valid (front ++ texts)).1
            (subst (λ (h : List Update). is_valid_history h ≡ true) seen ready.valid);
        root = record {
          ready = ready;
          number = adds.moves.number ∙ l.root.number;
          unsplit = adds.moves.splits
              ∙ l.root.unsplit;
        };
        seen = seen;
      }

  module _ (rest : List (List ℕ)) (place : ℕ) (reads : All (λ t. IsSome (assertion_of t)) texts) where
    full_here : (refusal : StoreFault) → IsOneRefused v w texts place refusal
        → IsFullAt (front ++ texts ++ rest) (length front + place + 1) refusal
    full_here refusal refused =
        let same : w.seen ≡ loaded_history front = looks_alone v w l.root.number l.root.unsplit sound refused.looks
        ∙ l.seen in
        full_there front texts rest place refusal l.loadable reads
        (subst (λ (h : List Update). IsFirstRefused h 0 texts place refusal) same
        (subst (λ (n : ℕ). IsFirstRefused w.seen n texts place refusal) l.root.number refused.first))

    -- what the first refused of them is refused for stops loading
    pub refusal_stops : (refusal : StoreFault) → RefusesOne v w texts place refusal
        → StopsLoading (front ++ texts ++ rest) (refused_at (length front + place + 1) refusal)
    refusal_stops (Unknown id) refused = full_here (Unknown id) refused
    refusal_stops (LiveFull count) refused = full_here (LiveFull count) refused
    refusal_stops (BytesFull bytes) refused = full_here (BytesFull bytes) refused
    refusal_stops (HistoryFull updates) refused = full_here (HistoryFull updates) refused
    refusal_stops (LogFull bytes) refused = full_here (LogFull bytes) refused
    refusal_stops NoMemory refused = tt

-- a fault of the next text stops loading, and so does running out of memory
pub fault_stops : (front rest : List (List ℕ)) (text : List ℕ) (number : ℕ) (fault : ReadFault) (stop : LoadFault)
    → IsLoadable front → number ≡ length front + 1 → IsFaultyFor text fault →
    MatchOption (fault_number fault) (stop ≡ L.NoMemory) (λ _. stop ≡ L.Faulty number fault)
    → StopsLoading (front ++ text ∷ rest) stop
fault_stops front rest text number fault stop loadable place (inl none) is =
    subst (StopsLoading (front ++ text ∷ rest))
    (sym (subst (λ f. MatchOption (fault_number f) (stop ≡ L.NoMemory) (λ _. stop ≡ L.Faulty number f)) none is)) tt
fault_stops front rest text number fault stop loadable place (inr told) is = by (fault_number fault) is
  where
    here : IsFaultyAt (front ++ text ∷ rest) number fault
    here = record {
      front = front;
      text = text;
      reached =
          record { rest = rest; cut = refl; place = place; loadable = loadable };
      fault_there = told;
    }

    by : (found : Option ℕ) → MatchOption found (stop ≡ L.NoMemory) (λ _. stop ≡ L.Faulty number fault)
        → StopsLoading (front ++ text ∷ rest) stop
    by None e = subst (StopsLoading (front ++ text ∷ rest)) (sym e) tt
    by (Some n) e = subst (StopsLoading (front ++ text ∷ rest)) (sym e) here
