-- A caller that is alone is served as by one thread, and the replies tell each place.
use Rattle.std.proofs.Common.{◌≡◌, ℕ, ◌+◌, ◌≤◌, Option, List, [], ◌∷◌, ◌++◌, length, take, drop, filter_map}
use Rattle.std.proofs.Common.{option_to_list, arith, sym, ap, ◌∙◌, subst, Some, None, append-nil, append_assoc}
use Rattle.std.proofs.Common.{length-append, length-take, take-append-drop, take_at, Bool}
use Rattle.std.specs.List.{cons_option}
use Rattle.std.proofs.lemmas.List.{take_rest}
use Rattle.kn_history.specs.declared.update.Update.{Update}
use Rattle.kn_daemon.specs.declared.ended.Ended.{Ended}
use Rattle.kn_daemon.specs.Shapes.{shape_of}
use Rattle.kn_daemon.specs.Daemon.{DaemonConfig, State, Permits, first_state}
use Rattle.kn_daemon.specs.Linearized.{Exchange, Along, InOrder, IsBehind, update_of}
use Rattle.kn_daemon.specs.Served.{IsServed}
use Rattle.kn_daemon.specs.Alone.{RunsAlone, IsServedAlone}
use Rattle.kn_daemon.proofs.Runs.{order-ends}
use Rattle.kn_history.specs.History.{own_updates}

-- there is room for all the updates
room : (caller low : ℕ) (es : List Exchange) (high : ℕ) → InOrder caller low es high
    → low + length (filter_map (update_of caller) es) ≤ high
room caller low [] high h = omega (arith, h)
room caller low (e ∷ es) high h = by (update_of caller e) h.0 (room caller e.place es high h.1)
  where
    by : (o : Option Update) → IsBehind o low e.place → e.place + length (filter_map (update_of caller) es) ≤ high
        → low + length (cons_option o (filter_map (update_of caller) es)) ≤ high
    by None at rest = omega (arith, at, rest)
    by (Some update) at rest = omega (arith, at, rest)

-- what is behind a place of the history, and what is before it
pub record IsSplit (history : List Update) (place : ℕ) (past rest : List Update) : Type 0 where
  pub size : length past ≡ place
  pub whole : history ≡ past ++ rest

split-more : (history : List Update) (place : ℕ) (past : List Update) (u : Update) (rest : List Update)
    → IsSplit history place past (u ∷ rest) → IsSplit history (place + 1) (past ++ u ∷ []) rest
split-more history place past u rest s =
    record {
      size = let l = length-append past (u ∷ []) in let n = s.size in omega (arith, l, n);
      whole = s.whole ∙ sym (append_assoc past (u ∷ []) rest);
    }

pub alone : (g : DaemonConfig) (caller : ℕ) (history : List Update) (low : ℕ) (past : List Update) (es : List Exchange)
    (old new : State)
    → IsSplit history low past (filter_map (update_of caller) es) → InOrder caller low es (length history)
    → Along g caller history old es new
    → RunsAlone g caller past old es history new
alone g caller history low past [] old new s order along = (s.whole ∙ append-nil past, along)
alone g caller history low past (e ∷ es) old new s order (mid, permits, later) =
    by (update_of caller e) s order.0 (room caller e.place es (length history) order.1)
    (λ next n place_same split. alone g caller history e.place next es mid new
    (subst (λ k. IsSplit history k next (filter_map (update_of caller) es)) place_same split) order.1 later)
  where
    rest : List Update
    rest = filter_map (update_of caller) es

    Step : List Update → Type 0
    Step next =
        (m : State) × Permits g caller next old (shape_of e.request) e.reply m
        × RunsAlone g caller next m es history new

    step : (n : ℕ) (next : List Update) → n ≡ e.place → IsSplit history n next rest
        → RunsAlone g caller next mid es history new → Step next
    step n next same split runs =
        let past_is : take e.place history ≡ next =
        ap (take e.place) split.whole ∙ take_at next rest e.place (split.size ∙ same) in
        (mid, subst (λ p. Permits g caller p old (shape_of e.request) e.reply mid) past_is permits, runs)

    by : (o : Option Update) → IsSplit history low past (cons_option o rest) → IsBehind o low e.place
        → e.place + length rest ≤ length history
        → ((next : List Update) (n : ℕ) → n ≡ e.place → IsSplit history n next rest
        → RunsAlone g caller next mid es history new)
        → Step (past ++ option_to_list o)
    by None s at within go =
        let size = ap length s.whole in
        let sizes = length-append past rest in
        let n = s.size in
        let same : low ≡ e.place = omega (arith, size, sizes, n, at, within) in
        subst Step (sym (append-nil past)) (step low past same s (go past low same s))
    by (Some u) s at within go =
        let more : IsSplit history (low + 1) (past ++ u ∷ []) rest = split-more history low past u rest s in
        let size = ap length more.whole in
        let sizes = length-append (past ++ u ∷ []) rest in
        let n = more.size in
        let same : low + 1 ≡ e.place = omega (arith, size, sizes, n, at, within) in
        step (low + 1) (past ++ u ∷ []) same more (go (past ++ u ∷ []) (low + 1) same more)

pub served-alone : (g : DaemonConfig) (taken written : List ℕ) (ended : Ended) (is_over : Bool) (history : List Update)
    (start caller : ℕ) (stops : List ℕ)
    → IsServed g taken written ended is_over history start (length history) caller stops
    → own_updates caller (drop start history) ≡ drop start history
    → IsServedAlone g taken written ended is_over (take start history) history caller
served-alone g taken written ended is_over history start caller stops s own =
    let within = order-ends caller start s.exchanges (length history) s.places.in_order in
    let updates : drop start history ≡ filter_map (update_of caller) s.exchanges =
    sym own ∙ ap (own_updates caller) (sym (take_rest history start)) ∙ s.places.own in
    let size = length-take start history in
    record {
      exchanges = s.exchanges;
      rest = s.rest;
      last = s.last;
      requests = s.requests;
      replies = alone g caller history start (take start history) s.exchanges first_state s.last
          (record {
            size = omega (arith, size, within);
            whole = sym (take-append-drop start history) ∙ ap (λ back. take start history ++ back) updates;
          })
          s.places.in_order s.replies;
      bytes = s.bytes;
      one_bye = s.one_bye;
      count = s.count;
      why = s.why;
    }
