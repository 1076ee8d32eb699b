-- So many requests start at most as many sessions, and add at most as many private assertions to each.
use Rattle.std.proofs.Common.{◌≡◌, ℕ, ◌+◌, ◌≤◌, Option, None, Bool, true, false, cond, ◌==◌, List, [], ◌∷◌, ◌++◌}
use Rattle.std.proofs.Common.{length, map, filter, find, sym, subst, arith, Some, take, add-zero}
use Rattle.std.specs.List.{AllByRecursion}
use Rattle.std.specs.Option.{option_map_or}
use Rattle.kn_env.specs.Values.{values_of}
use Rattle.kn_principal.specs.Principals.{normal_form}
use Rattle.kn_history.specs.declared.update.Update.{Update}
use Rattle.kn_history.specs.Retained.{retained_version}
use Rattle.kn_reply.specs.declared.refusal.Refusal.{Refusal}
use Rattle.kn_wire.specs.Requests.{Request}
use Rattle.kn_reply.specs.Replies.{Reply, No, NoMemory}
use Rattle.kn_daemon.specs.Daemon.{DaemonConfig, State, first_state, with_session, own_refusal, pinned_to}
use Rattle.kn_daemon.specs.Daemon.{state_keeping, state_after, Does, Permits}
use Rattle.kn_daemon.specs.Played.{after_request, played}
use Rattle.kn_session.specs.Sessions.{Session, started_session}
use Rattle.kn_session.specs.Calls.{Call, add_requester, is_named, after_call}
use Rattle.kn_session.specs.Calls as C
use Rattle.kn_daemon.specs.Shapes.{Look, ForOpen, ForPin, ForPinAt, ForNews, ForLog, Question, WithProof}
use Rattle.kn_daemon.specs.Shapes.{WithCritical, ToKeep, Control, ShowSecret, Leave, Shape, Calls, Updates, Looks}
use Rattle.kn_daemon.specs.Shapes.{Asks, Controls, AtFault, shape_of}
use Rattle.kn_daemon.specs.Linearized.{Exchange, Along}
use Rattle.kn_wire.specs.Feeding.{Held}
use Rattle.kn_daemon.specs.Underway.{IsUnderway, IsSmall}

abbrev AllMade : ℕ → List Session → Type 0
AllMade n sessions = AllByRecursion (λ (x : Session). x.made ≤ n) sessions

record AreFew (n : ℕ) (state : State) : Type 0 where
  started : state.started ≤ n
  made : AllMade n state.sessions

made-more : (n : ℕ) (xs : List Session) → AllMade n xs → AllMade (n + 1) xs
made-more n [] h = tt
made-more n (x ∷ xs) h = let first = h.0 in (omega (arith, first), made-more n xs h.1)

made-push : (n : ℕ) (xs : List Session) (y : Session) → AllMade n xs → y.made ≤ n + 1 → AllMade (n + 1) (xs ++ y ∷ [])
made-push n [] y h last = (last, tt)
made-push n (x ∷ xs) y h last = let first = h.0 in (omega (arith, first), made-push n xs y h.1 last)

made-filter : (p : Session → Bool) (n : ℕ) (xs : List Session) → AllMade n xs → AllMade (n + 1) (filter p xs)
made-filter p n [] h = tt
made-filter p n (x ∷ xs) h = by (p x) (made-filter p n xs h.1)
  where
    by : (t : Bool) → AllMade (n + 1) (filter p xs) → AllMade (n + 1) (cond t (x ∷ filter p xs) (filter p xs))
    by true rest = let first = h.0 in (omega (arith, first), rest)
    by false rest = rest

made-map : (p : Session → Bool) (change : Session → Session) (n : ℕ) → ((x : Session) → (change x).made ≤ x.made + 1)
    → (xs : List Session) → AllMade n xs → AllMade (n + 1) (map (λ x. cond (p x) (change x) x) xs)
made-map p change n each [] h = tt
made-map p change n each (x ∷ xs) h = (by (p x), made-map p change n each xs h.1)
  where
    by : (t : Bool) → (cond t (change x) x).made ≤ n + 1
    by true = let first = h.0 in let one = each x in omega (arith, first, one)
    by false = let first = h.0 in omega (arith, first)

few-more : (n : ℕ) (state : State) → AreFew n state → AreFew (n + 1) state
few-more n state few =
    let s = few.started in record { started = omega (arith, s); made = made-more n state.sessions few.made }

few-with : (n : ℕ) (state : State) (s : ℕ) (change : Session → Session) → ((x : Session) → (change x).made ≤ x.made + 1)
    → AreFew n state → AreFew (n + 1) (with_session state s change)
few-with n state s change each few =
    let l = few.started in
    record { started = omega (arith, l); made = made-map (λ x. x.number == s) change n each state.sessions few.made }

requester-made : (text : List ℕ) (x : Session) → (add_requester text x).made ≤ x.made + 1
requester-made text x = by (is_named x.requesters text)
  where
    by : (t : Bool) → (cond t x (record x { requesters = x.requesters ++ normal_form text ∷ [] })).made ≤ x.made + 1
    by true = omega arith
    by false = omega arith

made-called : (n s : ℕ) (call : Call) (xs : List Session) → AllMade n xs → AllMade (n + 1) (after_call xs s call)
made-called n s C.Close xs h = made-filter _ n xs h
made-called n s (C.Auth text) xs h = made-map (λ x. x.number == s) _ n (requester-made text) xs h
made-called n s call xs h = made-map (λ x. x.number == s) _ n (λ x. omega arith) xs h

few-looked : (n : ℕ) (past : List Update) (state : State) (look : Look) → AreFew n state
    → AreFew (n + 1) (state_after past state (Looks look))
few-looked n past state ForOpen few =
    let s = few.started in
    record {
      started = omega (arith, s);
      made = made-push n state.sessions (started_session (state.started + 1) past) few.made (omega arith);
    }
few-looked n past state (ForPin s) few = few-with n state s _ (λ x. omega arith) few
few-looked n past state (ForPinAt s version) few = by (retained_version past version)
  where
    by : (kept : Option (List Update)) → AreFew (n + 1) (pinned_to state s kept)
    by None = few-more n state few
    by (Some kept) = few-with n state s _ (λ x. omega arith) few
few-looked n past state (ForNews s) few = few-with n state s _ (λ x. omega arith) few
few-looked n past state (ForLog count) few = few-more n state few

few-questioned : (n : ℕ) (past : List Update) (state : State) (question : Question) (s : ℕ) (names : List ℕ)
    → AreFew n state → AreFew (n + 1) (state_after past state (Asks question s names))
few-questioned n past state WithProof s names few = few-more n state few
few-questioned n past state WithCritical s names few = few-more n state few
few-questioned n past state ToKeep s names few = by (values_of names)
  where
    by : (values : Option (List (List ℕ))) → AreFew (n + 1) (state_keeping state s values)
    by None = few-more n state few
    by (Some values) = few-with n state s _ (λ x. omega arith) few

few-controlled : (n : ℕ) (past : List Update) (state : State) (control : Control) → AreFew n state
    → AreFew (n + 1) (state_after past state (Controls control))
few-controlled n past state (ShowSecret bytes) few =
    let s = few.started in record { started = omega (arith, s); made = made-more n state.sessions few.made }
few-controlled n past state Leave few = few-more n state few

few-changed : (n : ℕ) (past : List Update) (state : State) (shape : Shape) → AreFew n state
    → AreFew (n + 1) (state_after past state shape)
few-changed n past state (Calls s call) few =
    let l = few.started in record { started = omega (arith, l); made = made-called n s call state.sessions few.made }
few-changed n past state (Looks look) few = few-looked n past state look few
few-changed n past state (Asks question s names) few = few-questioned n past state question s names few
few-changed n past state (Controls control) few = few-controlled n past state control few
few-changed n past state (Updates update) few = few-more n state few
few-changed n past state (AtFault fault) few = few-more n state few

few-does : (n : ℕ) (g : DaemonConfig) (caller : ℕ) (past : List Update) (old : State) (shape : Shape) (reply : Reply)
    (new : State) → AreFew n old → Does g caller past old shape reply new → AreFew (n + 1) new
few-does n g caller past old shape reply new few d =
    subst (AreFew (n + 1)) (sym d.next) (few-changed n past old shape few)

few-permitted : (n : ℕ) (g : DaemonConfig) (caller : ℕ) (past : List Update) (old : State) (shape : Shape)
    (reply : Reply)
    (new : State) → AreFew n old → Permits g caller past old shape reply new → AreFew (n + 1) new
few-permitted n g caller past old shape (No refusal) new few h = subst (AreFew (n + 1)) (sym h.1) (few-more n old few)
few-permitted n g caller past old shape NoMemory new few h = subst (AreFew (n + 1)) (sym h.1) (few-more n old few)
few-permitted n g caller past old shape reply new few h = few-does n g caller past old shape reply new few h

few-along : (n : ℕ) (g : DaemonConfig) (caller : ℕ) (history : List Update) (old : State) (es : List Exchange)
    (new : State)
    → AreFew n old → Along g caller history old es new → AreFew (n + length es) new
few-along n g caller history old [] new few along =
    subst (λ k. AreFew k new) (sym (add-zero n)) (subst (AreFew n) (sym along) few)
few-along n g caller history old (e ∷ es) new few (mid, permits, later) =
    let rest =
    few-along (n + 1) g caller history mid es new
    (few-permitted n g caller (take e.place history) old (shape_of e.request) e.reply mid few permits) later in
    subst (λ k. AreFew k new) (omega arith) rest

made-found : (n s : ℕ) (xs : List Session) (session : Session) → AllMade n xs
    → find (λ x. x.number == s) xs ≡ Some session → session.made ≤ n
made-found n s [] session h e = cc
made-found n s (x ∷ xs) session h e = by (x.number == s) e (made-found n s xs session h.1)
  where
    by : (t : Bool) → cond t (Some x) (find (λ y. y.number == s) xs) ≡ Some session
        → (find (λ y. y.number == s) xs ≡ Some session → session.made ≤ n) → session.made ≤ n
    by true e rest = let first = h.0 in let same : x ≡ session = cc in subst (λ y. y.made ≤ n) same first
    by false e rest = rest e

pub small : (g : DaemonConfig) (taken written : List ℕ) (history : List Update) (start caller : ℕ) (stops : List ℕ)
    (state : State) (held : Held) (answered : ℕ)
    → IsUnderway g taken written history start caller stops state held answered → IsSmall answered state
small g taken written history start caller stops state held answered u =
    let few : AreFew answered state =
    subst (λ k. AreFew k state) (let c = u.count in omega (arith, c))
    (few-along 0 g caller history first_state u.exchanges state
    (record { started = omega arith; made = tt }) u.replies) in
    record {
      started = few.started;
      made = λ s session found. made-found answered s state.sessions session few.made found;
    }

-- Playing.

few-after : (n : ℕ) (g : DaemonConfig) (past : List Update) (state : State) (request : Request) → AreFew n state
    → AreFew (n + 1) (after_request g past state request)
few-after n g past state request few = by (own_refusal g state (shape_of request))
  where
    by : (o : Option Refusal)
        → AreFew (n + 1) (option_map_or (λ refusal. state) o (state_after past state (shape_of request)))
    by None = few-changed n past state (shape_of request) few
    by (Some refusal) = few-more n state few

few-played : (n : ℕ) (g : DaemonConfig) (past : List Update) (state : State) (requests : List Request) → AreFew n state
    → AreFew (n + length requests) (played g past state requests)
few-played n g past state [] few = subst (λ k. AreFew k state) (sym (add-zero n)) few
few-played n g past state (request ∷ requests) few =
    let rest =
    few-played (n + 1) g past (after_request g past state request) requests
    (few-after n g past state request few) in
    subst (λ k. AreFew k (played g past (after_request g past state request) requests)) (omega arith) rest

-- so many requests that are played start at most as many sessions, and add at most as many private assertions to each
pub played-small : (g : DaemonConfig) (past : List Update) (requests : List Request)
    → IsSmall (length requests) (played g past first_state requests)
played-small g past requests =
    let size : 0 + length requests ≡ length requests = omega arith in
    let few : AreFew (length requests) (played g past first_state requests) =
    subst (λ k. AreFew k (played g past first_state requests)) size
    (few-played 0 g past first_state requests (record { started = omega arith; made = tt })) in
    record {
      started = few.started;
      made =
          λ s session found. made-found (length requests) s
          (played g past first_state requests).sessions session few.made found;
    }
