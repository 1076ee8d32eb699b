-- The open sessions are pinned to first parts of the one history, and their standing queries are over such parts.
use Rattle.std.proofs.Common.{◌≡◌, ℕ, zero, suc, ◌+◌, Bool, true, false, cond, ◌==◌, not, List, [], ◌∷◌, ◌++◌, length}
use Rattle.std.proofs.Common.{◌≤◌, map, filter, find, take, Option, Some, None, refl, sym, ap, ◌∙◌, subst, arith}
use Rattle.std.specs.Prelude.{IfSome, option_map}
use Rattle.std.proofs.lemmas.List.{length-take, take-append-le}
use Rattle.std.specs.List.{AllByRecursion}
use Rattle.kn_history.specs.declared.update.Update.{Update}
use Rattle.kn_history.specs.Retained.{is_retained, retained_version}
use Rattle.kn_env.specs.Values.{values_of}
use Rattle.kn_principal.specs.Principals.{normal_form}
use Rattle.kn_session.specs.Sessions.{Session, StandingQuery, with_changed, started_session, pin_at, watch_with}
use Rattle.kn_session.specs.Sessions.{move_standing, query_at}
use Rattle.kn_session.specs.Calls.{Call, Close, Auth, Unwatch, after_call, call_change, is_named, add_requester}
use Rattle.kn_reply.specs.Replies.{Reply, Done, Started, Number, PrivateAdded, Added, Value, Batched, PinnedAt, Log}
use Rattle.kn_reply.specs.Replies.{News, Critical, No, NoMemory}
use Rattle.kn_wire.specs.Feeding.{Held}
use Rattle.kn_daemon.specs.Shapes.{Shape, Calls, Updates, Looks, Asks, Controls, AtFault, ForOpen, ForPin, ForPinAt}
use Rattle.kn_daemon.specs.Shapes.{ForNews, ForLog, Look, Question, WithProof, WithCritical, ToKeep, Control}
use Rattle.kn_daemon.specs.Shapes.{ShowSecret, Leave, shape_of}
use Rattle.kn_daemon.specs.Daemon.{DaemonConfig, State, first_state, pinned_to, state_keeping, state_after, Does}
use Rattle.kn_daemon.specs.Daemon.{Permits}
use Rattle.kn_daemon.specs.Linearized.{Exchange, Along}
use Rattle.kn_daemon.specs.Underway.{IsUnderway}
use Rattle.kn_serve.specs.KeptBases.{IsFirstOf, IsPinned, ArePinned}

taken-so : (n : ℕ) (h : List Update) → IsFirstOf (take n h) h
taken-so zero h = refl
taken-so (suc n) [] = refl
taken-so (suc n) (x ∷ h) = ap (λ l. x ∷ l) (taken-so n h)

first-part : (h xs : List Update) (n : ℕ) → xs ≡ take n h → IsFirstOf xs h
first-part h xs n e = subst (λ ys. IsFirstOf ys h) (sym e) (taken-so n h)

-- a first part is no longer, and stays one while the history grows
pub first-fewer : (version history : List Update) → IsFirstOf version history → length version ≤ length history
first-fewer version history first =
    omega (arith, ap (λ (u : List Update). length u) first, length-take (length version) history)

pub first-grown : (version history more : List Update) → IsFirstOf version history
    → IsFirstOf version (history ++ more)
first-grown version history more first =
    first ∙ sym (take-append-le (length version) history more (first-fewer version history first))

abbrev AllPinned : List Update → List Session → Type 0
AllPinned h sessions = AllByRecursion (IsPinned h) sessions

pinned-push : (h : List Update) (xs : List Session) (y : Session) → AllPinned h xs → IsPinned h y
    → AllPinned h (xs ++ y ∷ [])
pinned-push h [] y are last = (last, tt)
pinned-push h (x ∷ xs) y are last = (are.0, pinned-push h xs y are.1 last)

pinned-filter : (p : Session → Bool) (h : List Update) (xs : List Session) → AllPinned h xs → AllPinned h (filter p xs)
pinned-filter p h [] are = tt
pinned-filter p h (x ∷ xs) are = by (p x) (pinned-filter p h xs are.1)
  where
    by : (t : Bool) → AllPinned h (filter p xs) → AllPinned h (cond t (x ∷ filter p xs) (filter p xs))
    by true rest = (are.0, rest)
    by false rest = rest

pinned-map : (p : Session → Bool) (change : Session → Session) (h : List Update)
    → ((x : Session) → IsPinned h x → IsPinned h (change x)) → (xs : List Session) → AllPinned h xs
    → AllPinned h (map (λ x. cond (p x) (change x) x) xs)
pinned-map p change h each [] are = tt
pinned-map p change h each (x ∷ xs) are = (by (p x), pinned-map p change h each xs are.1)
  where
    by : (t : Bool) → IsPinned h (cond t (change x) x)
    by true = each x are.0
    by false = are.0

pinned-change : (h : List Update) (xs : List Session) (s : ℕ) (change : Session → Session)
    → ((x : Session) → IsPinned h x → IsPinned h (change x)) → AllPinned h xs → AllPinned h (with_changed xs s change)
pinned-change h xs s change each are = pinned-map (λ x. x.number == s) change h each xs are

requester-pinned : (h : List Update) (text : List ℕ) (x : Session) → IsPinned h x → IsPinned h (add_requester text x)
requester-pinned h text x is = by (is_named x.requesters text)
  where
    by : (t : Bool) → IsPinned h (cond t x (record x { requesters = x.requesters ++ normal_form text ∷ [] }))
    by true = is
    by false = record { pin = is.pin; standing = is.standing }

pinned-call : (h : List Update) (xs : List Session) (s : ℕ) (call : Call) → AllPinned h xs
    → AllPinned h (after_call xs s call)
pinned-call h xs s Close are = pinned-filter (λ x. not (x.number == s)) h xs are
pinned-call h xs s (Auth text) are = pinned-change h xs s (call_change (Auth text)) (requester-pinned h text) are
pinned-call h xs s Unwatch are =
    pinned-change h xs s (call_change Unwatch) (λ x is. record { pin = is.pin; standing = tt }) are
pinned-call h xs s call are =
    pinned-change h xs s (call_change call) (λ x is. record { pin = is.pin; standing = is.standing }) are

-- a first part of a first part is one
taken-twice : (m n : ℕ) (h : List Update) → (k : ℕ) × (take m (take n h) ≡ take k h)
taken-twice zero n h = (0, refl)
taken-twice (suc m) zero h = (0, refl)
taken-twice (suc m) (suc n) [] = (0, refl)
taken-twice (suc m) (suc n) (x ∷ h) = let rest = taken-twice m n h in (suc rest.0, ap (λ l. x ∷ l) rest.1)

retained-part : (h : List Update) (n number : ℕ) (version : List Update)
    → retained_version (take n h) number ≡ Some version
    → IsFirstOf version h
retained-part h n number version e = by (is_retained (length (take n h)) number) e
  where
    by : (b : Bool) → cond b (Some (take number (take n h))) None ≡ Some version → IsFirstOf version h
    by true at =
        let same : take number (take n h) ≡ version = cc in
        let part = taken-twice number n h in
        first-part h version part.0 (sym same ∙ part.1)
    by false at = absurd (cc)

pinned-retained : (h : List Update) (state : State) (s : ℕ) (found : Option (List Update))
    → ((version : List Update) → found ≡ Some version → IsFirstOf version h) → AllPinned h state.sessions
    → AllPinned h (pinned_to state s found).sessions
pinned-retained h state s None each are = are
pinned-retained h state s (Some version) each are =
    pinned-change h state.sessions s (pin_at version)
    (λ x is. record { pin = each version refl; standing = is.standing }) are

-- a standing query that is moved
moved-pinned : (h : List Update) (n : ℕ) (standing : Option StandingQuery)
    → IfSome (option_map (query_at (take n h)) standing) (λ query. IsFirstOf query.pinned h)
moved-pinned h n None = tt
moved-pinned h n (Some query) = taken-so n h

pinned-looked : (h : List Update) (n : ℕ) (state : State) (look : Look) → AllPinned h state.sessions
    → AllPinned h (state_after (take n h) state (Looks look)).sessions
pinned-looked h n state ForOpen are =
    pinned-push h state.sessions (started_session (state.started + 1) (take n h)) are
    (record { pin = taken-so n h; standing = tt })
pinned-looked h n state (ForPin s) are =
    pinned-change h state.sessions s (pin_at (take n h))
    (λ x is. record { pin = taken-so n h; standing = is.standing }) are
pinned-looked h n state (ForPinAt s number) are =
    pinned-retained h state s (retained_version (take n h) number) (retained-part h n number) are
pinned-looked h n state (ForNews s) are =
    pinned-change h state.sessions s (move_standing (take n h))
    (λ x is. record { pin = is.pin; standing = moved-pinned h n x.standing }) are
pinned-looked h n state (ForLog m) are = are

pinned-kept : (h : List Update) (state : State) (s : ℕ) (values : Option (List (List ℕ))) → AllPinned h state.sessions
    → AllPinned h (state_keeping state s values).sessions
pinned-kept h state s None are = are
pinned-kept h state s (Some values) are =
    pinned-change h state.sessions s (watch_with values) (λ x is. record { pin = is.pin; standing = is.pin }) are

pinned-questioned : (h : List Update) (n : ℕ) (state : State) (question : Question) (s : ℕ) (names : List ℕ)
    → AllPinned h state.sessions
    → AllPinned h (state_after (take n h) state (Asks question s names)).sessions
pinned-questioned h n state WithProof s names are = are
pinned-questioned h n state WithCritical s names are = are
pinned-questioned h n state ToKeep s names are = pinned-kept h state s (values_of names) are

pinned-controlled : (h : List Update) (n : ℕ) (state : State) (control : Control) → AllPinned h state.sessions
    → AllPinned h (state_after (take n h) state (Controls control)).sessions
pinned-controlled h n state (ShowSecret bytes) are = are
pinned-controlled h n state Leave are = are

pinned-changed : (h : List Update) (n : ℕ) (state : State) (shape : Shape) → AllPinned h state.sessions
    → AllPinned h (state_after (take n h) state shape).sessions
pinned-changed h n state (Calls s call) are = pinned-call h state.sessions s call are
pinned-changed h n state (Updates update) are = are
pinned-changed h n state (Looks look) are = pinned-looked h n state look are
pinned-changed h n state (Asks question s names) are = pinned-questioned h n state question s names are
pinned-changed h n state (Controls control) are = pinned-controlled h n state control are
pinned-changed h n state (AtFault fault) are = are

module _ (h : List Update) (n : ℕ) (g : DaemonConfig) (caller : ℕ) (old new : State) (shape : Shape)
    (are : AllPinned h old.sessions) where
  pinned-does : (reply : Reply) → Does g caller (take n h) old shape reply new → AllPinned h new.sessions
  pinned-does reply d =
      subst (λ (state : State). AllPinned h state.sessions) (sym d.next) (pinned-changed h n old shape are)

  pinned-same : new ≡ old → AllPinned h new.sessions
  pinned-same e = subst (λ (state : State). AllPinned h state.sessions) (sym e) are

  pinned-permitted : (reply : Reply) → Permits g caller (take n h) old shape reply new → AllPinned h new.sessions
  pinned-permitted Done d = pinned-does Done d
  pinned-permitted (Started s version) d = pinned-does (Started s version) d
  pinned-permitted (Number version) d = pinned-does (Number version) d
  pinned-permitted (PrivateAdded k) d = pinned-does (PrivateAdded k) d
  pinned-permitted (Added k version) d = pinned-does (Added k version) d
  pinned-permitted (Value index name version rows) d = pinned-does (Value index name version rows) d
  pinned-permitted (Batched first added version) d = pinned-does (Batched first added version) d
  pinned-permitted (PinnedAt version newest) d = pinned-does (PinnedAt version newest) d
  pinned-permitted (Log m history) d = pinned-does (Log m history) d
  pinned-permitted (News index name version) d = pinned-does (News index name version) d
  pinned-permitted (Critical index ids) d = pinned-does (Critical index ids) d
  pinned-permitted (No refusal) d = pinned-same d.1
  pinned-permitted NoMemory d = pinned-same d.1

pinned-along : (h : List Update) (g : DaemonConfig) (caller : ℕ) (old : State) (es : List Exchange) (new : State)
    → AllPinned h old.sessions → Along g caller h old es new → AllPinned h new.sessions
pinned-along h g caller old [] new are along = subst (λ (state : State). AllPinned h state.sessions) (sym along) are
pinned-along h g caller old (e ∷ es) new are (mid, permits, later) =
    pinned-along h g caller mid es new
    (pinned-permitted h e.place g caller old mid (shape_of e.request) are e.reply permits) later

found-pinned : (h : List Update) (s : ℕ) (xs : List Session) (session : Session) → AllPinned h xs
    → find (λ x. x.number == s) xs ≡ Some session → IsPinned h session
found-pinned h s [] session are e = absurd (cc)
found-pinned h s (x ∷ xs) session are e = by (x.number == s) e (found-pinned h s xs session are.1)
  where
    by : (t : Bool) → cond t (Some x) (find (λ y. y.number == s) xs) ≡ Some session
        → (find (λ y. y.number == s) xs ≡ Some session → IsPinned h session) → IsPinned h session
    by true at rest = let same : x ≡ session = cc in subst (IsPinned h) same are.0
    by false at rest = rest at

pub underway-pinned : (g : DaemonConfig) (taken written : List ℕ) (history : List Update) (start caller : ℕ)
    (stops : List ℕ)
    (state : State) (held : Held) (answered : ℕ)
    → IsUnderway g taken written history start caller stops state held answered → ArePinned history state
underway-pinned g taken written history start caller stops state held answered u = λ s session found.
    let all : AllPinned history state.sessions =
    pinned-along history g caller first_state u.exchanges state tt u.replies in
    found-pinned history s state.sessions session all found
