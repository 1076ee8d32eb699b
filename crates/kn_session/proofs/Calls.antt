-- What a call on the session at a place makes of all sessions.
use Rattle.std.proofs.Common.{◌≡◌, ℕ, ◌+◌, ◌<◌, ◌≤◌, Bool, true, false, cond, ◌==◌, List, [], ◌∷◌, ◌++◌, length, map}
use Rattle.std.proofs.Common.{get_or, set, Option, Some, inr, Result, Ok, Err, OnOk, OnErr, refl, sym, ap, ◌∙◌, subst}
use Rattle.std.proofs.Common.{arith, length-append, nat_eq}
use Rattle.std.specs.List.{IsDistinct, remove}
use Rattle.std.proofs.lemmas.List.{length-map}
use Rattle.std.proofs.lemmas.List.Edits.{length-remove}
use Rattle.kn_base.specs.declared.limits.TheConstants.{SESSIONS}
use Rattle.kn_principal.specs.Principals.{normal_form}
use Rattle.kn_session.specs.declared.fault.SessionFault.{SessionFault}
use Rattle.kn_session.specs.Sessions.{Session, OpenSessions, session_in, fault_in}
use Rattle.kn_session.specs.Calls.{add_requester, is_named}
use Rattle.kn_session.specs.Calls.{Call, call_change, IsDue}
use Rattle.kn_session.specs.Calls as C
use Rattle.kn_session.specs.Connection.{fault_at, with_open_session, AreNumbers, AreOpen}
use Rattle.kn_session.specs.OnePlace.{IsOneAt}
use Rattle.kn_env.proofs.Requesters.{AllByRecursion-push}
use Rattle.kn_session.proofs.Closing.{next_is_new, AllByRecursion-remove, AllByRecursion-weaker, IsDistinct-push}
use Rattle.kn_session.proofs.Closing.{IsDistinct-remove, map-set_same, map-remove}

abbrev pub sessions_of : ℕ → List Session → OpenSessions
sessions_of n xs = record { started = n; sessions = xs }

abbrev pub IsPlaced : OpenSessions → ℕ → ℕ → Type 0
IsPlaced state s i = IsOneAt (λ (x : Session). x.number == s) state.sessions i

-- the session x stands at the place of its number
pub record IsHere (n : ℕ) (xs : List Session) (state : OpenSessions) (s i : ℕ) (x : Session) : Type 0 where
  pub is : sessions_of n xs ≡ state
  pub one : IsPlaced state s i
  pub here : x ≡ get_or xs i x

-- it is the session of that number
pub session_here : {n : ℕ} {xs : List Session} {state : OpenSessions} {s i : ℕ} {x : Session} → IsHere n xs state s i x
    → session_in state.sessions s ≡ Some x
session_here {n} {xs} {state} {s} {i} {x} h =
    h.one.found x ∙ ap Some (ap (λ (t : OpenSessions). get_or t.sessions i x) (sym h.is) ∙ sym h.here)

-- the faults of a call on it are its own
pub fault_here : {n : ℕ} {xs : List Session} {state : OpenSessions} {s i : ℕ} {x : Session} → IsHere n xs state s i x
    → (f : Session → Option SessionFault) → fault_at state s f ≡ f x
fault_here {n} {xs} {state} {s} {i} {x} h f = ap (λ o. fault_in s o f) (session_here h)

-- its change is the change of the session of that number
pub changed_here : {n : ℕ} {xs : List Session} {state : OpenSessions} {s i : ℕ} {x : Session} → IsHere n xs state s i x
    → (f : Session → Session) (new : Session)
    → new ≡ f x → sessions_of n (set xs i new) ≡ with_open_session state s f
changed_here {n} {xs} {state} {s} {i} {x} h f new e =
    subst (λ (t : OpenSessions). IsPlaced t s i → sessions_of n (set xs i new) ≡ with_open_session t s f) h.is
    (λ (placed : IsPlaced (sessions_of n xs) s i). ap (sessions_of n) (ap (set xs i) (e ∙ ap f h.here)
    ∙ placed.changed f x)) h.one

-- all numbers stay where the session's number does
pub numbers_here : {n : ℕ} {xs : List Session} {state : OpenSessions} {s i : ℕ} {x : Session} → IsHere n xs state s i x
    → (new : Session)
    → AreOpen n xs → new.number ≡ x.number → AreOpen n (set xs i new)
numbers_here {n} {xs} {state} {s} {i} {x} h new right e =
    subst (AreNumbers n)
    (sym (map-set_same (λ (y : Session). y.number) xs i new x (e ∙ ap (λ (y : Session). y.number) h.here))) right

-- a call that changes the session or leaves it keeps its number
pub number_of_either : {T : Type 0} (r : Result T SessionFault) (f : Session → Session)
    → ((x : Session) → (f x).number ≡ x.number) → (x new : Session)
    → OnOk r (new ≡ f x) → OnErr r (new ≡ x) → new.number ≡ x.number
number_of_either (Ok t) f keeps x new ok err = ap (λ (y : Session). y.number) ok ∙ keeps x
number_of_either (Err fault) f keeps x new ok err = ap (λ (y : Session). y.number) err

pub number_of_requester : (text : List ℕ) (x : Session) → (add_requester text x).number ≡ x.number
number_of_requester text x = by (is_named x.requesters text)
  where
    by : (t : Bool) → (cond t x (record x { requesters = x.requesters ++ normal_form text ∷ [] })).number ≡ x.number
    by true = refl
    by false = refl

pub number_of_change : (call : Call) (x : Session) → (call_change call x).number ≡ x.number
number_of_change (C.Auth text) x = number_of_requester text x
number_of_change call x = refl

-- a fault that is due
pub due-of : (b : Bool) (due : Option SessionFault) (fault : SessionFault) → due ≡ Some fault → IsDue b due fault
due-of true due fault e = inr e
due-of false due fault e = e

-- no session was started
pub numbers_none : AreNumbers 0 []
unfolding IsDistinct
numbers_none = record { few = omega arith; given = tt; different = tt }

-- the next number is a new one
pub numbers_more : (n : ℕ) (xs : List ℕ) → AreNumbers n xs → length xs < SESSIONS
    → AreNumbers (n + 1) (xs ++ (n + 1) ∷ [])
numbers_more n xs right room =
    let longer : length (xs ++ (n + 1) ∷ []) ≡ length xs + 1 = length-append xs ((n + 1) ∷ []) in
    record {
      few = omega arith;
      given = AllByRecursion-push (λ k. k ≤ n + 1) xs (n + 1)
          (AllByRecursion-weaker (λ k. k ≤ n) (λ k. k ≤ n + 1) (λ k h. omega (arith, h)) xs right.given) (omega arith);
      different = IsDistinct-push nat_eq xs (n + 1)
          (AllByRecursion-weaker (λ k. k ≤ n) (λ k. nat_eq k (n + 1) ≡ false) (next_is_new n) xs right.given)
          right.different;
    }

-- the others keep their numbers
pub numbers_fewer : (n : ℕ) (xs : List Session) (i : ℕ) → i < length xs → AreOpen n xs → AreOpen n (remove xs i)
numbers_fewer n xs i within right =
    let numbers : List ℕ = map (λ (y : Session). y.number) xs in
    let long : length numbers ≡ length xs = length-map xs (λ (y : Session). y.number) in
    let inside : i < length numbers = omega arith in
    let shorter : length (remove numbers i) + 1 ≡ length numbers = length-remove numbers i inside in
    let few : length numbers ≤ SESSIONS = right.few in
    subst (AreNumbers n) (sym (map-remove (λ (y : Session). y.number) xs i))
    (record {
      few = omega arith;
      given = AllByRecursion-remove (λ k. k ≤ n) numbers i right.given;
      different = IsDistinct-remove nat_eq numbers i right.different;
    })
