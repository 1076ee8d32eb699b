-- The standing query of a session, where sessions change.
use Rattle.std.proofs.Common.{◌≡◌, ◌≢◌, ℕ, Bool, true, false, cond, not, ◌==◌, List, [], ◌∷◌, ◌++◌, Option, Some, None}
use Rattle.std.proofs.Common.{option_map, filter, refl, sym, ap, ◌∙◌, eqb-true}
use Rattle.std.specs.Prelude.{option_and_then}
use Rattle.kn_history.specs.declared.update.Update.{Update}
use Rattle.kn_session.specs.Sessions.{StandingQuery, Session, session_in, with_changed, without_session, pin_at}
use Rattle.kn_session.specs.Sessions.{query_at, move_standing}
use Rattle.kn_session.specs.Calls.{Call, call_change, is_named}
use Rattle.kn_session.specs.Calls as C
use Rattle.kn_principal.specs.Principals.{normal_form}
use Rattle.kn_session.specs.Laws.{standing_in, CallsKeepStanding, OthersKeepStanding, PinsKeepStanding}
use Rattle.kn_session.specs.Laws.{MovesVersionAlone}
use Rattle.kn_session.proofs.Calls.{number_of_change}

-- a number that is another one
other_number : (n t s : ℕ) → t ≢ s → (n == t) ≡ true → (n == s) ≡ false
other_number n t s other here = by (n == s) refl
  where
    by : (b : Bool) → (n == s) ≡ b → (n == s) ≡ false
    by true same = absurd (other (sym (eqb-true n t here) ∙ eqb-true n s same))
    by false e = e

standing_of : Option Session → Option StandingQuery
standing_of found = option_and_then (λ (x : Session). x.standing) found

-- a change that keeps the numbers of sessions
module _ (f : Session → Session) (keeps : (x : Session) → (f x).number ≡ x.number) where
  number_of : (b : Bool) (x : Session) → (cond b (f x) x).number ≡ x.number
  number_of true x = keeps x
  number_of false x = refl

  -- the session of a number, where one was changed
  found : (sessions : List Session) (s t : ℕ)
      → session_in (with_changed sessions t f) s ≡ option_map (λ (x : Session). cond (x.number == t) (f x) x)
      (session_in sessions s)
  found [] s t = refl
  found (x ∷ xs) s t =
      ap (λ (n : ℕ). cond (n == s) (Some (cond (x.number == t) (f x) x)) (session_in (with_changed xs t f) s))
      (number_of (x.number == t) x)
      ∙ by (x.number == s) (found xs s t)
    where
      by : (b : Bool) → session_in (with_changed xs t f) s ≡ option_map (λ (y : Session). cond (y.number == t) (f y) y)
          (session_in xs s)
          → cond b (Some (cond (x.number == t) (f x) x)) (session_in (with_changed xs t f) s)
          ≡ option_map (λ (y : Session). cond (y.number == t) (f y) y) (cond b (Some x) (session_in xs s))
      by true rest = refl
      by false rest = rest

  -- the changed session itself
  pub found_here : (sessions : List Session) (s : ℕ)
      → session_in (with_changed sessions s f) s ≡ option_map f (session_in sessions s)
  found_here [] s = refl
  found_here (x ∷ xs) s =
      ap (λ (n : ℕ). cond (n == s) (Some (cond (x.number == s) (f x) x)) (session_in (with_changed xs s f) s))
      (number_of (x.number == s) x)
      ∙ by (x.number == s) (found_here xs s)
    where
      by : (b : Bool) → session_in (with_changed xs s f) s ≡ option_map f (session_in xs s)
          → cond b (Some (cond b (f x) x)) (session_in (with_changed xs s f) s)
          ≡ option_map f (cond b (Some x) (session_in xs s))
      by true rest = refl
      by false rest = rest

  -- another session
  pub found_other : (sessions : List Session) (s t : ℕ) → t ≢ s
      → session_in (with_changed sessions t f) s ≡ session_in sessions s
  found_other [] s t other = refl
  found_other (x ∷ xs) s t other =
      ap (λ (n : ℕ). cond (n == s) (Some (cond (x.number == t) (f x) x)) (session_in (with_changed xs t f) s))
      (number_of (x.number == t) x)
      ∙ by (x.number == t) refl (found_other xs s t other)
    where
      by : (b : Bool) → (x.number == t) ≡ b → session_in (with_changed xs t f) s ≡ session_in xs s
          → cond (x.number == s) (Some (cond b (f x) x)) (session_in (with_changed xs t f) s)
          ≡ cond (x.number == s) (Some x) (session_in xs s)
      by true here rest =
          let no : (x.number == s) ≡ false = other_number x.number t s other here in
          rw no rest
      by false here rest = ap (cond (x.number == s) (Some x)) rest

  -- a change that keeps the standing query
  module _ (stays : (x : Session) → (f x).standing ≡ x.standing) where
    standing_of_changed : (t : ℕ) (o : Option Session)
        → standing_of (option_map (λ (x : Session). cond (x.number == t) (f x) x) o) ≡ standing_of o
    unfolding standing_of
    standing_of_changed t None = refl
    standing_of_changed t (Some x) = by (x.number == t)
      where
        by : (b : Bool) → (cond b (f x) x).standing ≡ x.standing
        by true = stays x
        by false = refl

    kept : (sessions : List Session) (s t : ℕ) → standing_in (with_changed sessions t f) s ≡ standing_in sessions s
    unfolding standing_of
    kept sessions s t = ap standing_of (found sessions s t) ∙ standing_of_changed t (session_in sessions s)

other_left : (sessions : List Session) (s t : ℕ) → t ≢ s
    → session_in (without_session sessions t) s ≡ session_in sessions s
other_left [] s t other = refl
other_left (x ∷ xs) s t other = by (x.number == t) refl (other_left xs s t other)
  where
    by : (b : Bool) → (x.number == t) ≡ b → session_in (without_session xs t) s ≡ session_in xs s
        → session_in (cond (not b) (x ∷ without_session xs t) (without_session xs t)) s
        ≡ cond (x.number == s) (Some x) (session_in xs s)
    by true here rest =
        let no : (x.number == s) ≡ false = other_number x.number t s other here in
        rw no rest
    by false here rest = ap (cond (x.number == s) (Some x)) rest

standing_of_requester : (text : List ℕ) (x : Session) → (call_change (C.Auth text) x).standing ≡ x.standing
standing_of_requester text x = by (is_named x.requesters text)
  where
    by : (b : Bool) → (cond b x (record x { requesters = x.requesters ++ normal_form text ∷ [] })).standing ≡ x.standing
    by true = refl
    by false = refl

pub calls_keep_standing : CallsKeepStanding
calls_keep_standing sessions s t C.Close goes_on stays = absurd (goes_on refl)
calls_keep_standing sessions s t C.Unwatch goes_on stays = absurd (stays refl)
calls_keep_standing sessions s t (C.Auth text) goes_on stays =
    kept (call_change (C.Auth text)) (number_of_change (C.Auth text)) (standing_of_requester text) sessions s t
calls_keep_standing sessions s t call goes_on stays =
    kept (call_change call) (number_of_change call) (λ x. refl) sessions s t

pub others_keep_standing : OthersKeepStanding
unfolding standing_of
others_keep_standing sessions s t C.Close other = ap standing_of (other_left sessions s t other)
others_keep_standing sessions s t call other =
    ap standing_of (found_other (call_change call) (number_of_change call) sessions s t other)

pub pins_keep_standing : PinsKeepStanding
pins_keep_standing sessions s t past = kept (pin_at past) (λ x. refl) (λ x. refl) sessions s t

pub moves_version_alone : MovesVersionAlone
unfolding standing_of
moves_version_alone sessions s past = ap standing_of (found_here (move_standing past) (λ x. refl) sessions s)
    ∙ by (session_in sessions s)
  where
    by : (o : Option Session)
        → standing_of (option_map (move_standing past) o) ≡ option_map (query_at past) (standing_of o)
    by None = refl
    by (Some x) = refl
