-- A reply to PIN tells the version that the session is then pinned to.
use Rattle.std.proofs.Common.{◌≡◌, ◌≤◌, ℕ, ◌+◌, Bool, true, false, cond, ◌&&◌, List, length, take, Option, Some, None}
use Rattle.std.proofs.Common.{option_map, refl, ap, ◌∙◌}
use Rattle.std.specs.Prelude.{IsSome, IsSomeAnd, nat_le, nat_lt}
use Rattle.std.proofs.lemmas.Bool.{leb-true}
use Rattle.kn_base.specs.declared.limits.TheConstants.{RETAINED_VERSIONS}
use Rattle.kn_history.specs.declared.update.Update.{Update}
use Rattle.kn_history.specs.Retained.{is_retained, retained_version}
use Rattle.kn_session.specs.Sessions.{Session, pin_at}
use Rattle.kn_session.proofs.StandingQueries.{found_here}
use Rattle.kn_reply.specs.Replies.{Number, PinnedAt}
use Rattle.kn_daemon.specs.Daemon.{State, session_of, in_session, pinned_to}
use Rattle.kn_daemon.specs.PermissionLaws.{PinIsReported, RetainedPinIsReported}

-- a session that isn't refused is open
pub was-open : (P : Session → Type 0) (o : Option Session) → in_session o (λ x. None) ≡ None
    → ((x : Session) → o ≡ Some x → P x) → IsSomeAnd o P
was-open P None e h = absurd (cc e)
was-open P (Some x) e h = h x refl

-- the session of a number that was pinned
pinned-here : (old new : State) (s : ℕ) (past : List Update) (x : Session)
    → new ≡ pinned_to old s (Some past) → session_of old s ≡ Some x → session_of new s ≡ Some (pin_at past x)
pinned-here old new s past x next found =
    ap (λ state. session_of state s) next
    ∙ found_here (pin_at past) (λ y. refl) old.sessions s
    ∙ ap (option_map (pin_at past)) found

kept-version : (past : List Update) (n : ℕ) → IsSome (retained_version past n)
    → retained_version past n ≡ Some (take n past)
kept-version past n = by (is_retained (length past) n)
  where
    by : (b : Bool) → IsSome (cond b (Some (take n past)) None) → cond b (Some (take n past)) None ≡ Some (take n past)
    by true is = refl
    by false is = absurd (cc is)

no-later : (past : List Update) (n : ℕ) → IsSome (retained_version past n) → n ≤ length past
no-later past n = by (nat_le n (length past)) refl (nat_lt (length past) (n + RETAINED_VERSIONS))
  where
    by : (a : Bool) → nat_le n (length past) ≡ a → (b : Bool) → IsSome (cond (a && b) (Some (take n past)) None)
        → n ≤ length past
    by true is b there = leb-true n (length past) is
    by false is b there = absurd (cc there)

pub pin-told : PinIsReported
pin-told g caller past old s version new p =
    let told : Number version ≡ Number (length past) = p.answered in (
      cc told,
      was-open (λ x. session_of new s ≡ Some (pin_at past x)) (session_of old s) p.accepted
          (λ x found. pinned-here old new s past x p.next found),
    )

pub retained-pin_told : RetainedPinIsReported
retained-pin_told g caller past old s n version newest new p =
    let there : IsSome (retained_version past n) = p.answered.0 in
    let told : PinnedAt version newest ≡ PinnedAt n (length past) = p.answered.1 in
    let next : new ≡ pinned_to old s (Some (take n past)) =
    p.next ∙ ap (pinned_to old s) (kept-version past n there) in (
      cc told,
      cc told,
      no-later past n there,
      was-open (λ x. session_of new s ≡ Some (pin_at (take n past) x)) (session_of old s) p.accepted
          (λ x found. pinned-here old new s (take n past) x next found),
    )
