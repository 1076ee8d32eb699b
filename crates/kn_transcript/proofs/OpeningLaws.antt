-- Replies to requests that start a session, or pin one.
use Rattle.std.proofs.Common.{◌≡◌, ℕ, ◌+◌, ◌≤◌, Bool, true, List, length, Option, Some, None, is_some, refl, sym, ap}
use Rattle.std.proofs.Common.{◌∙◌, arith, subst}
use Rattle.std.specs.Prelude.{Result, IfOk, IsSome, nat_le, is_none}
use Rattle.std.proofs.lemmas.Bool.Decides.{nat_tests}
use Rattle.kn_base.specs.declared.limits.TheConstants.{SESSIONS}
use Rattle.kn_history.specs.declared.update.Update.{Update}
use Rattle.kn_history.specs.Retained.{retained_version}
use Rattle.kn_session.specs.declared.fault.SessionFault.{SessionFault}
use Rattle.kn_session.specs.Sessions.{Session, OpenSessions, session_in, start_fault, fault_in, with_started, pin_at}
use Rattle.kn_session.specs.Connection.{with_open_session}
use Rattle.kn_reply.specs.declared.refusal.Refusal.TheVariants as R
use Rattle.kn_reply.specs.declared.refusal.LimitWord.TheVariants as W
use Rattle.kn_reply.specs.Replies.{Reply, Started, Number, PinnedAt, No, reply_text}
use Rattle.kn_daemon.specs.Shapes.{Look, Looks, ForOpen, ForPin, ForPinAt}
use Rattle.kn_daemon.specs.Daemon.{State, session_of, refuse_if, refusal_by, in_session, pinned_to}
use Rattle.kn_daemon.proofs.Faults.{session-refusal}
use Rattle.kn_transcript.specs.Followed.{history_behind}
use Rattle.kn_transcript.specs.Judging.{IsBehind, Judges}
use Rattle.kn_transcript.proofs.DueReplies.{refused_ok, placed_ok, done_ok}
use Rattle.kn_transcript.proofs.CallingLaws.{state_with, none_found}

-- a look at the history adds no update
look_behind : (past : List Update) (look : Look) (reply : Reply) → history_behind past (Looks look) reply ≡ past
look_behind past look reply = refl

module _ (past : List Update) (left : List ℕ) {X E : Type 0} (result : Result X E) (view : X
    → Option (List ℕ)) (now : State) where
  abbrev Keeps : Look → Type 0
  Keeps look = IfOk result (λ found. Judges past now (Looks look) left past now (view found))

  -- there are as many sessions as there may be
  pub open_full : (count : ℕ) → count ≡ length now.sessions → SESSIONS ≤ count
      → IfOk result (λ found. IsBehind left (reply_text (No (R.Limit W.Sessions count))) (view found)) → Keeps ForOpen
  open_full count same full behind =
      refused_ok past now (Looks ForOpen) left view (R.Limit W.Sessions count) (λ g. refuses) result behind
    where
      refuses : refusal_by (start_fault now.sessions) ≡ Some (R.Limit W.Sessions count)
      refuses =
          let test : nat_le SESSIONS (length now.sessions) ≡ true = grind (arith, nat_tests, same, full) in
          subst (λ (n : ℕ). refusal_by (start_fault now.sessions) ≡ Some (R.Limit W.Sessions n)) (sym same)
          (rw test refl)

  -- the session isn't open
  pub pin_unknown : (s : ℕ) (fault : SessionFault) → fault_in s (session_of now s) (λ x. None) ≡ Some fault
      → IfOk result (λ found. IsBehind left (reply_text (No R.Session)) (view found)) → Keeps (ForPin s)
  pin_unknown s fault why behind =
      let none : session_of now s ≡ None = none_found s (session_of now s) fault why in
      refused_ok past now (Looks (ForPin s)) left view R.Session (λ g. rw none refl) result behind

  pub pin_at_unknown : (s version : ℕ) (fault : SessionFault) → fault_in s (session_of now s) (λ x. None) ≡ Some fault
      → IfOk result (λ found. IsBehind left (reply_text (No R.Session)) (view found)) → Keeps (ForPinAt s version)
  pin_at_unknown s version fault why behind =
      let none : session_of now s ≡ None = none_found s (session_of now s) fault why in
      refused_ok past now (Looks (ForPinAt s version)) left view R.Session (λ g. rw none refl) result behind

  -- the version isn't retained
  pub pin_at_missing : (s version newest : ℕ) (session : Session) → session_of now s ≡ Some session
      → retained_version past version ≡ None → newest ≡ length past
      → IfOk result (λ found. IsBehind left (reply_text (No (R.Retained newest))) (view found))
      → Keeps (ForPinAt s version)
  pin_at_missing s version newest session found missing at behind =
      placed_ok past now (Looks (ForPinAt s version)) left view (R.Retained newest) (λ g. rw found refl)
      (ap (λ (o : Option (List Update)). refuse_if (is_none o) (R.Retained (length past)) None) missing
      ∙ ap (λ (n : ℕ). Some (R.Retained n)) (sym at))
      (λ g reply other does. never reply does.answered) result behind
    where
      never : (reply : Reply)
          → IsSome (retained_version (history_behind past (Looks (ForPinAt s version)) reply) version)
          × (reply ≡ PinnedAt version (length (history_behind past (Looks (ForPinAt s version)) reply))) → ⊥
      never reply is =
          let here = look_behind past (ForPinAt s version) reply in
          let some : IsSome (retained_version past version) =
          subst (λ (x : List Update). IsSome (retained_version x version)) here is.0 in
          absurd (let no = ap is_some missing in cc (some, no))

module _ (past : List Update) (left : List ℕ) {X E : Type 0} (result : Result X E) (view : X → Option (List ℕ))
    (a b : OpenSessions) (is_admin : Bool) where
  abbrev Changes : Look → Type 0
  Changes look = IfOk result
      (λ found. Judges past (state_with a is_admin) (Looks look) left past (state_with b is_admin) (view found))

  -- the session is open
  open_found : (s : ℕ) → fault_in s (session_in a.sessions s) (λ x. None) ≡ None
      → in_session (session_in a.sessions s) (λ x. None) ≡ None
  open_found s accepted = sym (session-refusal s (session_in a.sessions s) (λ x. None)) ∙ ap refusal_by accepted

  -- the session was started
  pub open_started : (s version : ℕ) (made : List Update) → made ≡ past → version ≡ length past
      → start_fault a.sessions ≡ None → s ≡ a.started + 1
      → b ≡ record { started = a.started + 1; sessions = with_started a.started a.sessions made }
      → IfOk result (λ found. IsBehind left (reply_text (Started s version)) (view found)) → Changes ForOpen
  open_started s version made seen at accepted number after behind =
      let started : List Update → State =
      λ u. state_with (record { started = a.started + 1; sessions = with_started a.started a.sessions u }) is_admin in
      done_ok past (state_with a is_admin) (Looks ForOpen) left view (Started s version) (state_with b is_admin) tt refl
      (λ g. ap refusal_by accepted) refl refl (rw (number, at) refl)
      (ap (λ (x : OpenSessions). state_with x is_admin) after ∙ ap started seen)
      (λ g reply other does. does.answered
      ∙ ap (λ (x : List Update). Started (a.started + 1) (length x)) (look_behind past ForOpen reply)
      ∙ rw (number, at) refl)
      result behind

  -- the session was pinned
  pub pin_done : (s version : ℕ) (made : List Update) → made ≡ past → version ≡ length past
      → fault_in s (session_in a.sessions s) (λ x. None) ≡ None → b ≡ with_open_session a s (pin_at made)
      → IfOk result (λ found. IsBehind left (reply_text (Number version)) (view found)) → Changes (ForPin s)
  pin_done s version made seen at accepted after behind =
      let pinned : List Update → State = λ u. state_with (with_open_session a s (pin_at u)) is_admin in
      done_ok past (state_with a is_admin) (Looks (ForPin s)) left view (Number version) (state_with b is_admin) tt
      refl
      (λ g. open_found s accepted) refl refl (rw at refl)
      (ap (λ (x : OpenSessions). state_with x is_admin) after ∙ ap pinned seen)
      (λ g reply other does. does.answered
      ∙ ap (λ (x : List Update). Number (length x)) (look_behind past (ForPin s) reply) ∙ rw at refl)
      result behind

  -- the session was pinned to the retained version
  pub pin_at_done : (s version newest : ℕ) (made : List Update) → retained_version past version ≡ Some made
      → newest ≡ length past
      → fault_in s (session_in a.sessions s) (λ x. None) ≡ None → b ≡ with_open_session a s (pin_at made)
      → IfOk result (λ found. IsBehind left (reply_text (PinnedAt version newest)) (view found))
      → Changes (ForPinAt s version)
  pin_at_done s version newest made retained at accepted after behind =
      done_ok past (state_with a is_admin) (Looks (ForPinAt s version)) left view (PinnedAt version newest)
      (state_with b is_admin)
      tt refl (λ g. open_found s accepted)
      (ap (λ (o : Option (List Update)). refuse_if (is_none o) (R.Retained (length past)) None) retained) refl
      (ap is_some retained, ap (PinnedAt version) at)
      (ap (λ (x : OpenSessions). state_with x is_admin) after ∙ ap (pinned_to (state_with a is_admin) s) (sym retained))
      (λ g reply other does. does.answered.1
      ∙ ap (λ (x : List Update). PinnedAt version (length x)) (look_behind past (ForPinAt s version) reply)
      ∙ ap (PinnedAt version) (sym at)) result behind

  -- the session isn't open, and nothing has changed
  pub pin_refused : (s : ℕ) (fault : SessionFault) → b ≡ a
      → fault_in s (session_in a.sessions s) (λ x. None) ≡ Some fault
      → IfOk result (λ found. IsBehind left (reply_text (No R.Session)) (view found)) → Changes (ForPin s)
  pin_refused s fault same why behind =
      subst (λ (x : OpenSessions). IfOk result (λ found.
      Judges past (state_with a is_admin) (Looks (ForPin s)) left past (state_with x is_admin) (view found)))
      (sym same)
      (pin_unknown past left result view (state_with a is_admin) s fault why behind)
