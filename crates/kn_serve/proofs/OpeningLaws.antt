-- Opening a session, and pinning one to the newest version or to a retained one.
use Rattle.std.proofs.Common.{◌≡◌, ℕ, ◌+◌, ◌≤◌, ◌<◌, Bool, true, false, List, length, refl, ap, ◌∙◌, sym, arith}
use Rattle.std.proofs.Common.{Option, Some, None, is_some, subst}
use Rattle.std.specs.Prelude.{nat_le, is_none}
use Rattle.std.proofs.lemmas.Bool.Decides.{nat_tests}
use Rattle.kn_base.specs.declared.limits.TheConstants.{SESSIONS}
use Rattle.kn_history.specs.declared.update.Update.{Update}
use Rattle.kn_history.specs.Retained.{retained_version}
use Rattle.kn_outside.specs.Seen.{LinkSeen}
use Rattle.kn_outside.specs.Printing.{Prints}
use Rattle.kn_session.specs.declared.fault.SessionFault.{SessionFault}
use Rattle.kn_session.specs.Sessions.{Session, OpenSessions, session_in, start_fault, fault_in, with_started, pin_at}
use Rattle.kn_session.specs.Connection.{with_open_session}
use Rattle.kn_reply.specs.declared.refusal.Refusal.{Refusal}
use Rattle.kn_reply.specs.declared.refusal.Refusal.TheVariants as R
use Rattle.kn_reply.specs.declared.refusal.LimitWord.TheVariants as W
use Rattle.kn_reply.specs.Replies.{Started, Number, PinnedAt, No, NoMemory, reply_text}
use Rattle.kn_daemon.specs.Shapes.{Shape, Looks, ForOpen, ForPin, ForPinAt}
use Rattle.kn_daemon.specs.Daemon.{DaemonConfig, State, session_of, own_refusal, placed_refusal, refuse_if, pinned_to}
use Rattle.kn_daemon.specs.Daemon.{refusal_by, in_session}
use Rattle.kn_daemon.proofs.Faults.{session-refusal}
use Rattle.kn_registry.specs.declared.answer.PinFault.{PinFault}
use Rattle.kn_registry.specs.declared.answer.PinFault.TheVariants as P
use Rattle.kn_registry.specs.Passes.{PassSeen, Looks as PassLooks, Stays, RefusesVersion}
use Rattle.kn_serve.specs.Handling.{in_state, Handles, Tells, refusal_of_version, refused_reply}
use Rattle.kn_serve.proofs.HandlingLaws.{told_refused, looked_handled, lacking_handled, unserved_handled}
use Rattle.kn_serve.proofs.HandlingLaws.{refused_handled}
use Rattle.kn_serve.proofs.CallingLaws.{state_with, none_found}

abbrev opens : Shape
opens = Looks ForOpen

module _ (g : DaemonConfig) (whole : Bool) (l l' : LinkSeen) (now : State) where
  -- there are as many sessions as there may be
  pub open_full : (count : ℕ) → count ≡ length now.sessions → SESSIONS ≤ count →
      Prints whole (reply_text (No (R.Limit W.Sessions count))) l l' → Tells g opens whole now now l l'
  open_full count same full prints =
      let test : nat_le SESSIONS (length now.sessions) ≡ true = grind (arith, nat_tests, same, full) in
      told_refused g opens whole now l l' (R.Limit W.Sessions (length now.sessions)) (rw test refl)
      (subst (λ (n : ℕ). Prints whole (reply_text (No (R.Limit W.Sessions n))) l l') same prints)

-- there are fewer
open_room : (g : DaemonConfig) (now : State) (count : ℕ) → count ≡ length now.sessions → count < SESSIONS →
    own_refusal g now opens ≡ None
open_room g now count same few =
    let test : nat_le SESSIONS (length now.sessions) ≡ false = grind (arith, nat_tests, same, few) in
    rw test refl

-- a session that has no fault is refused nothing
open_unrefused : (s : ℕ) (found : Option Session) → fault_in s found (λ x. None) ≡ None →
    in_session found (λ x. None) ≡ None
open_unrefused s found accepted = sym (session-refusal s found (λ x. None)) ∙ ap refusal_by accepted

-- Where the pass moved. The state stays as it is.
module _ (g : DaemonConfig) (whole : Bool) (v w : PassSeen) (l l' : LinkSeen) (now : State) where
  abbrev Keeps : Shape → Type 0
  Keeps shape = Handles g shape whole (in_state now v l) (in_state now w l')

  -- out of memory for the version
  pub open_unpinned : (count : ℕ) → count ≡ length now.sessions → count < SESSIONS → Stays v w →
      Prints whole (reply_text NoMemory) l l' → Keeps opens
  open_unpinned count same few stays prints =
      lacking_handled g opens whole (in_state now v l) (in_state now w l') refl stays (open_room g now count same few)
      refl prints

  pub pin_memory : (s : ℕ) (session : Session) → session_of now s ≡ Some session → Stays v w →
      Prints whole (reply_text NoMemory) l l' → Keeps (Looks (ForPin s))
  pin_memory s session found stays prints =
      lacking_handled g (Looks (ForPin s)) whole (in_state now v l) (in_state now w l') refl stays (rw found refl)
      refl prints

  -- the version isn't retained, or memory ran out for it
  pub pin_at_refused : (s version : ℕ) (session : Session) (fault : PinFault) (told : Option Refusal) →
      session_of now s ≡ Some session → RefusesVersion v w version fault → told ≡ refusal_of_version fault →
      Prints whole (reply_text (refused_reply told)) l l' → Keeps (Looks (ForPinAt s version))
  pin_at_refused s version session fault told found refused is prints =
      by fault refused (subst (λ (o : Option Refusal). Prints whole (reply_text (refused_reply o)) l l') is prints)
    where
      by : (f : PinFault) → RefusesVersion v w version f →
          Prints whole (reply_text (refused_reply (refusal_of_version f))) l l' → Keeps (Looks (ForPinAt s version))
      by P.NoMemory stays p =
          lacking_handled g (Looks (ForPinAt s version)) whole (in_state now v l) (in_state now w l') refl stays
          (rw found refl) refl p
      by (P.Missing newest) m p =
          let due : Refusal = R.Retained (length w.seen) in
          let placed : placed_refusal w.seen (Looks (ForPinAt s version)) ≡ Some due =
          ap (λ (o : Option (List Update)). refuse_if (is_none o) due None) m.missing in
          refused_handled g (Looks (ForPinAt s version)) whole (in_state now v l) (in_state now w l') due refl
          m.looks (rw found refl) placed
          (subst (λ (k : ℕ). Prints whole (reply_text (No (R.Retained k))) l l') m.newest_is p)

-- Where the sessions may have changed.
module _ (g : DaemonConfig) (whole : Bool) (v w : PassSeen) (l l' : LinkSeen) (a b : OpenSessions) (is_admin : Bool)
  where
    abbrev old : State
    old = state_with a is_admin

    abbrev new : State
    new = state_with b is_admin

    abbrev Changes : Shape → Type 0
    Changes shape = Handles g shape whole (in_state old v l) (in_state new w l')

    -- out of memory for the session
    pub open_unstarted : (count : ℕ) → count ≡ length a.sessions → count < SESSIONS → PassLooks v w → b ≡ a →
        Prints whole (reply_text NoMemory) l l' → Changes opens
    open_unstarted count size few looks same prints =
        unserved_handled g opens whole (in_state old v l) (in_state new w l')
        (ap (λ (x : OpenSessions). state_with x is_admin) same) looks (open_room g old count size few) refl prints

    -- the session was started
    pub open_started : (s version : ℕ) (made : List Update) → PassLooks v w → made ≡ w.seen → version ≡ length made →
        start_fault a.sessions ≡ None → s ≡ a.started + 1 →
        b ≡ record { started = a.started + 1; sessions = with_started a.started a.sessions made } →
        Prints whole (reply_text (Started s version)) l l' → Changes opens
    open_started s version made looks seen at accepted number after prints =
        let started : List Update → State =
        λ u. state_with (record { started = a.started + 1; sessions = with_started a.started a.sessions u })
        is_admin in
        looked_handled g opens whole (in_state old v l) (in_state new w l') (Started s version) looks
        (ap refusal_by accepted) refl
        (record {
          accepted = ap refusal_by accepted;
          answered = rw (number, at, seen) refl;
          next = ap (λ (x : OpenSessions). state_with x is_admin) after ∙ ap started seen;
        }) prints

    -- the session was pinned
    pub pin_done : (s version : ℕ) (made : List Update) → PassLooks v w → made ≡ w.seen → version ≡ length made →
        fault_in s (session_in a.sessions s) (λ x. None) ≡ None → b ≡ with_open_session a s (pin_at made) →
        Prints whole (reply_text (Number version)) l l' → Changes (Looks (ForPin s))
    pin_done s version made looks seen at accepted after prints =
        let pinned : List Update → State = λ u. state_with (with_open_session a s (pin_at u)) is_admin in
        let own = open_unrefused s (session_in a.sessions s) accepted in
        looked_handled g (Looks (ForPin s)) whole (in_state old v l) (in_state new w l') (Number version) looks own refl
        (record {
          accepted = own;
          answered = rw (at, seen) refl;
          next = ap (λ (x : OpenSessions). state_with x is_admin) after ∙ ap pinned seen;
        }) prints

    -- the session was pinned to the retained version
    pub pin_at_done : (s version newest : ℕ) (made : List Update) → PassLooks v w →
        retained_version w.seen version ≡ Some made → newest ≡ length w.seen →
        fault_in s (session_in a.sessions s) (λ x. None) ≡ None → b ≡ with_open_session a s (pin_at made) →
        Prints whole (reply_text (PinnedAt version newest)) l l' → Changes (Looks (ForPinAt s version))
    pin_at_done s version newest made looks retained at accepted after prints =
        let own = open_unrefused s (session_in a.sessions s) accepted in
        looked_handled g (Looks (ForPinAt s version)) whole (in_state old v l) (in_state new w l')
        (PinnedAt version newest) looks own refl
        (record {
          accepted = own;
          answered = (ap is_some retained, ap (PinnedAt version) at);
          next = ap (λ (x : OpenSessions). state_with x is_admin) after ∙ ap (pinned_to old s) (sym retained);
        }) prints

-- Where the session isn't open.
module _ (g : DaemonConfig) (whole : Bool) (l l' : LinkSeen) (now : State) (s : ℕ) (fault : SessionFault)
    (why : fault_in s (session_of now s) (λ x. None) ≡ Some fault) where
  pub pin_unknown : Prints whole (reply_text (No R.Session)) l l' → Tells g (Looks (ForPin s)) whole now now l l'
  pin_unknown prints =
      let none : session_of now s ≡ None = none_found s (session_of now s) fault why in
      told_refused g (Looks (ForPin s)) whole now l l' R.Session (rw none refl) prints

  pub pin_at_unknown : (version : ℕ) → Prints whole (reply_text (No R.Session)) l l' →
      Tells g (Looks (ForPinAt s version)) whole now now l l'
  pin_at_unknown version prints =
      let none : session_of now s ≡ None = none_found s (session_of now s) fault why in
      told_refused g (Looks (ForPinAt s version)) whole now l l' R.Session (rw none refl) prints
