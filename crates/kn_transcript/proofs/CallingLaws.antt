-- Replies to calls of a session.
use Rattle.std.proofs.Common.{◌≡◌, ℕ, ◌≤◌, ◌<◌, ◌^◌, Bool, true, List, Option, Some, None, refl, sym, ap, ◌∙◌, arith}
use Rattle.std.proofs.Common.{inl, inr, subst}
use Rattle.std.specs.Prelude.{◌⊎◌, Result, IfOk, option_and_then, IsSomeAnd}
use Rattle.kn_history.specs.declared.update.Update.{Update}
use Rattle.kn_session.specs.declared.fault.SessionFault.{SessionFault}
use Rattle.kn_session.specs.declared.fault.CallFault.{CallFault}
use Rattle.kn_session.specs.declared.call.Applied.{Applied}
use Rattle.kn_session.specs.declared.call.Applied.TheVariants as A
use Rattle.kn_session.specs.Sessions.{Session, OpenSessions, session_in, fault_in}
use Rattle.kn_session.specs.Calls.{Call, call_fault_in, lacks_memory, Accepts, Refuses}
use Rattle.kn_reply.specs.declared.refusal.Refusal.{Refusal}
use Rattle.kn_reply.specs.Replies.{No, reply_text}
use Rattle.kn_reply_reader.specs.Texts.{HasText}
use Rattle.kn_daemon.specs.Shapes.{Calls}
use Rattle.kn_daemon.specs.Daemon.{DaemonConfig, State, session_of, own_refusal, reply_of_call}
use Rattle.kn_daemon.specs.CallFaults.{refusal_of_call_fault, reply_of_applied}
use Rattle.kn_daemon.proofs.Faults.{lacking-untold, call-refusal, call-reply}
use Rattle.kn_daemon.proofs.Answered.{is-there}
use Rattle.kn_transcript.specs.Judging.{HasRoom, IsBehind, Judges}
use Rattle.kn_transcript.proofs.ConfigChoices.{is_acceptance}
use Rattle.kn_transcript.proofs.DueReplies.{refused_ok, done_ok, told_by}

-- a connection with these sessions
abbrev pub state_with : OpenSessions → Bool → State
state_with sessions is_admin = record { started = sessions.started; sessions = sessions.sessions; is_admin = is_admin }

-- a session that isn't open
pub none_found : (s : ℕ) (found : Option Session) (fault : SessionFault)
    → fault_in s found (λ x. None) ≡ Some fault → found ≡ None
none_found s None fault e = refl
none_found s (Some session) fault e = absurd (cc e)

-- few private assertions were added to each session
pub private_few : (state : State) (s : ℕ) → HasRoom state
    → (x : Session) → session_of state s ≡ Some x → x.made < 2 ^ 31
private_few state s room x e = below x.made room.0 (2 ^ 31) (room.2.made s x e) room.1
  where
    below : (m n k : ℕ) → m ≤ n → n < k → m < k
    below m n k a b = omega arith

acceptance : (applied : Applied) → is_acceptance (reply_of_applied applied) ≡ true
acceptance A.Done = refl
acceptance (A.Added k) = refl

has_text : (applied : Applied) → HasText (reply_of_applied applied)
has_text A.Done = tt
has_text (A.Added k) = tt

module _ (past : List Update) (a b : OpenSessions) (is_admin : Bool) (s : ℕ) (call : Call)
    (left : List ℕ) {X E : Type 0}
    (result : Result X E) (view : X → Option (List ℕ)) where
  abbrev JudgedTo : OpenSessions → Type 0
  JudgedTo x = IfOk result
      (λ found. Judges past (state_with a is_admin) (Calls s call) left past (state_with x is_admin) (view found))

  pub call_done : (applied : Applied) → Accepts a b s call applied
      → IfOk result (λ found. IsBehind left (reply_text (reply_of_applied applied)) (view found)) → JudgedTo b
  call_done applied k behind =
      done_ok past (state_with a is_admin) (Calls s call) left view (reply_of_applied applied) (state_with b is_admin)
      (has_text applied) (acceptance applied) (λ g. accepted g) refl refl
      (is-there (λ x. reply_of_applied applied ≡ reply_of_call call x) (session_in a.sessions s) k.session k.found due)
      (ap (λ (x : OpenSessions). state_with x is_admin) k.makes)
      (λ g reply other does. subst (λ (o : Option Session). IsSomeAnd o (λ x. reply ≡ reply_of_call call x)) k.found
      does.answered ∙ sym due) result behind
    where
      due : reply_of_applied applied ≡ reply_of_call call k.session
      due = ap reply_of_applied k.gives ∙ sym (call-reply call k.session)

      accepted : (g : DaemonConfig) → own_refusal g (state_with a is_admin) (Calls s call) ≡ None
      accepted g =
          call-refusal g (state_with a is_admin) s call
          ∙ ap (λ (x : Option Session). option_and_then refusal_of_call_fault (call_fault_in s x call)) k.found
          ∙ ap (λ (f : Option CallFault). option_and_then refusal_of_call_fault f) k.no_fault

  pub call_refused : (fault : CallFault) (due : Refusal) → Refuses a b s call fault
      → Some due ≡ refusal_of_call_fault fault
      → IfOk result (λ found. IsBehind left (reply_text (No due)) (view found)) → JudgedTo b
  call_refused fault due k is behind =
      subst JudgedTo (sym k.same)
      (refused_ok past (state_with a is_admin) (Calls s call) left view due
      (λ g. call-refusal g (state_with a is_admin) s call ∙ refused k.why) result behind)
    where
      refused : (lacks_memory fault ≡ true) ⊎ (call_fault_in s (session_in a.sessions s) call ≡ Some fault)
          → option_and_then refusal_of_call_fault (call_fault_in s (session_in a.sessions s) call) ≡ Some due
      refused (inl memory) = absurd (let none = lacking-untold fault memory in cc (is, none))
      refused (inr why) = ap (λ (f : Option CallFault). option_and_then refusal_of_call_fault f) why ∙ sym is

-- the fault of a call, told as a refusal
pub call_untaken : (past : List Update) (a b : OpenSessions) (is_admin : Bool) (s : ℕ) (call : Call)
    (left : List ℕ) {X E : Type 0}
    (result : Result X E) (view : X → Option (List ℕ)) (fault : CallFault) (refusal : Option Refusal)
    → Refuses a b s call fault
    → refusal ≡ refusal_of_call_fault fault
    → IfOk result (λ found. (due : Refusal) × (refusal ≡ Some due) × IsBehind left (reply_text (No due)) (view found))
    → IfOk result (λ found. Judges past (state_with a is_admin) (Calls s call) left past (state_with b is_admin)
    (view found))
call_untaken past a b is_admin s call left result view fault refusal k told behind =
    told_by result view left refusal
    (λ found. Judges past (state_with a is_admin) (Calls s call) left past (state_with b is_admin) (view found)) behind
    (λ due r same is. call_refused past a b is_admin s call left r view fault due k (sym same ∙ told) is)
