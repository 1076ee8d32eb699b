-- Calls of a session.
use Rattle.std.proofs.Common.{◌≡◌, ℕ, ◌<◌, ◌≤◌, ◌^◌, Bool, true, false, refl, sym, ap, ◌∙◌, arith}
use Rattle.std.proofs.Common.{Option, Some, None, subst, inl, inr}
use Rattle.std.specs.Prelude.{◌⊎◌, option_and_then, IsSomeAnd}
use Rattle.kn_outside.specs.Seen.{LinkSeen}
use Rattle.kn_outside.specs.Printing.{Prints}
use Rattle.kn_session.specs.declared.fault.SessionFault.{SessionFault}
use Rattle.kn_session.specs.declared.fault.CallFault.{CallFault}
use Rattle.kn_session.specs.declared.call.Applied.{Applied}
use Rattle.kn_session.specs.declared.call.Applied.TheVariants as A
use Rattle.kn_session.specs.Sessions.{Session, OpenSessions, session_in, fault_in}
use Rattle.kn_session.specs.Calls.{Call, call_fault_in, call_answer, lacks_memory, with_call, Accepts, Refuses}
use Rattle.kn_reply.specs.declared.refusal.Refusal.{Refusal}
use Rattle.kn_reply.specs.Replies.{reply_text}
use Rattle.kn_daemon.specs.Shapes.{Calls}
use Rattle.kn_daemon.specs.Daemon.{DaemonConfig, State, session_of, own_refusal, reply_of_call}
use Rattle.kn_daemon.specs.CallFaults.{refusal_of_call_fault, reply_of_applied}
use Rattle.kn_daemon.specs.Linearized.{update_by, is_placed}
use Rattle.kn_daemon.proofs.Faults.{untold-lacks, lacking-untold, call-refusal, call-reply}
use Rattle.kn_serve.specs.Handling.{HasRoom, Tells, refused_reply}
use Rattle.kn_serve.proofs.HandlingLaws.{is_acceptance, told_refused, told_memory, told_done}

-- a connection with these sessions
abbrev pub state_with : OpenSessions → Bool → State
state_with sessions is_admin = record { started = sessions.started; sessions = sessions.sessions; is_admin = is_admin }

-- a session that isn't open
pub none_found : (s : ℕ) (found : Option Session) (fault : SessionFault) →
    fault_in s found (λ x. None) ≡ Some fault → found ≡ None
none_found s None fault e = refl
none_found s (Some session) fault e = absurd (cc e)

-- few private assertions were added to each session
pub private_few : (state : State) (s : ℕ) → HasRoom state →
    (x : Session) → session_of state s ≡ Some x → x.made < 2 ^ 31
private_few state s room x e = below x.made room.0 (2 ^ 31) (room.2.made s x e) room.1
  where
    below : (m n k : ℕ) → m ≤ n → n < k → m < k
    below m n k a b = omega arith

acceptance : (applied : Applied) → is_acceptance (reply_of_applied applied) ≡ true
acceptance A.Done = refl
acceptance (A.Added k) = refl

-- such a reply is the same wherever it stands
no_update : (applied : Applied) (s caller : ℕ) (call : Call) →
    update_by caller (Calls s call) (reply_of_applied applied) ≡ None
no_update A.Done s caller call = refl
no_update (A.Added k) s caller call = refl

unplaced : (applied : Applied) (s : ℕ) (call : Call) → is_placed (Calls s call) (reply_of_applied applied) ≡ false
unplaced A.Done s call = refl
unplaced (A.Added k) s call = refl

module _ (g : DaemonConfig) (a b : OpenSessions) (is_admin : Bool) (s : ℕ) (call : Call) (whole : Bool)
    (l l' : LinkSeen) where
  abbrev TellsAfter : OpenSessions → Type 0
  TellsAfter x = Tells g (Calls s call) whole (state_with a is_admin) (state_with x is_admin) l l'

  pub call_done : (applied : Applied) → Accepts a b s call applied →
      Prints whole (reply_text (reply_of_applied applied)) l l' → TellsAfter b
  call_done applied k prints =
      subst TellsAfter (sym k.makes)
      (told_done g (Calls s call) whole (state_with a is_admin) l l' (state_with (with_call a s call) is_admin)
      (reply_of_applied applied) (acceptance applied) accepted
      (λ caller past. answered (session_in a.sessions s) k.found) (λ past. refl)
      (λ caller. no_update applied s caller call) (unplaced applied s call) prints)
    where
      accepted : own_refusal g (state_with a is_admin) (Calls s call) ≡ None
      accepted =
          call-refusal g (state_with a is_admin) s call
          ∙ ap (λ (x : Option Session). option_and_then refusal_of_call_fault (call_fault_in s x call)) k.found
          ∙ ap (λ (f : Option CallFault). option_and_then refusal_of_call_fault f) k.no_fault

      answered : (found : Option Session) → found ≡ Some k.session →
          IsSomeAnd found (λ session. reply_of_applied applied ≡ reply_of_call call session)
      answered None e = absurd (cc (e))
      answered (Some session) e =
          let same : session ≡ k.session = cc in
          ap reply_of_applied (k.gives ∙ ap (call_answer call) (sym same)) ∙ sym (call-reply call session)

  pub call_refused : (fault : CallFault) (told : Option Refusal) → Refuses a b s call fault →
      told ≡ refusal_of_call_fault fault → Prints whole (reply_text (refused_reply told)) l l' → TellsAfter b
  call_refused fault told k is prints = subst TellsAfter (sym k.same) (by told is prints)
    where
      due : (refusal : Refusal) → Some refusal ≡ refusal_of_call_fault fault →
          own_refusal g (state_with a is_admin) (Calls s call) ≡ Some refusal
      due refusal e = from k.why
        where
          from : (lacks_memory fault ≡ true) ⊎ (call_fault_in s (session_in a.sessions s) call ≡ Some fault) →
              own_refusal g (state_with a is_admin) (Calls s call) ≡ Some refusal
          from (inl memory) = absurd (let none = lacking-untold fault memory in cc (e, none))
          from (inr why) =
              call-refusal g (state_with a is_admin) s call
              ∙ ap (λ (f : Option CallFault). option_and_then refusal_of_call_fault f) why
              ∙ sym e

      by : (o : Option Refusal) → o ≡ refusal_of_call_fault fault →
          Prints whole (reply_text (refused_reply o)) l l' → TellsAfter a
      by None e p =
          told_memory g (Calls s call) whole (state_with a is_admin) l l'
          (k.memory (untold-lacks fault (sym e))) p
      by (Some refusal) e p = told_refused g (Calls s call) whole (state_with a is_admin) l l' refusal (due refusal e) p
