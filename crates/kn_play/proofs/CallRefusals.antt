-- A call of a session that is accepted or refused.
use Rattle.std.proofs.Common.{◌≡◌, ◌∙◌, ◌⊎◌, inl, inr, ℕ, true, false, Option, Some, None, List, refl, sym, ap}
use Rattle.std.specs.Prelude.{option_and_then, is_some}
use Rattle.std.specs.Option.{option_map_or}
use Rattle.kn_history.specs.declared.update.Update.{Update}
use Rattle.kn_session.specs.declared.call.Applied.{Applied}
use Rattle.kn_session.specs.declared.fault.CallFault.{CallFault}
use Rattle.kn_session.specs.Sessions.{OpenSessions, session_in}
use Rattle.kn_session.specs.Calls.{Call, call_fault_in, lacks_memory, Accepts, Refuses}
use Rattle.kn_reply.specs.declared.refusal.Refusal.{Refusal}
use Rattle.kn_daemon.specs.Shapes.{Calls}
use Rattle.kn_daemon.specs.Daemon.{State, state_after}
use Rattle.kn_daemon.specs.CallFaults.{refusal_of_call_fault}
use Rattle.kn_daemon.specs.Played.{no_config}
use Rattle.kn_daemon.proofs.Faults.{fault-told, call-refusal}
use Rattle.kn_play.specs.Playing.{state_of_sessions, after_shape}

-- a refusal changes nothing
kept : (refusal : Option Refusal) (old new : State) → is_some refusal ≡ true
    → old ≡ option_map_or (λ r. old) refusal new
kept None old new e = cc
kept (Some refusal) old new e = refl

-- what is left where this refuses a call
after : List Update → OpenSessions → ℕ → Call → Option CallFault → State
after history sessions s call fault =
    option_map_or (λ refusal. state_of_sessions sessions) (option_and_then refusal_of_call_fault fault)
    (state_after history (state_of_sessions sessions) (Calls s call))

-- a call is applied where no fault refuses it
applied-after : (history : List Update) (sessions : OpenSessions) (s : ℕ) (call : Call)
    → after_shape history sessions (Calls s call)
    ≡ after history sessions s call (call_fault_in s (session_in sessions.sessions s) call)
unfolding after
applied-after history sessions s call =
    ap (λ refusal. option_map_or (λ r. state_of_sessions sessions) refusal
    (state_after history (state_of_sessions sessions) (Calls s call)))
    (call-refusal no_config (state_of_sessions sessions) s call)

pub accepted : (history : List Update) (old new : OpenSessions) (s : ℕ) (call : Call) (gives : Applied)
    → Accepts old new s call gives → state_of_sessions new ≡ after_shape history old (Calls s call)
unfolding after
accepted history old new s call gives accepts =
    ap state_of_sessions accepts.makes
    ∙ sym (applied-after history old s call
    ∙ ap (after history old s call) (ap (λ session. call_fault_in s session call) accepts.found ∙ accepts.no_fault))

pub refused : (history : List Update) (old new : OpenSessions) (s : ℕ) (call : Call) (fault : CallFault)
    → Refuses old new s call fault → lacks_memory fault ≡ false
    → state_of_sessions new ≡ after_shape history old (Calls s call)
unfolding after
refused history old new s call fault refuses memory =
    ap state_of_sessions refuses.same ∙ by refuses.why ∙ sym (applied-after history old s call)
  where
    by : (lacks_memory fault ≡ true) ⊎ (call_fault_in s (session_in old.sessions s) call ≡ Some fault)
        → state_of_sessions old ≡ after history old s call (call_fault_in s (session_in old.sessions s) call)
    by (inl lacks) = cc
    by (inr why) =
        kept (refusal_of_call_fault fault) (state_of_sessions old)
        (state_after history (state_of_sessions old) (Calls s call))
        (fault-told fault memory)
        ∙ sym (ap (after history old s call) why)
