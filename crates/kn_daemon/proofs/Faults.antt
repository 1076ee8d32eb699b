-- The fault of a call is a refusal, unless it means out of memory.
use Rattle.std.proofs.Common.{◌≡◌, ℕ, true, false, Option, Some, None, Result, Ok, Err, refl}
use Rattle.std.specs.Prelude.{option_map, option_and_then, is_none, is_some}
use Rattle.kn_trees.specs.declared.assertion.Assertion.{Assertion}
use Rattle.kn_assert.specs.Reading.{reading_of}
use Rattle.kn_fields.specs.declared.fault.ReadFault.{ReadFault}
use Rattle.kn_fields.specs.Numbers.{fault_number, fault_place}
use Rattle.kn_session.specs.declared.fault.CallFault.{CallFault}
use Rattle.kn_session.specs.declared.fault.CallFault.TheVariants as T
use Rattle.kn_session.specs.declared.fault.SessionFault.{SessionFault}
use Rattle.kn_session.specs.declared.fault.SessionFault.TheVariants as S
use Rattle.kn_session.specs.Sessions.{Session, fault_in}
use Rattle.kn_session.specs.Calls.{Call, lacks_memory, text_fault, own_fault, private_fault, session_fault}
use Rattle.kn_session.specs.Calls.{call_fault, call_fault_in, call_answer}
use Rattle.kn_session.specs.Calls as C
use Rattle.kn_reply.specs.declared.refusal.Refusal.TheVariants as R
use Rattle.kn_daemon.specs.Shapes.{Calls}
use Rattle.kn_daemon.specs.Daemon.{DaemonConfig, State, session_of, refusal_by, refusal_at_reading, in_session}
use Rattle.kn_daemon.specs.Daemon.{refusal_of_call, own_refusal, reply_of_call}
use Rattle.kn_daemon.specs.CallFaults.{refusal_of_call_fault, reply_of_applied}

-- a fault that doesn't mean out of memory is a refusal
pub fault-told : (fault : CallFault) → lacks_memory fault ≡ false → is_some (refusal_of_call_fault fault) ≡ true
fault-told (T.Text fault) e = by (fault_number fault) e
  where
    by : (number : Option ℕ) → is_none number ≡ false
        → is_some (option_map (λ n. R.Read n (fault_place fault)) number) ≡ true
    by None e = cc
    by (Some n) e = refl
fault-told (T.Session S.NoMemory) e = cc
fault-told (T.Session fault) e = refl

-- and one that is no refusal means out of memory
pub untold-lacks : (fault : CallFault) → refusal_of_call_fault fault ≡ None → lacks_memory fault ≡ true
untold-lacks (T.Text fault) e = by (fault_number fault) e
  where
    by : (number : Option ℕ) → option_map (λ n. R.Read n (fault_place fault)) number ≡ None → is_none number ≡ true
    by None e = refl
    by (Some n) e = absurd (cc (e))
untold-lacks (T.Session S.NoMemory) e = refl
untold-lacks (T.Session fault) e = absurd (cc (e))

-- one that means out of memory is no refusal
pub lacking-untold : (fault : CallFault) → lacks_memory fault ≡ true → refusal_of_call_fault fault ≡ None
lacking-untold (T.Text fault) e = by (fault_number fault) e
  where
    by : (number : Option ℕ) → is_none number ≡ true → option_map (λ n. R.Read n (fault_place fault)) number ≡ None
    by None e = refl
    by (Some n) e = absurd (cc (e))
lacking-untold (T.Session S.NoMemory) e = refl
lacking-untold (T.Session fault) e = absurd (cc (e))

-- The definitions of the daemon don't speak of a call's faults and results: they say of each call what refuses it, and
-- its reply.

fault-by : (fault : Option SessionFault) → refusal_by fault ≡ option_and_then refusal_of_call_fault (own_fault fault)
fault-by None = refl
fault-by (Some fault) = refl

reading-by : (reading : Result Assertion ReadFault) (fault : Assertion → Option SessionFault)
    → refusal_at_reading R.Read reading (λ a. refusal_by (fault a))
    ≡ option_and_then refusal_of_call_fault (text_fault reading (λ a. own_fault (fault a)))
reading-by (Ok assertion) fault = fault-by (fault assertion)
reading-by (Err fault) next = refl

call-by : (call : Call) (x : Session)
    → refusal_of_call call x ≡ option_and_then refusal_of_call_fault (call_fault call x)
call-by (C.Assert text) x = reading-by (reading_of text) (λ assertion. private_fault text assertion x)
call-by call x = fault-by (session_fault call x)

-- what refuses a call is the refusal that its fault is
pub call-refusal : (g : DaemonConfig) (state : State) (s : ℕ) (call : Call)
    → own_refusal g state (Calls s call)
    ≡ option_and_then refusal_of_call_fault (call_fault_in s (session_of state s) call)
call-refusal g state s call = by (session_of state s)
  where
    by : (o : Option Session) → in_session o (refusal_of_call call)
        ≡ option_and_then refusal_of_call_fault (call_fault_in s o call)
    by None = refl
    by (Some x) = call-by call x

-- and its reply is that of its result
pub call-reply : (call : Call) (x : Session) → reply_of_call call x ≡ reply_of_applied (call_answer call x)
call-reply (C.Assert text) x = refl
call-reply call x = refl

-- a fault of the session that is found, or none is open
pub session-refusal : (s : ℕ) (o : Option Session) (fault : Session → Option SessionFault)
    → refusal_by (fault_in s o fault) ≡ in_session o (λ x. refusal_by (fault x))
session-refusal s None fault = refl
session-refusal s (Some x) fault = refl
