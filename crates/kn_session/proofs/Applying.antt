-- What a call of one form answers, by the calls that it is made of.
use Rattle.std.proofs.Common.{◌≡◌, ◌≢◌, ℕ, ◌≤◌, ◌⊎◌, inl, inr, Bool, true, false, List, length, Option, Some, None}
use Rattle.std.proofs.Common.{Result, Ok, Err, OnOk, OnErr, IfOk, IfErr, refl, sym, ap, ◌∙◌, subst, arith}
use Rattle.std.specs.Prelude.{⊤, ◌+◌, IsSomeAnd}
use Rattle.std.specs.Result.{result_err, result_ok}
use Rattle.kn_trees.specs.declared.assertion.Assertion.{Assertion}
use Rattle.kn_fields.specs.declared.fault.ReadFault.{ReadFault}
use Rattle.kn_fields.specs.declared.fault.ReadFault.TheVariants as R
use Rattle.kn_fields.specs.Numbers.{fault_place}
use Rattle.kn_assert.specs.Reading.{reading_of, assertion_of, fault_of}
use Rattle.kn_session.specs.declared.fault.SessionFault.{SessionFault}
use Rattle.kn_session.specs.declared.fault.SessionFault.TheVariants as F
use Rattle.kn_session.specs.declared.fault.CallFault.{CallFault}
use Rattle.kn_session.specs.declared.fault.CallFault.TheVariants as T
use Rattle.kn_session.specs.declared.call.Applied.{Applied}
use Rattle.kn_session.specs.declared.call.Applied.TheVariants as A
use Rattle.kn_session.specs.Sessions.{Session, OpenSessions, session_in, fault_in, fault_if}
use Rattle.kn_session.specs.Connection.{fault_at, with_open_session}
use Rattle.kn_session.specs.Calls as C
use Rattle.kn_session.specs.Calls.{Call, Assert, is_change, session_fault, call_change, IsDue, private_fault}
use Rattle.kn_session.specs.Calls.{add_private, text_fault, call_fault, call_fault_in, call_answer}
use Rattle.kn_session.specs.Calls.{call_may_lack_memory, own_fault, lacks_memory, asserted_text, with_call, answer_done}
use Rattle.kn_session.specs.Calls.{Accepts, Refuses}

err-is : (read : Result Assertion ReadFault) (fault : ReadFault) → result_err read ≡ Some fault → read ≡ Err fault
err-is (Ok assertion) fault e = absurd (cc (e))
err-is (Err other) fault e = cc

ok-is : (read : Result Assertion ReadFault) (assertion : Assertion) → result_ok read ≡ Some assertion
    → read ≡ Ok assertion
ok-is (Ok other) assertion e = cc
ok-is (Err fault) assertion e = absurd (cc (e))

-- a call by this fault of the session alone, which gives nothing
pub record IsPlain (call : Call) (f : Session → Option SessionFault) : Type 0 where
  pub fault : (x : Session) → call_fault call x ≡ own_fault (f x)
  pub answer : (x : Session) → call_answer call x ≡ A.Done

-- a fault of the session is one of the call, also where the session isn't open
fault-found : (s : ℕ) (call : Call) (f : Session → Option SessionFault) → IsPlain call f → (found : Option Session)
    → call_fault_in s found call ≡ own_fault (fault_in s found f)
fault-found s call f plain None = refl
fault-found s call f plain (Some x) = plain.fault x

module _ (a b : OpenSessions) (s : ℕ) (call : Call) (f : Session → Option SessionFault) (plain : IsPlain call f) where
  accepted : (found : Option Session) → session_in a.sessions s ≡ found → fault_in s found f ≡ None
      → b ≡ with_call a s call → Accepts a b s call A.Done
  accepted None is e ok = absurd (cc (e))
  accepted (Some x) is e ok =
      record {
        session = x;
        found = is;
        no_fault = plain.fault x ∙ ap own_fault e;
        gives = sym (plain.answer x);
        makes =
            ok;
      }

  ok-of : (called : Result ⊤ SessionFault) → OnOk called (fault_at a s f ≡ None) → OnOk called (b ≡ with_call a s call)
      → IfOk (answer_done called) (Accepts a b s call)
  ok-of (Ok done) none ok = accepted (session_in a.sessions s) refl none ok
  ok-of (Err fault) none ok = tt

  pub plain-ok : (called : Result ⊤ SessionFault) (result : Result Applied CallFault) → result ≡ answer_done called
      → OnOk called (fault_at a s f ≡ None) → OnOk called (b ≡ with_call a s call) → IfOk result (Accepts a b s call)
  plain-ok called result is none ok =
      subst (λ (r : Result Applied CallFault). IfOk r (Accepts a b s call)) (sym is) (ok-of called none ok)

  refused : (fault : SessionFault) → (fault ≡ F.NoMemory) ⊎ (fault_at a s f ≡ Some fault)
      → (lacks_memory (T.Session fault) ≡ true → call_may_lack_memory call ≡ true)
      → b ≡ a → Refuses a b s call (T.Session fault)
  refused fault why memory same = record { why = by why; memory = memory; place = omega arith; same = same }
    where
      by : (fault ≡ F.NoMemory) ⊎ (fault_at a s f ≡ Some fault) → (lacks_memory (T.Session fault) ≡ true)
          ⊎ (call_fault_in s (session_in a.sessions s) call ≡ Some (T.Session fault))
      by (inl e) = inl (ap (λ (x : SessionFault). lacks_memory (T.Session x)) e)
      by (inr e) = inr (fault-found s call f plain (session_in a.sessions s) ∙ ap own_fault e)

  pub plain-err : (called : Result ⊤ SessionFault) (result : Result Applied CallFault) → result ≡ answer_done called
      → (call_may_lack_memory call ≡ false → (x : Session) → f x ≢ Some F.NoMemory)
      → IfErr called (IsDue (call_may_lack_memory call) (fault_at a s f)) → OnErr called (b ≡ a)
      → IfErr result (Refuses a b s call)
  plain-err called result is never why same =
      subst (λ (r : Result Applied CallFault). IfErr r (Refuses a b s call)) (sym is) (of called why same)
    where
      named : (x : SessionFault) (found : Option Session) → fault_in s found f ≡ Some x
          → ((y : Session) → f y ≢ Some F.NoMemory) → lacks_memory (T.Session x) ≡ true → ⊥
      named F.NoMemory None e each memory = absurd (cc (e))
      named F.NoMemory (Some session) e each memory = each session e
      named x found e each memory = absurd (cc (memory))

      by : (t : Bool) → call_may_lack_memory call ≡ t → (fault : SessionFault) → IsDue t (fault_at a s f) fault → b ≡ a
          → Refuses a b s call (T.Session fault)
      by true lacks fault due same = refused fault due (λ memory. lacks) same
      by false lacks fault due same =
          refused fault (inr due) (λ memory. absurd (named fault (session_in a.sessions s) due (never lacks) memory))
          same

      of : (r : Result ⊤ SessionFault) → IfErr r (IsDue (call_may_lack_memory call) (fault_at a s f)) → OnErr r (b ≡ a)
          → IfErr (answer_done r) (Refuses a b s call)
      of (Ok done) why same = tt
      of (Err fault) why same = by (call_may_lack_memory call) refl fault why same

-- A call that changes a session that stays open.

pub change-plain : (call : Call) → is_change call ≡ true → IsPlain call (session_fault call)
change-plain C.Close is = absurd (cc (is))
change-plain (C.Assert text) is = absurd (cc (is))
change-plain call is = record { fault = λ x. refl; answer = λ x. refl }

pub change-makes : (call : Call) → is_change call ≡ true → (a : OpenSessions) (s : ℕ)
    → with_open_session a s (call_change call) ≡ with_call a s call
change-makes C.Close is a s = absurd (cc (is))
change-makes call is a s = refl

-- a fault that is named isn't `NoMemory`
named-fault : (b : Bool) (fault : SessionFault) → fault ≢ F.NoMemory → fault_if b fault None ≢ Some F.NoMemory
named-fault true fault other e = other (cc)
named-fault false fault other e = absurd (cc (e))

pub change-named : (call : Call) → call_may_lack_memory call ≡ false → (x : Session)
    → session_fault call x ≢ Some F.NoMemory
change-named C.Close lacks x e = absurd (cc (e))
change-named C.Clear lacks x e = absurd (cc (e))
change-named (C.Assert text) lacks x e = absurd (cc (lacks))
change-named (C.Set name value) lacks x e = absurd (cc (lacks))
change-named (C.Auth text) lacks x e = absurd (cc (lacks))
change-named call lacks x e = named-fault _ _ (λ same. absurd (cc (same))) e

-- An assertion of a text.
module _ (a b : OpenSessions) (s : ℕ) (text : List ℕ) where
  pub unknown : (fault : SessionFault) → fault_at a s (λ x. None) ≡ Some fault
      → Refuses a a s (Assert text) (T.Session fault)
  unknown fault e = record {
    why = inr (by (session_in a.sessions s) e);
    memory = λ memory. refl;
    place = omega arith;
    same = refl;
  }
    where
      by : (found : Option Session) → fault_in s found (λ x. None) ≡ Some fault
          → call_fault_in s found (Assert text) ≡ Some (T.Session fault)
      by None e = ap own_fault e
      by (Some session) e = absurd (cc (e))

  pub unread : (x : Session) (fault : ReadFault) → session_in a.sessions s ≡ Some x → (fault ≡ R.NoMemory)
      ⊎ (fault_of text ≡ Some fault) → fault_place fault ≤ length text
      → Refuses a a s (Assert text) (T.Text fault)
  unread x fault found why place = record { why = by why; memory = λ memory. refl; place = place; same = refl }
    where
      by : (fault ≡ R.NoMemory) ⊎ (fault_of text ≡ Some fault) → (lacks_memory (T.Text fault) ≡ true)
          ⊎ (call_fault_in s (session_in a.sessions s) (Assert text) ≡ Some (T.Text fault))
      by (inl e) = inl (ap (λ (f : ReadFault). lacks_memory (T.Text f)) e)
      by (inr e) = inr (ap (λ (o : Option Session). call_fault_in s o (Assert text)) found
          ∙ ap (λ (r : Result Assertion ReadFault).
          text_fault r (λ assertion. own_fault (private_fault text assertion x))) (err-is (reading_of text) fault e))

  -- the fault of an assertion that was read
  read-fault : (assertion : Assertion) → assertion_of text ≡ Some assertion → (found : Option Session)
      → call_fault_in s found (Assert text) ≡ own_fault (fault_in s found (private_fault text assertion))
  read-fault assertion read None = refl
  read-fault assertion read (Some x) =
      ap (λ (r : Result Assertion ReadFault). text_fault r (λ got. own_fault (private_fault text got x)))
      (ok-is (reading_of text) assertion read)

  pub unadded : (assertion : Assertion) (fault : SessionFault) → assertion_of text ≡ Some assertion
      → (fault ≡ F.NoMemory) ⊎ (fault_at a s (private_fault text assertion) ≡ Some fault) → b ≡ a
      → Refuses a b s (Assert text) (T.Session fault)
  unadded assertion fault read why same =
      record { why = by why; memory = λ memory. refl; place = omega arith; same = same }
    where
      by : (fault ≡ F.NoMemory) ⊎ (fault_at a s (private_fault text assertion) ≡ Some fault)
          → (lacks_memory (T.Session fault) ≡ true)
          ⊎ (call_fault_in s (session_in a.sessions s) (Assert text) ≡ Some (T.Session fault))
      by (inl e) = inl (ap (λ (x : SessionFault). lacks_memory (T.Session x)) e)
      by (inr e) = inr (read-fault assertion read (session_in a.sessions s) ∙ ap own_fault e)

  pub added : (assertion : Assertion) (x : Session) (k : ℕ) → session_in a.sessions s ≡ Some x
      → assertion_of text ≡ Some assertion → IsSomeAnd (session_in a.sessions s) (λ y. k ≡ y.made + 1)
      → fault_at a s (private_fault text assertion) ≡ None → b ≡ with_open_session a s (add_private text)
      → Accepts a b s (Assert text) (A.Added k)
  added assertion x k found read id none ok = record {
    session = x;
    found = found;
    no_fault = ap (λ (o : Option Session). call_fault_in s o (Assert text)) (sym found)
        ∙ read-fault assertion read (session_in a.sessions s) ∙ ap own_fault none;
    gives = ap (λ (n : ℕ). A.Added n) (subst (λ (o : Option Session). IsSomeAnd o (λ y. k ≡ y.made + 1)) found id);
    makes = ok;
  }
