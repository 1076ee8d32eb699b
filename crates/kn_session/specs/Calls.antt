-- The calls of one session: what refuses each, and what it makes of the session (keynoted's own; the calls are those of
-- keynote(3)).
use Rattle.std.specs.Prelude.{ℕ, ◌≡◌, ◌≤◌, ◌⊎◌, ◌+◌, ⊤, Bool, true, false, ◌==◌, ◌&&◌, not, nat_le, nat_lt, List, []}
use Rattle.std.specs.Prelude.{◌∷◌, ◌++◌, length, filter, Option, Some, None, option_map, Result, Ok, Err, is_none}
use Rattle.std.specs.Prelude.{if◌then◌else◌}
use Rattle.std.specs.List.{list_any}
use Rattle.std.specs.Str.{bytes_eq}
use Rattle.kn_base.specs.declared.limits.TheConstants.{PRIVATE_ASSERTIONS, PRIVATE_BYTES, REQUESTERS, PRINCIPAL_BYTES}
use Rattle.kn_principal.specs.Principals.{policy, normal_form}
use Rattle.kn_env.specs.Attributes.{attribute_fault, has_attribute, with_attribute, without_attribute}
use Rattle.kn_env.specs.declared.attributes.EnvFault.{EnvFault}
use Rattle.kn_env.specs.declared.attributes.EnvFault.TheVariants as V
use Rattle.kn_trees.specs.declared.assertion.Assertion.{Assertion}
use Rattle.kn_fields.specs.declared.fault.ReadFault.{ReadFault}
use Rattle.kn_fields.specs.Numbers.{fault_number, fault_place}
use Rattle.kn_assert.specs.Reading.{reading_of}
use Rattle.kn_history.specs.History.{text_bytes}
use Rattle.kn_session.specs.declared.fault.SessionFault.{SessionFault}
use Rattle.kn_session.specs.declared.fault.SessionFault.TheVariants as F
use Rattle.kn_session.specs.declared.fault.CallFault.{CallFault}
use Rattle.kn_session.specs.declared.fault.CallFault.TheVariants as T
use Rattle.kn_session.specs.declared.call.Applied.{Applied}
use Rattle.kn_session.specs.declared.call.Applied.TheVariants as A
use Rattle.kn_session.specs.declared.call.Call.{Call as Called}
use Rattle.kn_session.specs.declared.call.Call.TheVariants as Q
use Rattle.kn_session.specs.Sessions.{Session, OpenSessions, session_in, with_changed, without_session, fault_if}
use Rattle.kn_session.specs.Sessions.{standing_fault, end_standing}

-- Faults: of each call the first that applies.

-- the bytes of a session's private assertions
abbrev pub private_bytes : Session → ℕ
private_bytes session = text_bytes session.privates

-- why an assertion of this text isn't added to a session
abbrev pub private_fault : List ℕ → Assertion → Session → Option SessionFault
private_fault text assertion session =
    fault_if (bytes_eq assertion.authorizer policy) F.ByPolicy (
    fault_if (nat_le PRIVATE_ASSERTIONS (length session.privates)) (F.Privates (length session.privates)) (
    fault_if (nat_lt PRIVATE_BYTES (private_bytes session + length text)) (F.PrivateBytes (private_bytes session))
    None))

-- a private assertion of this id is there
abbrev pub has_private : ℕ → Session → Bool
has_private k session = list_any (λ p. p.id == k) session.privates

abbrev pub retract_fault : ℕ → Session → Option SessionFault
retract_fault k session = fault_if (not (has_private k session)) (F.NoSuch k) None

abbrev pub fault_of_attribute : Option EnvFault → Option SessionFault
fault_of_attribute None = None
fault_of_attribute (Some V.BadName) = Some F.Name
fault_of_attribute (Some V.BadValue) = Some F.Value
fault_of_attribute (Some (V.Full count)) = Some (F.Attributes count)
fault_of_attribute (Some V.NoMemory) = Some F.NoMemory

abbrev pub set_fault : List ℕ → List ℕ → Session → Option SessionFault
set_fault name value session = fault_of_attribute (attribute_fault name value session.attributes)

abbrev pub unset_fault : List ℕ → Session → Option SessionFault
unset_fault name session = fault_if (not (has_attribute name session.attributes)) F.Absent None

-- a text that may name a requester: of 1 to 4,096 bytes, and not the policy's
abbrev pub is_principal : List ℕ → Bool
is_principal text = (nat_le 1 (length text) && nat_le (length text) PRINCIPAL_BYTES) && not (bytes_eq text policy)

-- the principal of this text is among the requesters, which are normal forms
abbrev pub is_named : List (List ℕ) → List ℕ → Bool
is_named requesters text = list_any (bytes_eq (normal_form text)) requesters

abbrev pub auth_fault : List ℕ → Session → Option SessionFault
auth_fault text session =
    fault_if (not (is_principal text)) F.Principal (
    fault_if (not (is_named session.requesters text) && nat_le REQUESTERS (length session.requesters))
    (F.Requesters (length session.requesters)) None)

abbrev pub unauth_fault : List ℕ → Session → Option SessionFault
unauth_fault text session = fault_if (not (is_named session.requesters text)) F.Absent None

-- Changes.

abbrev pub add_private : List ℕ → Session → Session
add_private text x =
    record x { privates = x.privates ++ record { id = x.made + 1; text = text } ∷ []; made = x.made + 1 }

abbrev pub take_private : ℕ → Session → Session
take_private k x = record x { privates = filter (λ p. not (p.id == k)) x.privates }

abbrev pub set_attribute : List ℕ → List ℕ → Session → Session
set_attribute name value x = record x { attributes = with_attribute name value x.attributes }

abbrev pub unset_attribute : List ℕ → Session → Session
unset_attribute name x = record x { attributes = without_attribute name x.attributes }

-- a requester that is there keeps its place; another one comes last
abbrev pub add_requester : List ℕ → Session → Session
add_requester text x =
    if is_named x.requesters text then x else record x { requesters = x.requesters ++ normal_form text ∷ [] }

abbrev pub take_requester : List ℕ → Session → Session
take_requester text x = record x { requesters = filter (λ r. not (bytes_eq (normal_form text) r)) x.requesters }

abbrev pub clear_session : Session → Session
clear_session x = record x { attributes = []; requesters = [] }

-- Calls by one form.

-- a call of one session
pub data Call : Type 0 where
  Close : Call
  Clear : Call
  Assert : List ℕ → Call
  Retract : ℕ → Call
  Set : List ℕ → List ℕ → Call
  Unset : List ℕ → Call
  Auth : List ℕ → Call
  Unauth : List ℕ → Call
  Unwatch : Call

-- what a call in code stands for
abbrev pub call_of : Called → Call
call_of Q.Close = Close
call_of Q.Clear = Clear
call_of (Q.Assert text) = Assert text.now
call_of (Q.Retract k) = Retract k
call_of (Q.Set name value) = Set name.now value.now
call_of (Q.Unset name) = Unset name.now
call_of (Q.Auth principal) = Auth principal.now
call_of (Q.Unauth principal) = Unauth principal.now
call_of Q.Unwatch = Unwatch

-- a text that has no reading has its first fault, which is never `NoMemory`
abbrev pub text_fault : Result Assertion ReadFault → (Assertion → Option CallFault) → Option CallFault
text_fault (Ok assertion) next = next assertion
text_fault (Err fault) next = Some (T.Text fault)

-- a fault of the session as one of the call
abbrev pub own_fault : Option SessionFault → Option CallFault
own_fault fault = option_map T.Session fault

-- What refuses a call by the session alone. An assertion is judged once its text is read.
abbrev pub session_fault : Call → Session → Option SessionFault
session_fault (Retract k) session = retract_fault k session
session_fault (Set name value) session = set_fault name value session
session_fault (Unset name) session = unset_fault name session
session_fault (Auth text) session = auth_fault text session
session_fault (Unauth text) session = unauth_fault text session
session_fault Unwatch session = standing_fault session
session_fault call session = None

-- why a call of an open session is refused
abbrev pub call_fault : Call → Session → Option CallFault
call_fault (Assert text) session =
    text_fault (reading_of text) (λ assertion. own_fault (private_fault text assertion session))
call_fault call session = own_fault (session_fault call session)

-- and why it is refused of the session of this number, which comes first where that isn't open
abbrev pub call_fault_in : ℕ → Option Session → Call → Option CallFault
call_fault_in s None call = Some (T.Session (F.Unknown s))
call_fault_in s (Some session) call = call_fault call session

-- what an accepted call makes of its session, where that stays open
abbrev pub call_change : Call → Session → Session
call_change Close session = session
call_change Clear session = clear_session session
call_change (Assert text) session = add_private text session
call_change (Retract k) session = take_private k session
call_change (Set name value) session = set_attribute name value session
call_change (Unset name) session = unset_attribute name session
call_change (Auth text) session = add_requester text session
call_change (Unauth text) session = take_requester text session
call_change Unwatch session = end_standing session

-- what an accepted call of the session of this number makes of those that are open
abbrev pub after_call : List Session → ℕ → Call → List Session
after_call sessions s Close = without_session sessions s
after_call sessions s call = with_changed sessions s (call_change call)

-- what an accepted call gives: a private assertion's id, or nothing
abbrev pub call_answer : Call → Session → Applied
call_answer (Assert text) session = A.Added (session.made + 1)
call_answer call session = A.Done

-- The calls that store something may run out of memory; then nothing has changed.
abbrev pub call_may_lack_memory : Call → Bool
call_may_lack_memory (Assert text) = true
call_may_lack_memory (Set name value) = true
call_may_lack_memory (Auth text) = true
call_may_lack_memory call = false

-- the fault means out of memory
abbrev pub lacks_memory : CallFault → Bool
lacks_memory (T.Text fault) = is_none (fault_number fault)
lacks_memory (T.Session F.NoMemory) = true
lacks_memory (T.Session fault) = false

-- the place in an assertion's text that is given with a fault
abbrev pub place_of_fault : CallFault → ℕ
place_of_fault (T.Text fault) = fault_place fault
place_of_fault (T.Session fault) = 0

-- the text that a call asserts; any other call has the empty text
abbrev pub asserted_text : Call → List ℕ
asserted_text (Assert text) = text
asserted_text call = []

-- the open sessions after an accepted call
abbrev pub with_call : OpenSessions → ℕ → Call → OpenSessions
with_call state s call = record state { sessions = after_call state.sessions s call }

-- a call of the session of this number was accepted, and gave this
pub record Accepts (old new : OpenSessions) (s : ℕ) (call : Call) (applied : Applied) : Type 0 where
  pub session : Session
  pub found : session_in old.sessions s ≡ Some session
  pub no_fault : call_fault call session ≡ None
  pub gives : applied ≡ call_answer call session
  pub makes : new ≡ with_call old s call

-- it was refused for this, or ran out of memory, and nothing has changed
pub record Refuses (old new : OpenSessions) (s : ℕ) (call : Call) (fault : CallFault) : Type 0 where
  pub why : (lacks_memory fault ≡ true) ⊎ (call_fault_in s (session_in old.sessions s) call ≡ Some fault)
  pub memory : lacks_memory fault ≡ true → call_may_lack_memory call ≡ true
  pub place : place_of_fault fault ≤ length (asserted_text call)
  pub same : new ≡ old

-- the answer of a call that gives nothing
abbrev pub answer_done : Result ⊤ SessionFault → Result Applied CallFault
answer_done (Ok done) = Ok A.Done
answer_done (Err fault) = Err (T.Session fault)

-- it changes a session that stays open, and gives nothing
abbrev pub is_change : Call → Bool
is_change Close = false
is_change (Assert text) = false
is_change call = true

-- the fault that is due, or `NoMemory` where the call may run out of memory
abbrev pub IsDue : Bool → Option SessionFault → SessionFault → Type 0
IsDue true due fault = (fault ≡ F.NoMemory) ⊎ (due ≡ Some fault)
IsDue false due fault = due ≡ Some fault
