-- The last question of a connection, and what is known of its answer (keynoted's own).
use Rattle.std.specs.Prelude.{ℕ, ◌≡◌, ◌<◌, ◌≤◌, ◌⊎◌, Bool, true, false, List, length, take, Option, None, Some, IfSome}
use Rattle.kn_env.specs.Values.{values_of}
use Rattle.kn_answer.specs.declared.types.Answer.{Answer}
use Rattle.kn_history.specs.declared.update.Update.{Update}
use Rattle.kn_meaning.specs.Equations.{IsPolicyLevel}
use Rattle.kn_meaning.specs.Proofs.{IsProof}
use Rattle.kn_session.specs.Sessions.{Session}
use Rattle.kn_daemon.specs.Shapes.{Shape, Calls, Updates, Looks, Asks, Controls, AtFault, ForPin, ForPinAt, ForLog}
use Rattle.kn_daemon.specs.Shapes.{WithProof, WithCritical}
use Rattle.kn_daemon.specs.Daemon.{State, session_of, equations_of}
use Rattle.kn_query.specs.declared.kept_bases.KeptBases.{KeptBases}
use Rattle.kn_serve.specs.declared.last_question.LastAnswer.{LastAnswer}
use Rattle.kn_serve.specs.KeptBases.{ArePinned, IsKept}

-- the compliance values of the last question, and its answer, as far as they are kept
pub record LastAsked : Type 0 where
  pub values : Option (List (List ℕ))
  pub answer : Option LastAnswer

-- These values and this answer are kept, of a question by these names of this session at the version of this number.
pub record IsKeptFor (last : LastAsked) (s version : ℕ) (names : List ℕ) (values : List (List ℕ)) (answer : Answer)
    : Type 0 where
  pub named : values_of names ≡ Some values
  pub kept_values : last.values ≡ Some values
  pub kept_answer : last.answer ≡ Some (record { s = s; version = version; answer = answer })

-- an answer is kept with its values, or none is
abbrev pub Takes : List (List ℕ) → LastAnswer → LastAsked → Type 0
Takes values answer last = (last.answer ≡ None) ⊎ ((last.values ≡ Some values) × (last.answer ≡ Some answer))

-- the answer is the policy's level in the least fixed point, with rows that prove it
pub record IsRight (session : Session) (values : List (List ℕ)) (answer : Answer) : Type 0 where
  pub proof : IsProof (equations_of session values) answer.rows answer.value
  pub least : IsPolicyLevel (equations_of session values) answer.value
  pub below : answer.value < length values

-- a session as it would be at the version of this number
abbrev pub at_version : List Update → ℕ → Session → Session
at_version history version session = record session { pinned = take version history }

-- An answer is right for its session, where that is open, at the version that it is of, wherever that is pinned now.
pub record IsStillRight (history : List Update) (state : State) (values : List (List ℕ)) (last : LastAnswer)
    : Type 0 where
  pub seen : last.version ≤ length history
  pub right : (session : Session) → session_of state last.s ≡ Some session
      → IsRight (at_version history last.version session) values last.answer

-- if an answer is kept, it is still right
abbrev pub IsLastOf : List Update → State → LastAsked → Type 0
IsLastOf history state last = IfSome last.values (λ values. IfSome last.answer (IsStillRight history state values))

-- If an answer is kept, and its session is open and pinned to the version that it is of, it is the session's.
abbrev pub IsRightAgain : State → LastAsked → Type 0
IsRightAgain state last = (session : Session) (values : List (List ℕ)) (answer : LastAnswer) → last.values ≡ Some values
    → last.answer ≡ Some answer → session_of state answer.s ≡ Some session
    → length session.pinned ≡ answer.version → IsRight session values answer.answer

-- The answer is the right one to a question by these names of the session of this number, which is pinned to the
-- version of this number.
pub record IsAnswerTo (state : State) (s : ℕ) (names : List ℕ) (values : List (List ℕ)) (answer : Answer) (version : ℕ)
    : Type 0 where
  pub session : Session
  pub found : session_of state s ≡ Some session
  pub named : values_of names ≡ Some values
  pub at : version ≡ length session.pinned
  pub right : IsRight session values answer

-- each open session, each base and the answer that are kept are of one history
pub record AreAllOfOneWithLast (state : State) (kept : KeptBases) (last : LastAsked) : Type 0 where
  pub history : List Update
  pub pinned : ArePinned history state
  pub bases : IsKept history kept
  pub still : IsLastOf history state last

-- the last answer stays right, of each history of which the open sessions are
abbrev pub LastStays : State → LastAsked → State → LastAsked → Type 0
LastStays old before new after = (history : List Update) → ArePinned history old → IsLastOf history old before
    → IsLastOf history new after

-- whether all that the last answer hangs on is the same after a request of this shape
abbrev pub may_keep_answer : Shape → Bool
may_keep_answer (Looks (ForPin s)) = true
may_keep_answer (Looks (ForPinAt s version)) = true
may_keep_answer (Looks (ForLog n)) = true
may_keep_answer (Looks look) = false
may_keep_answer (Updates update) = true
may_keep_answer (Asks WithProof s names) = true
may_keep_answer (Asks WithCritical s names) = true
may_keep_answer (Asks question s names) = false
may_keep_answer (Calls s call) = false
may_keep_answer (Controls control) = false
may_keep_answer (AtFault fault) = false
