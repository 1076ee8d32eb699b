-- Answering a question on a session.
use Rattle.std.proofs.Common.{◌≡◌, ℕ, Bool, List, [], ◌∷◌, length, refl, sym, ap, ◌∙◌, Option, Some, None}
use Rattle.std.proofs.Common.{zero, suc, inl, inr, rules}
use Rattle.std.specs.Prelude.{slice_get, slice_index_or, ◌⊎◌, option_and_then, nat_lt, true, false, if◌then◌else◌}
use Rattle.std.proofs.lemmas.Option.{none-some}
use Rattle.std.specs.Option.{unwrap_or}
use Rattle.kn_base.specs.declared.limits.TheConstants.{CRITICAL_NODES}
use Rattle.kn_env.specs.Values.{values_of, values_fault}
use Rattle.kn_env.specs.declared.values.ValuesFault.{ValuesFault}
use Rattle.kn_env.specs.declared.values.ValuesFault.TheVariants as V
use Rattle.kn_answer.specs.declared.types.Answer.{Answer}
use Rattle.kn_critical.specs.Faults.{critical_fault}
use Rattle.kn_critical.specs.declared.fault.CriticalFault.{CriticalFault}
use Rattle.kn_critical.specs.declared.fault.CriticalFault.TheVariants as C
use Rattle.kn_proof.specs.declared.named.Id.{Id}
use Rattle.kn_outside.specs.Seen.{LinkSeen}
use Rattle.kn_outside.specs.Printing.{Prints}
use Rattle.kn_session.specs.declared.fault.SessionFault.{SessionFault}
use Rattle.kn_session.specs.Sessions.{Session, fault_in}
use Rattle.kn_reply.specs.declared.refusal.Refusal.{Refusal}
use Rattle.kn_reply.specs.declared.refusal.Refusal.TheVariants as R
use Rattle.kn_reply.specs.declared.refusal.LimitWord.TheVariants as W
use Rattle.kn_meaning.specs.Critical.{AreCritical, equation_nodes}
use Rattle.kn_meaning.specs.Equations.{IsPolicyLevel}
use Rattle.kn_reply.specs.Replies.{Value, Critical, reply_text}
use Rattle.kn_daemon.specs.Shapes.{Question, WithProof, WithCritical, Asks}
use Rattle.kn_daemon.specs.Daemon.{DaemonConfig, State, session_of, session_parts, asked_of, equations_of, own_refusal}
use Rattle.kn_daemon.specs.Daemon.{refuse_if, refusal_of_nodes}
use Rattle.kn_daemon.proofs.Answered.{answers-question}
use Rattle.kn_refusals.specs.Refusals.{refusal_of_values}
use Rattle.kn_serve.specs.Handling.{Tells, RefusesQuestions, refusal_of_critical, refused_reply}
use Rattle.kn_serve.specs.LastQuestions.{IsRight}
use Rattle.kn_serve.proofs.HandlingLaws.{told_refused, told_memory, told_either, told_done}
use Rattle.kn_serve.proofs.CallingLaws.{none_found}

module _ (state : State) (s : ℕ) (names : List ℕ) where
  -- no such session is open
  pub question_unknown : (fault : SessionFault) → fault_in s (session_of state s) (λ x. None) ≡ Some fault →
      RefusesQuestions state s names (Some R.Session)
  question_unknown fault why =
      let none : session_of state s ≡ None = none_found s (session_of state s) fault why in
      inr (λ g question. rw none refl)

  -- the names are no values
  question_unnamed : (g : DaemonConfig) (question : Question) (session : Session) (fault : ValuesFault) →
      session_of state s ≡ Some session → values_fault names ≡ Some fault →
      own_refusal g state (Asks question s names) ≡ Some R.Values
  question_unnamed g question session fault there faulty =
      let none : values_of names ≡ None = rw faulty refl in
      rw there (rw none refl)

  pub question_faulty : (session : Session) (fault : ValuesFault) (refusal : Option Refusal) →
      session_of state s ≡ Some session → (fault ≡ V.NoMemory) ⊎ (values_fault names ≡ Some fault) →
      refusal ≡ refusal_of_values fault → RefusesQuestions state s names refusal
  question_faulty session fault refusal there why told = by fault why told
    where
      by : (f : ValuesFault) → (f ≡ V.NoMemory) ⊎ (values_fault names ≡ Some f) → refusal ≡ refusal_of_values f →
          RefusesQuestions state s names refusal
      by V.NoMemory w is = inl is
      by (V.Count n) (inr e) is = inr (λ g question. question_unnamed g question session (V.Count n) there e ∙ sym is)
      by (V.BadName i) (inr e) is =
          inr (λ g question. question_unnamed g question session (V.BadName i) there e ∙ sym is)
      by (V.Twice i) (inr e) is = inr (λ g question. question_unnamed g question session (V.Twice i) there e ∙ sym is)
      by (V.Count n) (inl e) is = absurd (search (rules, e))
      by (V.BadName i) (inl e) is = absurd (search (rules, e))
      by (V.Twice i) (inl e) is = absurd (search (rules, e))

module _ (g : DaemonConfig) (question : Question) (whole : Bool) (old : State) (s : ℕ) (names : List ℕ)
    (l l' : LinkSeen) where
  -- the question is refused before it is answered
  pub question_refused : (refusal : Option Refusal) → RefusesQuestions old s names refusal →
      Prints whole (reply_text (refused_reply refusal)) l l' → Tells g (Asks question s names) whole old old l l'
  question_refused None why prints = told_memory g (Asks question s names) whole old l l' refl prints
  question_refused (Some refusal) (inl none) prints = absurd (cc none)
  question_refused (Some refusal) (inr why) prints =
      told_refused g (Asks question s names) whole old l l' refusal (why g question) prints

got-index : {X : Type 0} (xs : List X) (n : ℕ) (x d : X) → slice_get xs n ≡ Some x → slice_index_or xs n d ≡ x
got-index [] n x d e = absurd (none-some x e)
got-index (y ∷ xs) zero x d e = ap (λ (o : Option _). unwrap_or o d) e
got-index (y ∷ xs) (suc n) x d e = got-index xs n x d e

-- the name of a value
pub called : (values : List (List ℕ)) (level : ℕ) (name : List ℕ) →
    slice_get values level ≡ Some name → slice_index_or values level [] ≡ name
called values level name got = got-index values level name [] got

-- too many nodes are refused as they are found
nodes_refusal : (n : ℕ) → refusal_of_nodes n ≡ option_and_then refusal_of_critical (critical_fault n)
nodes_refusal n = by (nat_lt CRITICAL_NODES n)
  where
    by : (b : Bool) → refuse_if b (R.Limit W.Nodes n) None
        ≡ option_and_then refusal_of_critical (if b then Some (C.Large n) else None)
    by true = refl
    by false = refl

module _ (g : DaemonConfig) (whole : Bool) (old : State) (s : ℕ) (names : List ℕ) (l l' : LinkSeen) (session : Session)
    (values : List (List ℕ)) (there : session_of old s ≡ Some session) (named : values_of names ≡ Some values) where
  -- the query is answered with its proof
  pub query_answered : (version : ℕ) (answer : Answer) → IsRight session values answer →
      version ≡ length session.pinned →
      Prints whole (reply_text (Value answer.value (slice_index_or values answer.value []) version answer.rows)) l l' →
      Tells g (Asks WithProof s names) whole old old l l'
  query_answered version answer right at prints =
      told_done g (Asks WithProof s names) whole old l l' old
      (Value answer.value (slice_index_or values answer.value []) version answer.rows) refl (rw there (rw named refl))
      (λ caller past. answers-question caller past old WithProof s names
      (Value answer.value (slice_index_or values answer.value []) version answer.rows)
      (record {
        session = session;
        values = values;
        found = there;
        named = named;
        answer = record {
          level = answer.value;
          rows = answer.rows;
          exact = rw at refl;
          proved = right.proof;
          least = right.least;
        };
      })) (λ past. refl) (λ caller. refl) refl prints

  -- how many nodes are looked through
  abbrev nodes : ℕ
  nodes = equation_nodes (equations_of session values)

  critical_own : own_refusal g old (Asks WithCritical s names) ≡ refusal_of_nodes nodes
  critical_own = rw there (rw named refl)

  -- the query is answered with its critical assertions
  pub critical_answered : (level : ℕ) (ids : List Id) → IsPolicyLevel (equations_of session values) level →
      AreCritical (asked_of session values) (session_parts session) (session_parts session) ids →
      critical_fault nodes ≡ None → Prints whole (reply_text (Critical level ids)) l l' →
      Tells g (Asks WithCritical s names) whole old old l l'
  critical_answered level ids least critical small prints =
      told_done g (Asks WithCritical s names) whole old l l' old (Critical level ids) refl
      (critical_own ∙ nodes_refusal nodes ∙ ap (option_and_then refusal_of_critical) small)
      (λ caller past. answers-question caller past old WithCritical s names (Critical level ids)
      (record {
        session = session;
        values = values;
        found = there;
        named = named;
        answer = record { level = level; ids = ids; exact = refl; least = least; critical = critical };
      })) (λ past. refl) (λ caller. refl) refl prints

  -- it has too many nodes, or memory ran out
  pub critical_refused : (fault : CriticalFault) (told : Option Refusal) →
      (fault ≡ C.NoMemory) ⊎ (critical_fault nodes ≡ Some fault) → told ≡ refusal_of_critical fault →
      Prints whole (reply_text (refused_reply told)) l l' → Tells g (Asks WithCritical s names) whole old old l l'
  critical_refused fault told why is prints =
      told_either g (Asks WithCritical s names) whole old l l' told refl (due why) prints
    where
      due : (fault ≡ C.NoMemory) ⊎ (critical_fault nodes ≡ Some fault) → (refusal : Refusal) → told ≡ Some refusal →
          own_refusal g old (Asks WithCritical s names) ≡ Some refusal
      due (inl none) refusal e =
          let gone : refusal_of_critical fault ≡ None = ap refusal_of_critical none in
          absurd (cc (gone, is, e))
      due (inr large) refusal e =
          critical_own ∙ nodes_refusal nodes ∙ ap (option_and_then refusal_of_critical) large ∙ sym is ∙ e
