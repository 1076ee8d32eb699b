-- Transcripts follow the daemon, and their values are least.
use Rattle.std.proofs.Common.{◌≡◌, ◌≤◌, ℕ, List, [], ◌∷◌, ◌++◌, map, Option, Some, None, refl, sym, ap, subst}
use Rattle.std.proofs.Common.{option_to_list}
use Rattle.std.specs.Prelude.{IsSomeAnd}
use Rattle.std.proofs.lemmas.List.{append-nil}
use Rattle.kn_trees.specs.declared.assertion.Assertion.{Assertion}
use Rattle.kn_proof.specs.declared.named.NamedRow.{NamedRow}
use Rattle.kn_meaning.specs.Equations.{IsPolicyLevel}
use Rattle.kn_history.specs.declared.update.Update.{Update}
use Rattle.kn_wire.specs.Requests.{Request}
use Rattle.kn_session.specs.Sessions.{Session}
use Rattle.kn_session.specs.Calls.{Call}
use Rattle.kn_session.specs.Calls as C
use Rattle.kn_reply.specs.Replies.{Reply, Value}
use Rattle.kn_daemon.specs.Shapes.{Shape, Calls, Updates, Looks, Asks, Controls, AtFault, AddText, DropId, ApplyBlock}
use Rattle.kn_daemon.specs.Shapes.{ForOpen, ForPin, ForPinAt, ForNews, ForLog, WithProof, WithCritical, ToKeep}
use Rattle.kn_daemon.specs.Shapes.{shape_of}
use Rattle.kn_env.specs.Values.{values_of}
use Rattle.kn_daemon.specs.Daemon.{DaemonConfig, State, Permits, Answers, session_of, equations_of, reply_of_call}
use Rattle.kn_daemon.specs.Linearized.{Exchange, update_by}
use Rattle.kn_daemon.specs.Alone.{RunsAlone}
use Rattle.kn_daemon.proofs.Answered.{question-answered, news-answered, batch-answered}
use Rattle.kn_transcript.specs.declared.fault.TheConstants.{AUTH_FAULTS}
use Rattle.kn_transcript.specs.Followed.{Answered, Follows, with_update, history_behind}
use Rattle.kn_transcript.specs.Laws.{answered_of, IsLeastBehind}

-- one update or none behind a history
with_one : (past : List Update) (update : Option Update) → past ++ option_to_list update ≡ with_update past update
with_one past None = append-nil past
with_one past (Some update) = refl

pub runs-are_followed : (g : DaemonConfig) (past : List Update) (old : State) (exchanges : List Exchange)
    (history : List Update) (new : State)
    → ((text : List ℕ) (assertion : Assertion) → g.verdict text assertion ≤ AUTH_FAULTS)
    → RunsAlone g 0 past old exchanges history new → Follows past old (map answered_of exchanges) history new
runs-are_followed g past old [] history new few runs = runs
runs-are_followed g past old (e ∷ exchanges) history new few (mid, permits, runs) =
    let same = with_one past (update_by 0 (shape_of e.request) e.reply) in (
      mid,
      record {
        grounds = g;
        faults = few;
        permitted = subst (λ (x : List Update). Permits g 0 x old (shape_of e.request) e.reply mid) same permits;
      },
      runs-are_followed g (history_behind past (shape_of e.request) e.reply) mid exchanges history new few
          (subst (λ (x : List Update). RunsAlone g 0 x mid exchanges history new) same runs),
    )

index_of : Reply → ℕ → ℕ
index_of (Value index name version rows) other = index
index_of reply other = other

-- a value is answered to a QUERY alone, and is the least one
record IsAsked (state : State) (shape : Shape) (index : ℕ) : Type 0 where
  pub s : ℕ
  pub names : List ℕ
  pub session : Session
  pub values : List (List ℕ)
  pub asked : shape ≡ Asks WithProof s names
  pub found : session_of state s ≡ Some session
  pub named : values_of names ≡ Some values
  pub least : IsPolicyLevel (equations_of session values) index

no_value : (found : Option Session) (call : Call) (index : ℕ) (name : List ℕ) (version : ℕ) (rows : List NamedRow)
    → IsSomeAnd found (λ x. Value index name version rows ≡ reply_of_call call x) → ⊥
no_value None call index name version rows is = absurd is
no_value (Some x) (C.Assert text) index name version rows is = cc is
no_value (Some x) call index name version rows is = cc is

value_asked : (past : List Update) (state : State) (shape : Shape) (index : ℕ) (name : List ℕ) (version : ℕ)
    (rows : List NamedRow)
    → Answers 0 past state shape (Value index name version rows) → IsAsked state shape index
unfolding index_of
value_asked past state (Calls s call) index name version rows is =
    absurd (no_value (session_of state s) call index name version rows is)
value_asked past state (Updates (AddText text)) index name version rows is = absurd (let e = is.2 in cc e)
value_asked past state (Updates (DropId k)) index name version rows is = absurd (let e = is.1 in cc e)
value_asked past state (Updates (ApplyBlock block)) index name version rows is =
    absurd (let e = (batch-answered 0 past state block (Value index name version rows) is).batch.exact in cc e)
value_asked past state (Looks ForOpen) index name version rows is = absurd (cc is)
value_asked past state (Looks (ForPin s)) index name version rows is = absurd (cc is)
value_asked past state (Looks (ForPinAt s v)) index name version rows is = absurd (let e = is.1 in cc e)
value_asked past state (Looks (ForNews s)) index name version rows is =
    absurd (let e = (news-answered 0 past state s (Value index name version rows) is).news.exact in cc e)
value_asked past state (Looks (ForLog n)) index name version rows is = absurd (let e = is.1 in cc e)
value_asked past state (Asks WithProof s names) index name version rows is =
    let a = question-answered 0 past state WithProof s names (Value index name version rows) is in
    let same : index ≡ a.answer.level = ap (λ r. index_of r 0) a.answer.exact in
    record {
      s = s;
      names = names;
      session = a.session;
      values = a.values;
      asked = refl;
      found = a.found;
      named = a.named;
      least = subst (λ (n : ℕ). IsPolicyLevel (equations_of a.session a.values) n) (sym same) a.answer.least;
    }
value_asked past state (Asks WithCritical s names) index name version rows is =
    let a = question-answered 0 past state WithCritical s names (Value index name version rows) is in
    absurd (let e = a.answer.exact in cc e)
value_asked past state (Asks ToKeep s names) index name version rows is =
    let a = question-answered 0 past state ToKeep s names (Value index name version rows) is in
    absurd (let e = a.answer.exact in cc e)
value_asked past state (Controls control) index name version rows is = absurd (cc is)
value_asked past state (AtFault fault) index name version rows is = absurd is

pub values-are_least : (past : List Update) (old : State) (front behind : List Answered) (request : Request) (index : ℕ)
    (name : List ℕ) (version : ℕ) (rows : List NamedRow) (history : List Update) (new : State)
    → Follows past old (front ++ record { request = request; reply = Value index name version rows } ∷ behind) history
    new
    → IsLeastBehind past old front request index
values-are_least past old [] behind request index name version rows history new (mid, p, later) =
    let a = value_asked (history_behind past (shape_of request) (Value index name version rows)) old (shape_of request)
    index name
    version rows p.permitted.answered in
    record {
      history = past;
      state = old;
      session = a.session;
      s = a.s;
      names = a.names;
      values = a.values;
      reached = (refl, refl);
      asked = a.asked;
      found = a.found;
      named = a.named;
      least = a.least;
    }
values-are_least past old (x ∷ front) behind request index name version rows history new (mid, p, later) =
    let l = values-are_least (history_behind past (shape_of x.request) x.reply) mid front behind request index name
    version rows
    history new later in
    record {
      history = l.history;
      state = l.state;
      session = l.session;
      s = l.s;
      names = l.names;
      values = l.values;
      reached = (mid, p, l.reached);
      asked = l.asked;
      found = l.found;
      named = l.named;
      least = l.least;
    }
