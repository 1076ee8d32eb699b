-- An answer, with the session and the values that it is about.
use Rattle.std.proofs.Common.{◌≡◌, ℕ, List, Option, Some, None, Result, Ok, Err, map, refl, subst, sym}
use Rattle.std.specs.Prelude.{IsSomeAnd}
use Rattle.kn_env.specs.Values.{values_of}
use Rattle.kn_history.specs.declared.update.Update.{Update}
use Rattle.kn_session.specs.Sessions.{StandingQuery, Session, query_at}
use Rattle.kn_wire.specs.Items.{BatchItem, items_of}
use Rattle.kn_reply.specs.Logs.{item_of}
use Rattle.kn_reply.specs.Replies.{Reply}
use Rattle.kn_daemon.specs.Shapes.{Question, ForNews, ApplyBlock, Updates, Looks, Asks}
use Rattle.kn_daemon.specs.Daemon.{State, session_of, read_items, AnswersQuestion, IsNews, IsBatchCommitted, Answers}

-- something is there, and this is so of it
pub record IsThere {X : Type 0} (o : Option X) (P : X → Type 0) : Type 0 where
  pub it : X
  pub found : o ≡ Some it
  pub holds : P it

pub there : {X : Type 0} (P : X → Type 0) (o : Option X) → IsSomeAnd o P → IsThere o P
there P None h = absurd h
there P (Some x) h = record { it = x; found = refl; holds = h }

pub is-there : {X : Type 0} (P : X → Type 0) (o : Option X) (x : X) → o ≡ Some x → P x → IsSomeAnd o P
is-there P o x found h = subst (λ o. IsSomeAnd o P) (sym found) h

-- the question on an open session is answered
pub record IsAnswered (state : State) (question : Question) (s : ℕ) (names : List ℕ) (reply : Reply) : Type 0 where
  pub session : Session
  pub values : List (List ℕ)
  pub found : session_of state s ≡ Some session
  pub named : values_of names ≡ Some values
  pub answer : AnswersQuestion question session values reply

-- the standing query of an open session is answered over the version of this history
pub record IsStandingAnswered (past : List Update) (state : State) (s : ℕ) (reply : Reply) : Type 0 where
  pub session : Session
  pub query : StandingQuery
  pub found : session_of state s ≡ Some session
  pub standing : session.standing ≡ Some query
  pub news : IsNews (query_at past query) reply

-- the items of a block are the update that the history ends with
pub record IsBatched (caller : ℕ) (past : List Update) (block : List ℕ) (reply : Reply) : Type 0 where
  pub items : List BatchItem
  pub read : items_of block ≡ Ok items
  pub batch : IsBatchCommitted caller past (map item_of items) reply

module _ (caller : ℕ) (past : List Update) (old : State) where
  pub question-answered : (question : Question) (s : ℕ) (names : List ℕ) (reply : Reply)
      → Answers caller past old (Asks question s names) reply → IsAnswered old question s names reply
  question-answered question s names reply h =
      let x = there (λ x. IsSomeAnd (values_of names) (λ values. AnswersQuestion question x values reply))
      (session_of old s) h in
      let v = there (λ values. AnswersQuestion question x.it values reply) (values_of names) x.holds in
      record { session = x.it; values = v.it; found = x.found; named = v.found; answer = v.holds }

  pub answers-question : (question : Question) (s : ℕ) (names : List ℕ) (reply : Reply)
      → IsAnswered old question s names reply → Answers caller past old (Asks question s names) reply
  answers-question question s names reply a =
      is-there (λ x. IsSomeAnd (values_of names) (λ values. AnswersQuestion question x values reply))
      (session_of old s) a.session a.found
      (is-there (λ values. AnswersQuestion question a.session values reply) (values_of names) a.values a.named a.answer)

  pub news-answered : (s : ℕ) (reply : Reply) → Answers caller past old (Looks (ForNews s)) reply
      → IsStandingAnswered past old s reply
  news-answered s reply h =
      let x = there (λ (x : Session). IsSomeAnd x.standing (λ query. IsNews (query_at past query) reply))
      (session_of old s) h in
      let q = there (λ query. IsNews (query_at past query) reply) x.it.standing x.holds in
      record { session = x.it; query = q.it; found = x.found; standing = q.found; news = q.holds }

  pub answers-news : (s : ℕ) (reply : Reply) → IsStandingAnswered past old s reply
      → Answers caller past old (Looks (ForNews s)) reply
  answers-news s reply a =
      is-there (λ (x : Session). IsSomeAnd x.standing (λ query. IsNews (query_at past query) reply))
      (session_of old s) a.session a.found
      (is-there (λ query. IsNews (query_at past query) reply) a.session.standing a.query a.standing a.news)

  pub batch-answered : (block : List ℕ) (reply : Reply)
      → Answers caller past old (Updates (ApplyBlock block)) reply → IsBatched caller past block reply
  batch-answered block reply = by (items_of block) refl
    where
      by : (r : Result (List BatchItem) ℕ) → items_of block ≡ r
          → IsSomeAnd (read_items r) (λ items. IsBatchCommitted caller past items reply)
          → IsBatched caller past block reply
      by (Ok items) is h = record { items = items; read = is; batch = h }
      by (Err number) is h = absurd h

  pub answers-batch : (block : List ℕ) (reply : Reply) → IsBatched caller past block reply
      → Answers caller past old (Updates (ApplyBlock block)) reply
  answers-batch block reply b =
      subst (λ r. IsSomeAnd (read_items r) (λ items. IsBatchCommitted caller past items reply)) (sym b.read) b.batch
