-- QUERY, WATCH, NEWS and CRITICAL tell one level.
use Rattle.std.proofs.Common.{◌≡◌, ◌≤◌, ◌⊎◌, ℕ, List, [], ◌∷◌, length, Some, option_map, inl, inr, sym, ap, ◌∙◌}
use Rattle.std.proofs.Common.{subst, arith}
use Rattle.std.specs.Prelude.{slice_index_or}
use Rattle.kn_env.specs.Values.{values_of}
use Rattle.kn_principal.specs.Principals.{policy}
use Rattle.kn_proof.specs.declared.named.Id.{Id}
use Rattle.kn_proof.specs.declared.named.NamedRow.{NamedRow}
use Rattle.kn_env.specs.Environment.{Asked}
use Rattle.kn_meaning.specs.Critical.{IsCritical, AreCritical}
use Rattle.kn_meaning.specs.Equations.{Part, Equations, IsPolicyLevel}
use Rattle.kn_history.specs.declared.update.Update.{Update}
use Rattle.kn_session.specs.Sessions.{StandingQuery, Session, asker, query_with, watch_with, query_at, move_standing}
use Rattle.kn_reply.specs.Replies.{Value, News, Critical}
use Rattle.kn_daemon.specs.Shapes.{ForNews, WithProof, WithCritical, ToKeep, Looks, Asks}
use Rattle.kn_daemon.specs.Daemon.{DaemonConfig, State, session_of, asked_of, session_parts, equations_of, IsAnswer}
use Rattle.kn_daemon.specs.Daemon.{IsNews, IsCriticalAnswer, Permits}
use Rattle.kn_daemon.proofs.Answered.{IsAnswered, question-answered, news-answered}

same_some : {X : Type 0} {x y : X} → Some x ≡ Some y → x ≡ y
same_some e = cc e

-- the policy has one level in the least fixed point
pub one-level : (e : Equations) (a b : ℕ) → IsPolicyLevel e a → IsPolicyLevel e b → a ≡ b
one-level e a b l m =
    let below : l.levels policy ≤ m.levels policy =
    l.least.least m.levels (λ name. let s = m.least.solves name in omega (arith, s)) policy in
    let above : m.levels policy ≤ l.levels policy =
    m.least.least l.levels (λ name. let s = l.least.solves name in omega (arith, s)) policy in
    let x = l.here in
    let y = m.here in
    omega (arith, below, above, x, y)

-- and the critical assertions are one list
one-critical : (asked : Asked) (all parts : List Part) (ids others : List Id) → AreCritical asked all parts ids
    → AreCritical asked all parts others → ids ≡ others
one-critical asked all [] ids others h k = h ∙ sym k
one-critical asked all (p ∷ parts) ids others (rest, more, here) (left, also, there) =
    by here there (one-critical asked all parts rest left more also)
  where
    Told : List Id → List Id → Type 0
    Told told behind =
        (IsCritical asked all p.id × (told ≡ p.id ∷ behind)) ⊎ ((IsCritical asked all p.id → ⊥) × (told ≡ behind))

    by : Told ids rest → Told others left → rest ≡ left → ids ≡ others
    by (inl one) (inl two) same = one.1 ∙ ap (λ l. p.id ∷ l) same ∙ sym two.1
    by (inl one) (inr two) same = absurd (two.0 one.0)
    by (inr one) (inl two) same = absurd (one.0 two.0)
    by (inr one) (inr two) same = one.1 ∙ same ∙ sym two.1

-- a level, its name and a version are what is told of these equations
record IsTold (e : Equations) (values : List (List ℕ)) (past : List Update) (index : ℕ) (name : List ℕ)
    (version : ℕ) : Type 0 where
  level : IsPolicyLevel e index
  named : name ≡ slice_index_or values index []
  pinned : version ≡ length past

told-once : (e : Equations) (values : List (List ℕ)) (past : List Update) (index : ℕ) (name : List ℕ)
    (version level : ℕ) (text : List ℕ) (number : ℕ)
    → IsTold e values past index name version → IsTold e values past level text number
    → (level ≡ index) × (text ≡ name) × (number ≡ version)
told-once e values past index name version level text number t u =
    let same : level ≡ index = one-level e level index u.level t.level in
    (same, u.named ∙ ap (λ k. slice_index_or values k []) same ∙ sym t.named, u.pinned ∙ sym t.pinned)

value-told : (x : Session) (values : List (List ℕ)) (index : ℕ) (name : List ℕ) (version : ℕ) (rows : List NamedRow)
    → IsAnswer x values (Value index name version rows)
    → IsTold (equations_of x values) values x.pinned index name version
value-told x values index name version rows a =
    let told : Value index name version rows
    ≡ Value a.level (slice_index_or values a.level []) (length x.pinned) a.rows = a.exact in
    let same : index ≡ a.level = cc told in
    let named : name ≡ slice_index_or values a.level [] = cc told in
    record {
      level = subst (IsPolicyLevel (equations_of x values)) (sym same) a.least;
      named = named ∙ ap (λ k. slice_index_or values k []) (sym same);
      pinned = cc told;
    }

news-told : (query : StandingQuery) (index : ℕ) (name : List ℕ) (version : ℕ) → IsNews query (News index name version)
    → IsTold (equations_of (asker query) query.values) query.values query.pinned index name version
news-told query index name version a =
    let told : News index name version ≡ News a.level (slice_index_or query.values a.level []) (length query.pinned) =
    a.exact in
    let same : index ≡ a.level = cc told in
    let named : name ≡ slice_index_or query.values a.level [] = cc told in
    record {
      level = subst (IsPolicyLevel (equations_of (asker query) query.values)) (sym same) a.least;
      named = named ∙ ap (λ k. slice_index_or query.values k []) (sym same);
      pinned = cc told;
    }

module _ (g : DaemonConfig) (caller : ℕ) (past : List Update) (old new after : State) (s : ℕ) (names : List ℕ)
    (index : ℕ)
    (name : List ℕ) (version : ℕ) (rows : List NamedRow) where
  -- what a question on this session is answered for these values holds of those that QUERY had
  same-asked : (P : Session → List (List ℕ) → Type 0)
      (a : IsAnswered old WithProof s names (Value index name version rows)) (session : Session)
      (values : List (List ℕ))
      → session_of old s ≡ Some session → values_of names ≡ Some values → P session values → P a.session a.values
  same-asked P a session values found named p =
      let same : session ≡ a.session = same_some (sym found ∙ a.found) in
      let same_values : values ≡ a.values = same_some (sym named ∙ a.named) in
      subst (P a.session) same_values (subst (λ x. P x values) same p)

  pub watch-tells_value : (level : ℕ) (text : List ℕ) (number : ℕ)
      → Permits g caller past old (Asks WithProof s names) (Value index name version rows) new
      → Permits g caller past old (Asks ToKeep s names) (News level text number) after
      → (level ≡ index) × (text ≡ name) × (number ≡ version)
  watch-tells_value level text number p q =
      let a = question-answered caller past old WithProof s names (Value index name version rows) p.answered in
      let b = question-answered caller past old ToKeep s names (News level text number) q.answered in
      told-once (equations_of a.session a.values) a.values a.session.pinned index name version level text number
      (value-told a.session a.values index name version rows a.answer)
      (same-asked (λ x values. IsTold (equations_of x values) values x.pinned level text number) a b.session b.values
      b.found b.named (news-told (query_with b.values b.session) level text number b.answer))

  pub critical-tells_value : (level : ℕ) (ids : List Id)
      → Permits g caller past old (Asks WithProof s names) (Value index name version rows) new
      → Permits g caller past old (Asks WithCritical s names) (Critical level ids) after → level ≡ index
  critical-tells_value level ids p q =
      let a = question-answered caller past old WithProof s names (Value index name version rows) p.answered in
      let b = question-answered caller past old WithCritical s names (Critical level ids) q.answered in
      let told : Critical level ids ≡ Critical b.answer.level b.answer.ids = b.answer.exact in
      let same : level ≡ b.answer.level = cc told in
      let value = value-told a.session a.values index name version rows a.answer in
      one-level (equations_of a.session a.values) level index
      (same-asked (λ x values. IsPolicyLevel (equations_of x values) level) a b.session b.values b.found b.named
      (subst (IsPolicyLevel (equations_of b.session b.values)) (sym same) b.answer.least))
      value.level

  pub news-tells_value : (session : Session) (values : List (List ℕ)) (level : ℕ) (text : List ℕ) (number : ℕ)
      → session_of old s ≡ Some session → values_of names ≡ Some values
      → move_standing past session ≡ watch_with values session
      → Permits g caller past old (Asks WithProof s names) (Value index name version rows) new
      → Permits g caller past old (Looks (ForNews s)) (News level text number) after
      → (level ≡ index) × (text ≡ name) × (number ≡ version)
  news-tells_value session values level text number found named keeps p q =
      let a = question-answered caller past old WithProof s names (Value index name version rows) p.answered in
      let b = news-answered caller past old s (News level text number) q.answered in
      let same : session ≡ b.session = same_some (sym found ∙ b.found) in
      let moved : Some (query_at past b.query) ≡ Some (query_with values session) =
      sym (ap (option_map (query_at past)) (ap (λ (x : Session). x.standing) same ∙ b.standing))
      ∙ ap (λ (x : Session). x.standing) keeps in
      let news : IsNews (query_with values session) (News level text number) =
      subst (λ query. IsNews query (News level text number)) (same_some moved) b.news in
      told-once (equations_of a.session a.values) a.values a.session.pinned index name version level text number
      (value-told a.session a.values index name version rows a.answer)
      (same-asked (λ x v. IsTold (equations_of x v) v x.pinned level text number) a session values found named
      (news-told (query_with values session) level text number news))

module _ (g : DaemonConfig) (caller : ℕ) (past : List Update) (old new after : State) (s : ℕ) (names : List ℕ) where
  pub critical-one : (level index : ℕ) (ids others : List Id)
      → Permits g caller past old (Asks WithCritical s names) (Critical level ids) new
      → Permits g caller past old (Asks WithCritical s names) (Critical index others) after
      → (level ≡ index) × (ids ≡ others)
  critical-one level index ids others p q =
      let a = question-answered caller past old WithCritical s names (Critical level ids) p.answered in
      let b = question-answered caller past old WithCritical s names (Critical index others) q.answered in
      let told : Critical level ids ≡ Critical a.answer.level a.answer.ids = a.answer.exact in
      let also : Critical index others ≡ Critical b.answer.level b.answer.ids = b.answer.exact in
      let level_is : level ≡ a.answer.level = cc told in
      let index_is : index ≡ b.answer.level = cc also in
      let ids_are : ids ≡ a.answer.ids = cc told in
      let others_are : others ≡ b.answer.ids = cc also in
      let one : IsCriticalAnswer a.session a.values (Critical b.answer.level b.answer.ids) = again a b in
      let same : Critical b.answer.level b.answer.ids ≡ Critical one.level one.ids = one.exact in
      let same_level : b.answer.level ≡ one.level = cc in
      let same_ids : b.answer.ids ≡ one.ids = cc in (
        level_is ∙ one-level (equations_of a.session a.values) a.answer.level one.level a.answer.least one.least
            ∙ sym (index_is ∙ same_level),
        ids_are
            ∙ one-critical (asked_of a.session a.values) (session_parts a.session)
            (session_parts a.session) a.answer.ids one.ids
            a.answer.critical one.critical
            ∙ sym (others_are ∙ same_ids),
      )
    where
      again : (a : IsAnswered old WithCritical s names (Critical level ids))
          (b : IsAnswered old WithCritical s names (Critical index others))
          → IsCriticalAnswer a.session a.values (Critical b.answer.level b.answer.ids)
      again a b =
          let same : b.session ≡ a.session = same_some (sym b.found ∙ a.found) in
          let same_values : b.values ≡ a.values = same_some (sym b.named ∙ a.named) in
          subst (λ v. IsCriticalAnswer a.session v (Critical b.answer.level b.answer.ids)) same_values
          (subst (λ x. IsCriticalAnswer x b.values (Critical b.answer.level b.answer.ids)) same
          (subst (IsCriticalAnswer b.session b.values) b.answer.exact b.answer))
