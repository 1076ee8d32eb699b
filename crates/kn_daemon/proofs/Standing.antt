-- What a session's standing query is behind a request.
use Rattle.std.proofs.Common.{◌≡◌, ◌≢◌, ℕ, Bool, true, false, cond, ◌==◌, List, [], ◌∷◌, ◌++◌, length, Option, Some}
use Rattle.std.proofs.Common.{None, option_map, option_and_then, sym, ap, ◌∙◌, subst, refl}
use Rattle.std.specs.Prelude.{IsSomeAnd, slice_index_or, ◌+◌}
use Rattle.kn_env.specs.Values.{values_of}
use Rattle.kn_history.specs.declared.update.Update.{Update}
use Rattle.kn_history.specs.Retained.{retained_version}
use Rattle.kn_session.specs.Sessions.{StandingQuery, Session, session_in, with_changed, started_session}
use Rattle.kn_session.specs.Sessions.{query_with, watch_with, query_at, move_standing}
use Rattle.kn_session.specs.Calls.{Call, after_call}
use Rattle.kn_session.specs.Calls as C
use Rattle.kn_session.specs.Laws.{standing_in}
use Rattle.kn_session.proofs.StandingQueries.{found_here, found_other, calls_keep_standing, others_keep_standing}
use Rattle.kn_session.proofs.StandingQueries.{pins_keep_standing, moves_version_alone}
use Rattle.kn_reply.specs.Replies.{Reply, News, No, NoMemory}
use Rattle.kn_daemon.specs.Shapes.{Look, ForOpen, ForPin, ForPinAt, ForNews, ForLog, Question, WithProof}
use Rattle.kn_daemon.specs.Shapes.{WithCritical, ToKeep, Control, ShowSecret, Leave, Shape, Calls, Updates, Looks, Asks}
use Rattle.kn_daemon.specs.Shapes.{Controls, AtFault}
use Rattle.kn_daemon.specs.Daemon.{DaemonConfig, State, session_of, pinned_to, state_keeping, state_after}
use Rattle.kn_daemon.specs.Daemon.{IsNews, Does, Permits}
use Rattle.kn_daemon.specs.QuestionLaws.{standing_of}
use Rattle.kn_daemon.proofs.Answered.{question-answered, news-answered}

-- a session that comes last and has none
standing-started : (t : ℕ) (xs : List Session) (y : Session) → y.standing ≡ None
    → standing_in (xs ++ y ∷ []) t ≡ standing_in xs t
standing-started t [] y none = by (y.number == t)
  where
    by : (b : Bool) → option_and_then (λ x. x.standing) (cond b (Some y) None) ≡ None
    by true = none
    by false = refl
standing-started t (x ∷ xs) y none = by (x.number == t) (standing-started t xs y none)
  where
    found : Bool → Option Session → Option StandingQuery
    found b rest = option_and_then (λ z. z.standing) (cond b (Some x) rest)

    by : (b : Bool) → standing_in (xs ++ y ∷ []) t ≡ standing_in xs t
        → found b (session_in (xs ++ y ∷ []) t) ≡ found b (session_in xs t)
    by true same = refl
    by false same = same

-- a change of another session
standing-other : (f : Session → Session) → ((x : Session) → (f x).number ≡ x.number) → (xs : List Session) (s t : ℕ)
    → s ≢ t → standing_in (with_changed xs s f) t ≡ standing_in xs t
standing-other f keeps xs s t other = ap (option_and_then (λ x. x.standing)) (found_other f keeps xs t s other)

standing-called : (s t : ℕ) (call : Call) → Calls s call ≢ Calls t C.Close → Calls s call ≢ Calls t C.Unwatch
    → (xs : List Session) → standing_in (after_call xs s call) t ≡ standing_in xs t
standing-called s t C.Close no_close no_end xs =
    others_keep_standing xs t s C.Close (λ e. no_close (ap (λ k. Calls k C.Close) e))
standing-called s t C.Unwatch no_close no_end xs =
    others_keep_standing xs t s C.Unwatch (λ e. no_end (ap (λ k. Calls k C.Unwatch) e))
standing-called s t call no_close no_end xs = calls_keep_standing xs t s call (λ e. cc e) (λ e. cc e)

standing-looked : (past : List Update) (state : State) (look : Look) (t : ℕ) → Looks look ≢ Looks (ForNews t)
    → standing_of (state_after past state (Looks look)) t ≡ standing_of state t
standing-looked past state ForOpen t other =
    standing-started t state.sessions (started_session (state.started + 1) past) refl
standing-looked past state (ForPin s) t other = pins_keep_standing state.sessions t s past
standing-looked past state (ForPinAt s version) t other = by (retained_version past version)
  where
    by : (o : Option (List Update)) → standing_of (pinned_to state s o) t ≡ standing_of state t
    by None = refl
    by (Some there) = pins_keep_standing state.sessions t s there
standing-looked past state (ForNews s) t other =
    standing-other (move_standing past) (λ x. refl) state.sessions s t
    (λ e. other (ap (λ k. Looks (ForNews k)) e))
standing-looked past state (ForLog n) t other = refl

standing-questioned : (past : List Update) (state : State) (question : Question) (s : ℕ) (names : List ℕ) (t : ℕ)
    → ((text : List ℕ) → Asks question s names ≢ Asks ToKeep t text)
    → standing_of (state_after past state (Asks question s names)) t ≡ standing_of state t
standing-questioned past state WithProof s names t other = refl
standing-questioned past state WithCritical s names t other = refl
standing-questioned past state ToKeep s names t other = by (values_of names)
  where
    by : (o : Option (List (List ℕ))) → standing_of (state_keeping state s o) t ≡ standing_of state t
    by None = refl
    by (Some values) =
        standing-other (watch_with values) (λ x. refl) state.sessions s t
        (λ e. other names (ap (λ k. Asks ToKeep k names) e))

standing-controlled : (past : List Update) (state : State) (control : Control) (t : ℕ)
    → standing_of (state_after past state (Controls control)) t ≡ standing_of state t
standing-controlled past state (ShowSecret bytes) t = refl
standing-controlled past state Leave t = refl

module _ (g : DaemonConfig) (caller : ℕ) (past : List Update) (old : State) where
  standing-changed : (shape : Shape) (t : ℕ) → shape ≢ Calls t C.Close → shape ≢ Calls t C.Unwatch
      → ((names : List ℕ) → shape ≢ Asks ToKeep t names) → shape ≢ Looks (ForNews t)
      → standing_of (state_after past old shape) t ≡ standing_of old t
  standing-changed (Calls s call) t no_close no_end no_watch no_news =
      standing-called s t call no_close no_end old.sessions
  standing-changed (Updates update) t no_close no_end no_watch no_news = refl
  standing-changed (Looks look) t no_close no_end no_watch no_news = standing-looked past old look t no_news
  standing-changed (Asks question s names) t no_close no_end no_watch no_news =
      standing-questioned past old question s names t no_watch
  standing-changed (Controls control) t no_close no_end no_watch no_news = standing-controlled past old control t
  standing-changed (AtFault fault) t no_close no_end no_watch no_news = refl

  pub standing-stays : (shape : Shape) (reply : Reply) (new : State) (t : ℕ)
      → Permits g caller past old shape reply new → shape ≢ Calls t C.Close → shape ≢ Calls t C.Unwatch
      → ((names : List ℕ) → shape ≢ Asks ToKeep t names) → shape ≢ Looks (ForNews t)
      → standing_of new t ≡ standing_of old t
  standing-stays shape (No refusal) new t p no_close no_end no_watch no_news = ap (λ state. standing_of state t) p.1
  standing-stays shape NoMemory new t p no_close no_end no_watch no_news = ap (λ state. standing_of state t) p.1
  standing-stays shape reply new t p no_close no_end no_watch no_news =
      ap (λ state. standing_of state t) (due reply p) ∙ standing-changed shape t no_close no_end no_watch no_news
    where
      due : (r : Reply) → Does g caller past old shape r new → new ≡ state_after past old shape
      due r d = d.next

  -- NEWS moves the standing query to the version of its place, and tells it there
  pub news-of_place : (s index : ℕ) (name : List ℕ) (version : ℕ) (new : State)
      → Permits g caller past old (Looks (ForNews s)) (News index name version) new
      → (version ≡ length past) × (standing_of new s ≡ option_map (query_at past) (standing_of old s))
      × IsSomeAnd (standing_of new s) (λ query. IsNews query (News index name version))
  news-of_place s index name version new p =
      let a = news-answered caller past old s (News index name version) p.answered in
      let told : News index name version
      ≡ News a.news.level (slice_index_or a.query.values a.news.level []) (length past) = a.news.exact in
      let moved : standing_of new s ≡ option_map (query_at past) (standing_of old s) =
      ap (λ state. standing_of state s) p.next ∙ moves_version_alone old.sessions s past in
      let before : standing_of old s ≡ Some a.query = ap (option_and_then (λ x. x.standing)) a.found ∙ a.standing in
      let after : standing_of new s ≡ Some (query_at past a.query) = moved ∙ ap (option_map (query_at past)) before in (
        cc told,
        moved,
        subst (λ o. IsSomeAnd o (λ query. IsNews query (News index name version))) (sym after) a.news,
      )

  -- WATCH keeps what the session asks with, and tells that
  pub watch-of_pin : (s : ℕ) (names : List ℕ) (index : ℕ) (name : List ℕ) (version : ℕ) (new : State)
      → Permits g caller past old (Asks ToKeep s names) (News index name version) new
      → IsSomeAnd (session_of old s) (λ x. version ≡ length x.pinned)
      × IsSomeAnd (standing_of new s) (λ query. IsNews query (News index name version))
  watch-of_pin s names index name version new p =
      let a = question-answered caller past old ToKeep s names (News index name version) p.answered in
      let told : News index name version
      ≡ News a.answer.level (slice_index_or a.values a.answer.level []) (length a.session.pinned) = a.answer.exact in
      let at : version ≡ length a.session.pinned = cc told in
      let state_after : List Session = with_changed old.sessions s (watch_with a.values) in
      let keeps : session_in state_after s ≡ Some (watch_with a.values a.session) =
      found_here (watch_with a.values) (λ x. refl) old.sessions s ∙ ap (option_map (watch_with a.values)) a.found in
      let after : standing_of new s ≡ Some (query_with a.values a.session) =
      ap (λ state. standing_of state s) (p.next ∙ ap (state_keeping old s) a.named)
      ∙ ap (option_and_then (λ x. x.standing)) keeps in (
        subst (λ o. IsSomeAnd o (λ x. version ≡ length x.pinned)) (sym a.found) at,
        subst (λ o. IsSomeAnd o (λ query. IsNews query (News index name version))) (sym after) a.answer,
      )
