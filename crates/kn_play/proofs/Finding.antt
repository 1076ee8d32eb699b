-- The query that a script means, from what was played.
use Rattle.std.proofs.Common.{◌≡◌, ◌≤◌, ℕ, List, [], ◌∷◌, ◌++◌, length, take, arith, refl, sym, ap, ◌∙◌, subst, Some}
use Rattle.std.proofs.Common.{None, append_assoc, length-append, take_all, take_at}
use Rattle.kn_history.specs.declared.update.Update.{Update}
use Rattle.kn_wire.proofs.Readings.{one_reading}
use Rattle.kn_session.specs.Sessions.{Session, session_in}
use Rattle.kn_daemon.specs.Daemon.{first_state, session_of}
use Rattle.kn_daemon.specs.Played.{played, up_to_end, no_config, IsAsking, IsLastQuery}
use Rattle.kn_daemon.proofs.Meaning.{one_meant}
use Rattle.kn_play.specs.declared.playing.AnsweredQuery.{AnsweredQuery}
use Rattle.kn_play.specs.declared.playing.Played.{Played}
use Rattle.kn_play.specs.LastQueries.{Means}
use Rattle.kn_play.specs.Playing.{state_of_sessions, AskNothing, HasLast, IsLast, IsPlayed}
use Rattle.kn_play.proofs.Requests.{few-played, one-end}
use Rattle.kn_play.proofs.ScriptLoops.{played-append, nothing-at}

pub one-query : (history : List Update) (script : List ℕ) (session other : Session) (values others : List (List ℕ))
    → Means history script session values → Means history script other others
    → (session ≡ other) × (values ≡ others)
one-query history script session other values others a b =
    one_meant history a.requests session other values others a.meant
    (subst (λ requests. IsLastQuery history requests other others)
    (sym (one_reading script a.requests b.requests a.rest b.rest a.whole b.whole).0) b.meant)

module _ (history : List Update) (script : List ℕ) (most : ℕ) (p : Played) (q : IsPlayed history script most p)
    (whole : length script ≤ most) where
  has-last : HasLast history q.requests p.last
  has-last = let few = few-played script q.requests q.these in
      subst (λ requests. HasLast history requests p.last) (take_all most q.requests (omega (arith, few, whole))) q.last

  -- no query was answered with a value, so none is meant
  pub means-none : p.last ≡ None → (session : Session) (values : List (List ℕ)) → Means history script session values
      → ⊥
  means-none none session values m =
      let last : HasLast history q.requests None = subst (HasLast history q.requests) none has-last in
      let same : q.requests ≡ up_to_end m.requests =
      one-end script q.requests (up_to_end m.requests) q.these
      (record { all = m.requests; rest = m.rest; whole = m.whole; end = refl }) in
      nothing-at history first_state m.meant.front m.meant.query m.meant.behind
      (subst (λ requests. HasLast history requests None) (same ∙ m.meant.cut) last) session values m.meant.asking

  module _ (last : AnsweredQuery) (some : p.last ≡ Some last) where
    is-last : IsLast history q.requests last
    is-last = subst (HasLast history q.requests) some has-last

    pub few-before : last.before ≤ length script
    few-before =
        let few = few-played script q.requests q.these in
        let size = ap length is-last.cut ∙ length-append is-last.front (is-last.query ∷ is-last.behind) in
        let before = is-last.before in
        omega (arith, few, size, before)

    -- the last query that was answered with a value is the one that is meant, and the requests before it were played
    pub means-last : (before : Played) → IsPlayed history script last.before before
        → (session : Session) × (session_in before.sessions.sessions last.asked.session ≡ Some session)
        × Means history script session last.asked.values
    means-last before b =
        let l = is-last in
        let same : b.requests ≡ q.requests = one-end script b.requests q.requests b.these q.these in
        let front : take last.before b.requests ≡ l.front = ap (take last.before) (same ∙ l.cut)
        ∙ take_at l.front (l.query ∷ l.behind) last.before (sym l.before) in
        let state : state_of_sessions before.sessions ≡ played no_config history first_state l.front = b.state
        ∙ ap (played no_config history first_state) front in (
          l.asks.0,
          ap (λ s. session_of s last.asked.session) state ∙ l.asks.1,
          record {
            requests = q.these.all;
            rest = q.these.rest;
            whole = q.these.whole;
            meant = record {
              front = l.front;
              query = l.query;
              behind = l.behind;
              cut = q.these.end ∙ l.cut;
              asking = l.asks.2;
              last = λ between other rest s v cut asking.
                  nothing-at history (played no_config history first_state (l.front ++ l.query ∷ [])) between other
                  rest
                  (subst (AskNothing history (played no_config history first_state (l.front ++ l.query ∷ []))) cut
                  l.last)
                  s v (subst (λ state. IsAsking state other s v)
                  (ap (played no_config history first_state) (sym (append_assoc l.front (l.query ∷ []) between))
                  ∙ played-append history first_state (l.front ++ l.query ∷ []) between) asking);
            };
          },
        )
