-- The standing query of a session: keeping it, and answering it anew.
use Rattle.std.proofs.Common.{◌≡◌, ℕ, Bool, true, false, List, [], ◌∷◌, length, refl, sym, ap, ◌∙◌, subst}
use Rattle.std.proofs.Common.{Option, Some, None}
use Rattle.std.specs.Prelude.{◌==◌, option_map, slice_index_or, IsSomeAnd}
use Rattle.kn_env.specs.Values.{values_of}
use Rattle.kn_outside.specs.Seen.{LinkSeen}
use Rattle.kn_outside.specs.Printing.{Prints}
use Rattle.kn_history.specs.declared.update.Update.{Update}
use Rattle.kn_session.specs.declared.fault.SessionFault.{SessionFault}
use Rattle.kn_session.specs.Connection.{with_open_session}
use Rattle.kn_session.specs.Sessions.{Session, OpenSessions, StandingQuery, session_in, with_changed, fault_in}
use Rattle.kn_session.specs.Sessions.{query_with, watch_with, query_at, move_standing, asker, standing_fault}
use Rattle.kn_reply.specs.declared.refusal.Refusal.{Refusal}
use Rattle.kn_reply.specs.Replies.{News, NoMemory, reply_text}
use Rattle.kn_meaning.specs.Equations.{IsPolicyLevel}
use Rattle.kn_daemon.specs.Shapes.{Shape, ToKeep, Asks, ForNews, Looks}
use Rattle.kn_daemon.specs.Daemon.{DaemonConfig, State, session_of, own_refusal, equations_of, refusal_by}
use Rattle.kn_daemon.specs.Daemon.{refusal_of_session, in_session, state_keeping, with_session}
use Rattle.kn_daemon.proofs.Answered.{answers-question, answers-news}
use Rattle.kn_daemon.proofs.Faults.{session-refusal}
use Rattle.kn_registry.specs.Passes.{PassSeen, Looks as PassLooks, Stays}
use Rattle.kn_serve.specs.Handling.{Moment, in_state, Handles, Tells, refused_reply}
use Rattle.kn_serve.proofs.CallingLaws.{state_with}
use Rattle.kn_serve.proofs.HandlingLaws.{told_memory, told_either, told_done, looked_handled, lacking_handled}
use Rattle.kn_serve.proofs.HandlingLaws.{unserved_handled}

-- the session of this number, after a change of it that keeps the number
changed_found : (change : Session → Session) → ((x : Session) → (change x).number ≡ x.number) →
    (s : ℕ) (sessions : List Session) →
    session_in (with_changed sessions s change) s ≡ option_map change (session_in sessions s)
changed_found change keeps s [] = refl
changed_found change keeps s (x ∷ xs) = by (x.number == s) refl (changed_found change keeps s xs)
  where
    by : (b : Bool) → (x.number == s) ≡ b →
        session_in (with_changed xs s change) s ≡ option_map change (session_in xs s) →
        session_in (with_changed (x ∷ xs) s change) s ≡ option_map change (session_in (x ∷ xs) s)
    by true here later = rw (here, keeps x, here) refl
    by false other later = rw (other, other) later

module _ (a b : OpenSessions) (s : ℕ) (session : Session) (values : List (List ℕ))
    (there : session_in a.sessions s ≡ Some session) (after : b ≡ with_open_session a s (watch_with values)) where
  -- the session has kept its query
  keeps : session_in b.sessions s ≡ Some (watch_with values session)
  keeps =
      ap (λ (x : OpenSessions). session_in x.sessions s) after
      ∙ changed_found (watch_with values) (λ x. refl) s a.sessions
      ∙ ap (option_map (watch_with values)) there

  -- so it isn't missing
  pub kept_stands : (fault : SessionFault) →
      fault_in s (session_in b.sessions s) standing_fault ≡ Some fault → ⊥
  kept_stands fault missing =
      let none : None ≡ Some fault = sym (ap (λ (o : Option Session). fault_in s o standing_fault) keeps) ∙ missing in
      cc

  -- and it is the one that is found
  pub kept_is : (query : StandingQuery) →
      IsSomeAnd (session_in b.sessions s) (λ x. x.standing ≡ Some query) → query ≡ query_with values session
  kept_is query found =
      let same : Some (query_with values session) ≡ Some query =
      subst (λ (o : Option Session). IsSomeAnd o (λ x. x.standing ≡ Some query)) keeps found in
      cc

-- memory ran out before the query was kept
pub watch_unkept : (g : DaemonConfig) (whole : Bool) (a b : OpenSessions) (is_admin : Bool) (s : ℕ) (names : List ℕ)
    (l l' : LinkSeen) → b ≡ a → Prints whole (reply_text NoMemory) l l' →
    Tells g (Asks ToKeep s names) whole (state_with a is_admin) (state_with b is_admin) l l'
watch_unkept g whole a b is_admin s names l l' same prints =
    let told : OpenSessions → Type 0 =
    λ x. Tells g (Asks ToKeep s names) whole (state_with a is_admin) (state_with x is_admin) l l' in
    subst told (sym same) (told_memory g (Asks ToKeep s names) whole (state_with a is_admin) l l' refl prints)

-- the query is kept, and answered
pub watch_answered : (g : DaemonConfig) (whole : Bool) (a b : OpenSessions) (is_admin : Bool) (s : ℕ) (names : List ℕ)
    (l l' : LinkSeen) (session : Session) (values : List (List ℕ)) (level version : ℕ) (query : StandingQuery) →
    session_in a.sessions s ≡ Some session → values_of names ≡ Some values →
    IsPolicyLevel (equations_of session values) level → version ≡ length session.pinned →
    b ≡ with_open_session a s (watch_with values) → query ≡ query_with values session →
    Prints whole (reply_text (News level (slice_index_or query.values level []) version)) l l' →
    Tells g (Asks ToKeep s names) whole (state_with a is_admin) (state_with b is_admin) l l'
watch_answered g whole a b is_admin s names l l' session values level version query there named least at after is
    prints =
    told_done g (Asks ToKeep s names) whole (state_with a is_admin) l l' (state_with b is_admin)
    (News level (slice_index_or query.values level []) version) refl (rw there (rw named refl))
    (λ caller past. answers-question caller past (state_with a is_admin) ToKeep s names
    (News level (slice_index_or query.values level []) version)
    (record {
      session = session;
      values = values;
      found = there;
      named = named;
      answer = record { level = level; exact = told; least = least };
    })) (λ past. next) (λ caller. refl) refl prints
  where
    told : News level (slice_index_or query.values level []) version
        ≡ News level (slice_index_or values level []) (length session.pinned)
    told =
        ap (λ (q : StandingQuery). News level (slice_index_or q.values level []) version) is
        ∙ ap (λ (n : ℕ). News level (slice_index_or values level []) n) at

    next : state_with b is_admin ≡ state_keeping (state_with a is_admin) s (values_of names)
    next =
        ap (λ (x : OpenSessions). state_with x is_admin) after
        ∙ ap (λ (o : Option (List (List ℕ))). state_keeping (state_with a is_admin) s o) (sym named)

-- Answering it anew.

abbrev asks_anew : ℕ → Shape
asks_anew s = Looks (ForNews s)

-- no standing query is found
pub news_refused : (g : DaemonConfig) (whole : Bool) (now : State) (s : ℕ) (l l' : LinkSeen) (fault : SessionFault)
    (told : Option Refusal) → fault_in s (session_of now s) standing_fault ≡ Some fault →
    told ≡ refusal_of_session fault → Prints whole (reply_text (refused_reply told)) l l' →
    Tells g (asks_anew s) whole now now l l'
news_refused g whole now s l l' fault told why is prints =
    told_either g (asks_anew s) whole now l l' told refl
    (λ due e. sym (session-refusal s (session_of now s) standing_fault) ∙ ap refusal_by why ∙ sym is ∙ e) prints

-- one is found, with the session that keeps it
pub record IsFound (found : Option Session) (query : StandingQuery) : Type 0 where
  pub session : Session
  pub there : found ≡ Some session
  pub standing : session.standing ≡ Some query

pub found_by : (found : Option Session) (query : StandingQuery) →
    IsSomeAnd found (λ x. x.standing ≡ Some query) → IsFound found query
found_by None query stands = absurd stands
found_by (Some session) query stands = record { session = session; there = refl; standing = stands }

-- and then the state refuses nothing
unrefused_by : (found : Option Session) (query : StandingQuery) → IsSomeAnd found (λ x. x.standing ≡ Some query) →
    in_session found (λ x. refusal_by (standing_fault x)) ≡ None
unrefused_by None query stands = absurd stands
unrefused_by (Some session) query stands = rw stands refl

-- the value of what was asked is the query's over that version
pub asked_level : (query : StandingQuery) (made : List Update) (asking : Session) (values : List (List ℕ)) (level : ℕ) →
    asking ≡ asker (query_at made query) → values ≡ query.values →
    IsPolicyLevel (equations_of asking values) level →
    IsPolicyLevel (equations_of (asker (query_at made query)) query.values) level
asked_level query made asking values level asks kept_values least =
    subst (λ (x : Session). IsPolicyLevel (equations_of x query.values) level) asks
    (subst (λ (y : List (List ℕ)). IsPolicyLevel (equations_of asking y) level) kept_values least)

module _ (g : DaemonConfig) (whole : Bool) (v w : PassSeen) (l l' : LinkSeen) (s : ℕ) (query : StandingQuery) where
  -- out of memory for the version
  pub news_unpinned : (now : State) → IsSomeAnd (session_of now s) (λ x. x.standing ≡ Some query) → Stays v w →
      Prints whole (reply_text NoMemory) l l' →
      Handles g (asks_anew s) whole (in_state now v l) (in_state now w l')
  news_unpinned now stands stays prints =
      lacking_handled g (asks_anew s) whole (in_state now v l) (in_state now w l') refl stays
      (unrefused_by (session_of now s) query stands) refl prints

  -- out of memory for the answer
  pub news_unanswered : (now : State) → IsSomeAnd (session_of now s) (λ x. x.standing ≡ Some query) →
      PassLooks v w → Prints whole (reply_text NoMemory) l l' →
      Handles g (asks_anew s) whole (in_state now v l) (in_state now w l')
  news_unanswered now stands looks prints =
      unserved_handled g (asks_anew s) whole (in_state now v l) (in_state now w l') refl looks
      (unrefused_by (session_of now s) query stands) refl prints

  -- the query is answered over the version, and moved to it
  pub news_answered : (a b : OpenSessions) (is_admin : Bool) (made : List Update) (asking : Session)
      (values : List (List ℕ)) (level version : ℕ) →
      IsSomeAnd (session_in a.sessions s) (λ x. x.standing ≡ Some query) → PassLooks v w → made ≡ w.seen →
      asking ≡ asker (query_at made query) → values ≡ query.values →
      IsPolicyLevel (equations_of asking values) level → version ≡ length made →
      b ≡ with_open_session a s (move_standing made) →
      Prints whole (reply_text (News level (slice_index_or query.values level []) version)) l l' →
      Handles g (asks_anew s) whole (in_state (state_with a is_admin) v l) (in_state (state_with b is_admin) w l')
  news_answered a b is_admin made asking values level version stands looks seen asks kept_values least at after prints =
      let own : own_refusal g (state_with a is_admin) (asks_anew s) ≡ None =
      unrefused_by (session_in a.sessions s) query stands in
      let found = found_by (session_in a.sessions s) query stands in
      let before : Moment = in_state (state_with a is_admin) v l in
      let moved : Moment = in_state (state_with b is_admin) w l' in
      looked_handled g (asks_anew s) whole before moved
      (News level (slice_index_or query.values level []) version) looks own refl
      (record {
        accepted = own;
        answered =
            answers-news v.number w.seen (state_with a is_admin) s
            (News level (slice_index_or query.values level []) version)
            (record {
              session = found.session;
              query = query;
              found = found.there;
              standing = found.standing;
              news = record { level = level; exact = told; least = least_now };
            });
        next = next;
      }) prints
    where
      told : News level (slice_index_or query.values level []) version
          ≡ News level (slice_index_or query.values level []) (length w.seen)
      told =
          ap (λ (n : ℕ). News level (slice_index_or query.values level []) n)
          (at ∙ ap (λ (u : List Update). length u) seen)

      least_now : IsPolicyLevel (equations_of (asker (query_at w.seen query)) query.values) level
      least_now =
          subst (λ (u : List Update). IsPolicyLevel (equations_of (asker (query_at u query)) query.values) level) seen
          (asked_level query made asking values level asks kept_values least)

      next : state_with b is_admin ≡ with_session (state_with a is_admin) s (move_standing w.seen)
      next =
          ap (λ (x : OpenSessions). state_with x is_admin) after
          ∙ ap (λ (u : List Update). with_session (state_with a is_admin) s (move_standing u)) seen
