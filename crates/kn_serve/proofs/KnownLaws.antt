-- The value of a standing query over its version, which is known.
use Rattle.std.proofs.Common.{◌≡◌, ℕ, ◌≤◌, List, length, take, Option, Some, None, sym, ap, ◌∙◌, subst}
use Rattle.std.specs.Prelude.{IfSome, IsSomeAnd, option_and_then}
use Rattle.std.specs.Option.{ForSome}
use Rattle.kn_history.specs.declared.update.Update.{Update}
use Rattle.kn_meaning.specs.Equations.{IsPolicyLevel}
use Rattle.kn_session.specs.Sessions.{Session, StandingQuery, session_in, query_at, asker, pin_at}
use Rattle.kn_session.specs.Asking.{IsLevelIfKnown, IsQueryLevelIfKnown}
use Rattle.kn_session.specs.Laws.{standing_in}
use Rattle.kn_daemon.specs.Daemon.{State, session_of, equations_of}
use Rattle.kn_registry.specs.Passes.{PassSeen, Looks}
use Rattle.kn_query.specs.declared.level.KnownLevel.{KnownLevel}
use Rattle.kn_query.specs.KnownLevels.{IsEarlierLevel}
use Rattle.kn_serve.specs.KeptBases.{IsFirstOf, ArePinned}
use Rattle.kn_serve.proofs.PinnedLaws.{first-fewer, first-grown}
use Rattle.kn_serve.proofs.WatchingLaws.{found_by, asked_level}

-- a query that is kept has the value that was found
pub kept_level : (sessions : List Session) (s : ℕ) (session : Session) (values : List (List ℕ)) (level : ℕ)
    → session_in sessions s ≡ Some session → IsPolicyLevel (equations_of session values) level
    → ForSome (session_in sessions s) (λ x. IsLevelIfKnown x values (Some level))
kept_level sessions s session values level there least = λ x found.
    let same : session ≡ x = cc (there, found) in
    subst (λ (y : Session). IsPolicyLevel (equations_of y values) level) same least

-- a query that is moved has the value that was found over the version
pub moved_level : (sessions : List Session) (s : ℕ) (query : StandingQuery) (made : List Update) (asking : Session)
    (values : List (List ℕ)) (level : ℕ) → IsSomeAnd (session_in sessions s) (λ x. x.standing ≡ Some query)
    → asking ≡ asker (query_at made query) → values ≡ query.values → IsPolicyLevel (equations_of asking values) level
    → ForSome (standing_in sessions s) (λ q. IsQueryLevelIfKnown (query_at made q) (Some level))
moved_level sessions s query made asking values level stands asks kept_values least = λ q at.
    let found = found_by (session_in sessions s) query stands in
    let there : standing_in sessions s ≡ Some query =
    ap (λ (o : Option Session). option_and_then (λ x. x.standing) o) found.there ∙ found.standing in
    let same : query ≡ q = cc (there, at) in
    subst (λ (x : StandingQuery). IsQueryLevelIfKnown (query_at made x) (Some level)) same
    (asked_level query made asking values level asks kept_values least)

-- the version of a standing query is a first part of what is seen later
pub standing_first : (v w : PassSeen) (made : List Update) (state : State) (s : ℕ) (query : StandingQuery)
    → ArePinned v.seen state → IsSomeAnd (session_of state s) (λ x. x.standing ≡ Some query) → Looks v w
    → made ≡ w.seen → IsFirstOf query.pinned made
standing_first v w made state s query pinned stands looks seen =
    let found = found_by (session_of state s) query stands in
    let first : IsFirstOf query.pinned v.seen =
    subst (λ (o : Option StandingQuery). IfSome o (λ q. IsFirstOf q.pinned v.seen)) found.standing
    (pinned s found.session found.there).standing in
    subst (IsFirstOf query.pinned) (sym (seen ∙ looks.moves.seen))
    (first-grown query.pinned v.seen looks.more first)

-- what it had over its own version is its value over an earlier one, where it is asked over what is seen later
pub earlier_level : (query : StandingQuery) (made : List Update) (asking : Session) (values : List (List ℕ))
    (known : Option KnownLevel) → IsFirstOf query.pinned made → asking ≡ asker (query_at made query)
    → values ≡ query.values → IfSome known (λ k. k.version ≡ length query.pinned)
    → IfSome known (λ k. IsQueryLevelIfKnown query (Some k.level)) → IfSome known (IsEarlierLevel asking values)
earlier_level query made asking values None first asks kept_values version level = tt
earlier_level query made asking values (Some known) first asks kept_values version level =
    let own : take known.version made ≡ query.pinned = ap (λ (n : ℕ). take n made) version ∙ sym first in
    let earlier : IsEarlierLevel (asker (query_at made query)) query.values known = record {
      earlier = subst (λ (n : ℕ). n ≤ length made) (sym version) (first-fewer query.pinned made first);
      level = subst (λ (u : List Update).
          IsPolicyLevel (equations_of (pin_at u (asker query)) query.values) known.level) (sym own) level;
    } in
    subst (λ (x : Session). IsEarlierLevel x values known) (sym asks)
    (subst (λ (vs : List (List ℕ)). IsEarlierLevel (asker (query_at made query)) vs known) (sym kept_values) earlier)
