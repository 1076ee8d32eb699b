-- That the connections that ask for critical assertions are served as they say.
use Rattle.std.proofs.Common.{rules, ℕ, ◌≡◌, ◌≤◌, [], ◌∷◌, ◌++◌, List, codes, refl, sym, subst, ap, ◌∙◌, inl, inr}
use Rattle.std.proofs.Common.{le_refl, arith, None, Some, Result, if◌then◌else◌}
use Rattle.std.specs.Fmt.{digits}
use Rattle.std.specs.Str.{bytes_eq}
use Rattle.std.specs.Result.{result_ok}
use Rattle.kn_env.specs.Environment.{Asked}
use Rattle.kn_fields.specs.declared.fault.ReadFault.{ReadFault}
use Rattle.kn_trees.specs.declared.assertion.Assertion.{Assertion}
use Rattle.kn_trees.specs.declared.formula.Formula.TheFolds.{fold_out-Formula}
use Rattle.kn_trees.specs.declared.formula.Formula.TheViews.{the_lemmas}
use Rattle.kn_trees.specs.declared.formula.Formula.TheVariants.{Who}
use Rattle.kn_trees.specs.Formulas.{formula_nodes}
use Rattle.kn_assert.specs.Reading.{assertion_of}
use Rattle.kn_proof.specs.declared.named.Id.{Id}
use Rattle.kn_proof.specs.declared.named.Id.TheVariants.{Shared, Private}
use Rattle.kn_meaning.specs.Critical.{IsCritical, AreCritical, equation_nodes}
use Rattle.kn_meaning.specs.Formulas.{Levels}
use Rattle.kn_meaning.specs.Equations.{Part, Equations, round, equations_over, IsPolicyLevel}
use Rattle.kn_meaning.specs.Examples as M
use Rattle.kn_meaning.proofs.Walks.{formula_level_who}
use Rattle.kn_session.specs.Sessions.{Session, started_session}
use Rattle.kn_session.specs.Calls.{private_fault}
use Rattle.kn_reply.specs.declared.refusal.Refusal.TheVariants as R
use Rattle.kn_wire.specs.Requests.{Open, Assert, Auth, Critical as ForCritical}
use Rattle.kn_reply.specs.Replies.{Done, Started, PrivateAdded, Critical}
use Rattle.kn_daemon.specs.Shapes.{shape_of}
use Rattle.kn_daemon.specs.Daemon.{State, part_by, asked_of, session_parts, refusal_of_nodes, refusal_at_reading}
use Rattle.kn_daemon.specs.Daemon.{refusal_by}
use Rattle.kn_daemon.specs.Daemon.{first_state, state_after}
use Rattle.kn_daemon.specs.Linearized.{Exchange, requests_in}
use Rattle.kn_daemon.proofs.LevelReplies.{one-level}
use Rattle.kn_worked.specs.Texts.{policy_assertion, credential_text, credential_assertion}
use Rattle.kn_worked.specs.Connections.{policy_history, doubled_history, BothAreCritical, NeitherIsCritical}
use Rattle.kn_worked.proofs.Readings.{policy_reading, credential_reading}
use Rattle.kn_worked.proofs.Levels.{two_values, policy_valid, pinned_session, alice_level, bob_session, bob_level}
use Rattle.kn_worked.proofs.Levels.{longer_level, shorter_level}
use Rattle.kn_worked.proofs.Admin.{after_open}
use Rattle.kn_worked.proofs.Turns.{turns_stand, all_answered}

abbrev policy_part : ℕ → Part
policy_part k = record { id = Shared k; assertion = policy_assertion }

-- The session has the credential as its own assertion.

abbrev own_part : Part
own_part = record { id = Private 1; assertion = credential_assertion }

abbrev both_parts : List Part
both_parts = policy_part 1 ∷ own_part ∷ []

abbrev own_session : Session
own_session = record bob_session { privates = record { id = 1; text = credential_text } ∷ []; made = 1 }

own_session_parts : session_parts own_session ≡ both_parts
own_session_parts =
    ap (λ (r : Result Assertion ReadFault).
    (part_by Shared 1 (result_ok r) ++ []) ++ (part_by Private 1 (assertion_of credential_text) ++ []))
    policy_reading
    ∙ ap (λ (r : Result Assertion ReadFault).
    (part_by Shared 1 (Some policy_assertion) ++ []) ++ (part_by Private 1 (result_ok r) ++ []))
    credential_reading

abbrev bob_asked : Asked
bob_asked = asked_of own_session two_values

-- one principal is one node
one_node : (name : List ℕ) → formula_nodes (Who name) ≡ 1
unfolding formula_nodes
one_node name = search (rules, the_lemmas, fold_out-Formula)

both_few : refusal_of_nodes (equation_nodes (equations_over bob_asked both_parts)) ≡ None
both_few =
    let first = one_node (codes "alice") in
    let second = one_node (codes "bob") in
    let two : equation_nodes (equations_over bob_asked both_parts) ≡ 2 = omega (arith, first, second) in
    ap refusal_of_nodes two

-- an id changes no level
both_level : IsPolicyLevel (equations_over bob_asked both_parts) 1
both_level = record {
  levels = longer_level.levels;
  least = record { solves = longer_level.least.solves; least = longer_level.least.least };
  here = longer_level.here;
}

own_level : IsPolicyLevel (equations_over bob_asked (own_part ∷ [])) 0
own_level = record {
  levels = shorter_level.levels;
  least = record { solves = shorter_level.least.solves; least = shorter_level.least.least };
  here = shorter_level.here;
}

policy_level : IsPolicyLevel (equations_over bob_asked (policy_part 1 ∷ [])) 0
policy_level = record {
  levels = bob_level.levels;
  least = record { solves = bob_level.least.solves; least = bob_level.least.least };
  here = bob_level.here;
}

both_critical : AreCritical bob_asked both_parts both_parts (Shared 1 ∷ Private 1 ∷ [])
both_critical = (
  Private 1 ∷ [],
  (
    [],
    refl,
    inl (record { level = 1; lower = 0; least = both_level; least_without = policy_level; lowers = omega arith }, refl),
  ),
  inl (record { level = 1; lower = 0; least = both_level; least_without = own_level; lowers = omega arith }, refl),
)

abbrev opened_session : Session
opened_session = started_session 1 policy_history

after_assert : State
after_assert = state_after policy_history after_open (shape_of (Assert 1 credential_text))

after_auth : State
after_auth = state_after policy_history after_assert (shape_of (Auth 1 (codes "bob")))

abbrev both_exchanges : List Exchange
both_exchanges =
    record { request = Open; reply = Started 1 1; place = 1 }
    ∷ record { request = Assert 1 credential_text; reply = PrivateAdded 1; place = 1 }
    ∷ record { request = Auth 1 (codes "bob"); reply = Done; place = 1 }
    ∷ record { request = ForCritical 1 (codes "no,yes"); reply = Critical 1 (Shared 1 ∷ Private 1 ∷ []); place = 1 }
    ∷ []

pub both_are_critical : BothAreCritical
unfolding digits after_assert after_auth
both_are_critical g caller = record {
  exchanges = both_exchanges;
  rest = [];
  last = after_auth;
  requests = (_, refl, (_, refl, (_, refl, (_, refl, refl))));
  replies = (
    after_open,
    record { accepted = refl; answered = refl; next = refl },
    (
      after_assert,
      record {
        accepted =
            ap (λ (r : Result Assertion ReadFault).
            refusal_at_reading R.Read r (λ a. refusal_by (private_fault credential_text a opened_session)))
            credential_reading;
        answered = refl;
        next = refl;
      },
      (
        after_auth,
        record { accepted = refl; answered = refl; next = refl },
        (
          after_auth,
          record {
            accepted =
                subst (λ parts. refusal_of_nodes (equation_nodes (equations_over bob_asked parts)) ≡ None)
                (sym own_session_parts) both_few;
            answered = record {
              level = 1;
              ids = Shared 1 ∷ Private 1 ∷ [];
              exact = refl;
              least =
                  subst (λ parts. IsPolicyLevel (equations_over bob_asked parts) 1)
                  (sym own_session_parts) both_level;
              critical =
                  subst (λ parts. AreCritical bob_asked parts parts (Shared 1 ∷ Private 1 ∷ []))
                  (sym own_session_parts) both_critical;
            };
            next = refl;
          },
          refl,
        ),
      ),
    ),
  );
  places = record {
    valid = rw policy_valid refl;
    within = le_refl 1;
    in_order = (le_refl 1, (le_refl 1, (le_refl 1, (le_refl 1, le_refl 1))));
    own = refl;
    stopped = turns_stand both_exchanges;
  };
  bytes = refl;
  one_bye = refl;
  count = omega arith;
  why = all_answered (requests_in both_exchanges) refl refl (omega arith);
}

-- The policy file has the same assertion twice.

abbrev doubled_parts : List Part
doubled_parts = policy_part 1 ∷ policy_part 2 ∷ []

abbrev doubled_session : Session
doubled_session = pinned_session doubled_history (codes "alice")

doubled_session_parts : session_parts doubled_session ≡ doubled_parts
doubled_session_parts =
    ap (λ (r : Result Assertion ReadFault).
    (part_by Shared 1 (result_ok r) ++ (part_by Shared 2 (result_ok r) ++ [])) ++ [])
    policy_reading

abbrev alice_asked : Asked
alice_asked = asked_of doubled_session two_values

abbrev doubled_equations : Equations
doubled_equations =
    M.question (codes "alice")
    (M.licence 1 (codes "POLICY") (codes "alice") ∷ M.licence 2 (codes "POLICY") (codes "alice") ∷ [])

doubled_levels : Levels
doubled_levels name = if bytes_eq name (codes "alice") then 1 else (if bytes_eq (codes "POLICY") name then 1 else 0)

doubled_solves : (name : List ℕ) → round doubled_equations doubled_levels name ≡ doubled_levels name
unfolding doubled_levels
doubled_solves name = grind (arith, formula_level_who 1 doubled_levels (codes "alice"))

doubled_below : (other : Levels) → ((name : List ℕ) → round doubled_equations other name ≤ other name) → (name : List ℕ)
    → doubled_levels name ≤ other name
unfolding doubled_levels
doubled_below other closed name =
    grind (arith, formula_level_who 1 other (codes "alice"), closed (codes "alice"), closed name)

doubled_level : IsPolicyLevel (equations_over alice_asked doubled_parts) 1
unfolding doubled_levels
doubled_level = record {
  levels = doubled_levels;
  least = record { solves = doubled_solves; least = doubled_below };
  here = refl;
}

doubled_few : refusal_of_nodes (equation_nodes (equations_over alice_asked doubled_parts)) ≡ None
doubled_few =
    let one = one_node (codes "alice") in
    let two : equation_nodes (equations_over alice_asked doubled_parts) ≡ 2 = omega (arith, one) in
    ap refusal_of_nodes two

-- one of the two is enough
one_is_enough : (k : ℕ) → IsPolicyLevel (equations_over alice_asked (policy_part k ∷ [])) 1
one_is_enough k = record {
  levels = alice_level.levels;
  least = record { solves = alice_level.least.solves; least = alice_level.least.least };
  here = alice_level.here;
}

not_critical : (id : Id) (left : List Part)
    → ((lower : ℕ) → IsPolicyLevel (equations_over alice_asked left) lower → lower ≡ 1)
    → (c : IsCritical alice_asked doubled_parts id) → IsPolicyLevel (equations_over alice_asked left) c.lower → ⊥
not_critical id left as_high c without =
    let lowers = c.lowers in
    let high : c.level ≡ 1 = one-level (equations_over alice_asked doubled_parts) c.level 1 c.least doubled_level in
    let low : c.lower ≡ 1 = as_high c.lower without in
    omega (arith, lowers, high, low)

neither_critical : AreCritical alice_asked doubled_parts doubled_parts []
neither_critical = ([], ([], refl, inr (second, refl)), inr (first, refl))
  where
    left : (k lower : ℕ) → IsPolicyLevel (equations_over alice_asked (policy_part k ∷ [])) lower → lower ≡ 1
    left k lower is = one-level (equations_over alice_asked (policy_part k ∷ [])) lower 1 is (one_is_enough k)

    first : IsCritical alice_asked doubled_parts (Shared 1) → ⊥
    first c = not_critical (Shared 1) (policy_part 2 ∷ []) (left 2) c c.least_without

    second : IsCritical alice_asked doubled_parts (Shared 2) → ⊥
    second c = not_critical (Shared 2) (policy_part 1 ∷ []) (left 1) c c.least_without

after_double : State
after_double = state_after doubled_history first_state (shape_of Open)

after_alice : State
after_alice = state_after doubled_history after_double (shape_of (Auth 1 (codes "alice")))

abbrev neither_exchanges : List Exchange
neither_exchanges =
    record { request = Open; reply = Started 1 2; place = 2 }
    ∷ record { request = Auth 1 (codes "alice"); reply = Done; place = 2 }
    ∷ record { request = ForCritical 1 (codes "no,yes"); reply = Critical 1 []; place = 2 } ∷ []

pub neither_is_critical : NeitherIsCritical
unfolding digits after_double after_alice
neither_is_critical g caller = record {
  exchanges = neither_exchanges;
  rest = [];
  last = after_alice;
  requests = (_, refl, (_, refl, (_, refl, refl)));
  replies = (
    after_double,
    record { accepted = refl; answered = refl; next = refl },
    (
      after_alice,
      record { accepted = refl; answered = refl; next = refl },
      (
        after_alice,
        record {
          accepted =
              subst (λ parts. refusal_of_nodes (equation_nodes (equations_over alice_asked parts)) ≡ None)
              (sym doubled_session_parts) doubled_few;
          answered = record {
            level = 1;
            ids = [];
            exact = refl;
            least =
                subst (λ parts. IsPolicyLevel (equations_over alice_asked parts) 1)
                (sym doubled_session_parts) doubled_level;
            critical =
                subst (λ parts. AreCritical alice_asked parts parts []) (sym doubled_session_parts) neither_critical;
          };
          next = refl;
        },
        refl,
      ),
    ),
  );
  places = record {
    valid = rw policy_valid refl;
    within = le_refl 2;
    in_order = (le_refl 2, (le_refl 2, (le_refl 2, le_refl 2)));
    own = refl;
    stopped = turns_stand neither_exchanges;
  };
  bytes = refl;
  one_bye = refl;
  count = omega arith;
  why = all_answered (requests_in neither_exchanges) refl refl (omega arith);
}
