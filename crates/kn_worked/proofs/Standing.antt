-- That the connections of a standing query are served as they say.
use Rattle.std.proofs.Common.{ℕ, ◌≡◌, [], ◌∷◌, ◌++◌, List, codes, refl, sym, subst, ap, le_refl, arith, Some, Result}
use Rattle.std.specs.Fmt.{digits}
use Rattle.std.specs.Result.{result_ok}
use Rattle.kn_fields.specs.declared.fault.ReadFault.{ReadFault}
use Rattle.kn_trees.specs.declared.assertion.Assertion.{Assertion}
use Rattle.kn_proof.specs.declared.named.Id.TheVariants.{Shared}
use Rattle.kn_meaning.specs.Formulas.{Levels}
use Rattle.kn_meaning.specs.Equations.{Equations, round, equations_over, IsPolicyLevel}
use Rattle.kn_meaning.specs.Examples as M
use Rattle.kn_meaning.specs.Proofs.{IsProof, levels_by}
use Rattle.kn_meaning.proofs.Walks.{formula_level_who}
use Rattle.kn_session.specs.Sessions.{Session, StandingQuery, query_with}
use Rattle.kn_wire.specs.Requests.{Open, Admin, Auth, Unauth, Add, Drop, Query, Watch, News as ForNews, Unwatch}
use Rattle.kn_reply.specs.declared.refusal.Refusal.TheVariants as R
use Rattle.kn_reply.specs.Replies.{Done, Started, Added, Value, Number, News, No}
use Rattle.kn_daemon.specs.Shapes.{shape_of}
use Rattle.kn_daemon.specs.Daemon.{State, part_by, asked_of, equations_of, state_after}
use Rattle.kn_daemon.specs.Linearized.{Exchange, requests_in}
use Rattle.kn_worked.specs.Texts.{credential_text}
use Rattle.kn_worked.specs.Connections.{policy_history, longer_history, shorter_history, StandingQueryIsTold}
use Rattle.kn_worked.specs.Connections.{RequesterIsKept}
use Rattle.kn_worked.proofs.Readings.{policy_reading}
use Rattle.kn_worked.proofs.Levels.{of_one, IsWorth, two_values, policy_valid}
use Rattle.kn_worked.proofs.Levels.{alice_level, alice_session, alice_question, bob_level, bob_proof, bob_session}
use Rattle.kn_worked.proofs.Levels.{bob_question}
use Rattle.kn_worked.proofs.Levels.{longer_level, later_question, shorter_level, shorter_question}
use Rattle.kn_worked.proofs.Admin.{after_open, after_admin, credential_valid, admitted, same_caller}
use Rattle.kn_worked.proofs.Turns.{turns_stand, all_answered}

-- The connection.

after_auth : State
after_auth = state_after policy_history after_admin (shape_of (Auth 1 (codes "bob")))

after_watch : State
after_watch = state_after policy_history after_auth (shape_of (Watch 1 (codes "no,yes")))

after_news : ℕ → State
after_news caller = state_after (longer_history caller) after_watch (shape_of (ForNews 1))

after_later_news : ℕ → State
after_later_news caller = state_after (shorter_history caller) (after_news caller) (shape_of (ForNews 1))

after_unwatch : ℕ → State
after_unwatch caller = state_after (shorter_history caller) (after_later_news caller) (shape_of (Unwatch 1))

-- what is kept
abbrev kept_query : StandingQuery
kept_query = query_with two_values bob_session

-- the session that keeps it over this version
abbrev keeping : StandingQuery → Session
keeping query = record bob_session { standing = Some query }

abbrev standing_exchanges : List Exchange
standing_exchanges =
    record { request = Open; reply = Started 1 1; place = 1 }
    ∷ record { request = Admin (codes "733363726574"); reply = Done; place = 1 }
    ∷ record { request = Auth 1 (codes "bob"); reply = Done; place = 1 }
    ∷ record { request = Watch 1 (codes "no,yes"); reply = News 0 (codes "no") 1; place = 1 }
    ∷ record { request = Add credential_text; reply = Added 2 2; place = 2 }
    ∷ record { request = ForNews 1; reply = News 1 (codes "yes") 2; place = 2 }
    ∷ record { request = Drop 1; reply = Number 3; place = 3 }
    ∷ record { request = ForNews 1; reply = News 0 (codes "no") 3; place = 3 }
    ∷ record { request = Query 1 (codes "no,yes"); reply = Value 0 (codes "no") 1 []; place = 3 }
    ∷ record { request = Unwatch 1; reply = Done; place = 3 }
    ∷ record { request = ForNews 1; reply = No R.Unknown; place = 3 } ∷ []

pub standing_query_is_reported : StandingQueryIsTold
unfolding digits after_auth after_watch after_news after_later_news after_unwatch
standing_query_is_reported g caller secret verdict = record {
  exchanges = standing_exchanges;
  rest = [];
  last = after_unwatch caller;
  requests = (
    _,
    refl,
    (_, refl, (_, refl, (_, refl, (_, refl, (_, refl, (_, refl, (_, refl, (_, refl, (_, refl, (_, refl, refl)))))))))),
  );
  replies = (
    after_open,
    record { accepted = refl; answered = refl; next = refl },
    (
      after_admin,
      record { accepted = rw secret refl; answered = refl; next = refl },
      (
        after_auth,
        record { accepted = refl; answered = refl; next = refl },
        (
          after_watch,
          record {
            accepted = refl;
            answered = record {
              level = 0;
              exact = refl;
              least = subst (λ (e : Equations). IsPolicyLevel e 0) (sym bob_question) bob_level;
            };
            next = refl;
          },
          (
            after_watch,
            record {
              accepted = admitted R.Read R.Auth g verdict;
              answered = (
                2,
                record { before = policy_history; ends = refl; accepted = rw credential_valid refl },
                refl,
              );
              next = refl;
            },
            (
              after_news caller,
              record {
                accepted = refl;
                answered = record {
                  level = 1;
                  exact = refl;
                  least = subst (λ (e : Equations). IsPolicyLevel e 1) (sym (later_question caller)) longer_level;
                };
                next = refl;
              },
              (
                after_news caller,
                record {
                  accepted = refl;
                  answered = (record { before = longer_history caller; ends = refl; accepted = refl }, refl);
                  next = refl;
                },
                (
                  after_later_news caller,
                  record {
                    accepted = refl;
                    answered = record {
                      level = 0;
                      exact = refl;
                      least =
                          subst (λ (e : Equations). IsPolicyLevel e 0) (sym (shorter_question caller)) shorter_level;
                    };
                    next = refl;
                  },
                  (
                    after_later_news caller,
                    record {
                      accepted = refl;
                      answered = record {
                        level = 0;
                        rows = [];
                        exact = refl;
                        proved = subst (λ (e : Equations). IsProof e [] 0) (sym bob_question) bob_proof;
                        least = subst (λ (e : Equations). IsPolicyLevel e 0) (sym bob_question) bob_level;
                      };
                      next = refl;
                    },
                    (
                      after_unwatch caller,
                      record { accepted = refl; answered = refl; next = refl },
                      (after_unwatch caller, (refl, refl), refl),
                    ),
                  ),
                ),
              ),
            ),
          ),
        ),
      ),
    ),
  );
  places = record {
    valid = rw (policy_valid, credential_valid) refl;
    within = le_refl 3;
    in_order = (
      le_refl 1,
      (
        le_refl 1,
        (
          le_refl 1,
          (
            le_refl 1,
            (omega arith, (le_refl 2, (omega arith, (le_refl 3, (le_refl 3, (le_refl 3, (le_refl 3, le_refl 3))))))),
          ),
        ),
      ),
    );
    own = rw (same_caller caller) refl;
    stopped = turns_stand standing_exchanges;
  };
  bytes = refl;
  one_bye = refl;
  count = omega arith;
  why = all_answered (requests_in standing_exchanges) refl refl (omega arith);
}

-- A requester that left the session stays in what is kept.

abbrev none_equations : Equations
none_equations = record { top = 1; requesters = []; statements = M.direct_policy }

none_levels : Levels
none_levels name = 0

none_solves : (name : List ℕ) → round none_equations none_levels name ≡ none_levels name
unfolding none_levels
none_solves name = grind (arith, formula_level_who 1 none_levels (codes "alice"))

none_level : IsPolicyLevel none_equations 0
unfolding none_levels
none_level = record {
  levels = none_levels;
  least = record { solves = none_solves; least = λ other closed name. omega arith };
  here = refl;
}

none_proof : IsProof none_equations [] 0
none_proof = record {
  in_order = tt;
  closed =
      of_one (IsWorth none_equations []) _ (grind (
        arith,
        formula_level_who 1 (levels_by none_equations [])
            (codes "alice"),
      ));
  claim = refl;
}

abbrev none_session : Session
none_session = record alice_session { requesters = [] }

none_question : equations_of none_session two_values ≡ none_equations
none_question =
    ap (λ (r : Result Assertion ReadFault). equations_over (asked_of none_session two_values)
    ((part_by Shared 1 (result_ok r) ++ []) ++ [])) policy_reading

after_alice : State
after_alice = state_after policy_history after_open (shape_of (Auth 1 (codes "alice")))

after_kept : State
after_kept = state_after policy_history after_alice (shape_of (Watch 1 (codes "no,yes")))

after_left : State
after_left = state_after policy_history after_kept (shape_of (Unauth 1 (codes "alice")))

after_told : State
after_told = state_after policy_history after_left (shape_of (ForNews 1))

abbrev alice_query : StandingQuery
alice_query = query_with two_values alice_session

abbrev kept_exchanges : List Exchange
kept_exchanges =
    record { request = Open; reply = Started 1 1; place = 1 }
    ∷ record { request = Auth 1 (codes "alice"); reply = Done; place = 1 }
    ∷ record { request = Watch 1 (codes "no,yes"); reply = News 1 (codes "yes") 1; place = 1 }
    ∷ record { request = Unauth 1 (codes "alice"); reply = Done; place = 1 }
    ∷ record { request = ForNews 1; reply = News 1 (codes "yes") 1; place = 1 }
    ∷ record { request = Query 1 (codes "no,yes"); reply = Value 0 (codes "no") 1 []; place = 1 } ∷ []

pub requester_is_kept : RequesterIsKept
unfolding digits after_alice after_kept after_left after_told
requester_is_kept g caller = record {
  exchanges = kept_exchanges;
  rest = [];
  last = after_told;
  requests = (_, refl, (_, refl, (_, refl, (_, refl, (_, refl, (_, refl, refl))))));
  replies = (
    after_open,
    record { accepted = refl; answered = refl; next = refl },
    (
      after_alice,
      record { accepted = refl; answered = refl; next = refl },
      (
        after_kept,
        record {
          accepted = refl;
          answered = record {
            level = 1;
            exact = refl;
            least = subst (λ (e : Equations). IsPolicyLevel e 1) (sym alice_question) alice_level;
          };
          next = refl;
        },
        (
          after_left,
          record { accepted = refl; answered = refl; next = refl },
          (
            after_told,
            record {
              accepted = refl;
              answered = record {
                level = 1;
                exact = refl;
                least = subst (λ (e : Equations). IsPolicyLevel e 1) (sym alice_question) alice_level;
              };
              next = refl;
            },
            (
              after_told,
              record {
                accepted = refl;
                answered = record {
                  level = 0;
                  rows = [];
                  exact = refl;
                  proved = subst (λ (e : Equations). IsProof e [] 0) (sym none_question) none_proof;
                  least = subst (λ (e : Equations). IsPolicyLevel e 0) (sym none_question) none_level;
                };
                next = refl;
              },
              refl,
            ),
          ),
        ),
      ),
    ),
  );
  places = record {
    valid = rw policy_valid refl;
    within = le_refl 1;
    in_order = (le_refl 1, (le_refl 1, (le_refl 1, (le_refl 1, (le_refl 1, (le_refl 1, le_refl 1))))));
    own = refl;
    stopped = turns_stand kept_exchanges;
  };
  bytes = refl;
  one_bye = refl;
  count = omega arith;
  why = all_answered (requests_in kept_exchanges) refl refl (omega arith);
}
