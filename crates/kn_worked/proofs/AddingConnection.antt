-- That the connection of an administrator who adds a credential is served as it says.
use Rattle.std.proofs.Common.{ℕ, [], ◌∷◌, codes, refl, sym, subst, le_refl, arith, List}
use Rattle.std.specs.Fmt.{digits}
use Rattle.kn_meaning.specs.Equations.{Equations, IsPolicyLevel}
use Rattle.kn_meaning.specs.Proofs.{IsProof}
use Rattle.kn_wire.specs.Requests.{Open, Admin, Auth, Add, Query, Pin}
use Rattle.kn_reply.specs.declared.refusal.Refusal.TheVariants as R
use Rattle.kn_reply.specs.Replies.{Done, Started, Added, Value, Number}
use Rattle.kn_daemon.specs.Shapes.{shape_of}
use Rattle.kn_daemon.specs.Daemon.{State, state_after}
use Rattle.kn_daemon.specs.Linearized.{Exchange, requests_in}
use Rattle.kn_worked.specs.Texts.{credential_text}
use Rattle.kn_worked.specs.Connections.{policy_history, longer_history, BobIsAnswered}
use Rattle.kn_worked.proofs.Levels.{policy_row, alice_row, bob_level, bob_proof, bob_question}
use Rattle.kn_worked.proofs.Levels.{longer_level, longer_proof, later_question, policy_valid}
use Rattle.kn_worked.proofs.Admin.{after_open, after_admin, credential_valid, admitted, same_caller}
use Rattle.kn_worked.proofs.Turns.{turns_stand, all_answered}

after_auth : State
after_auth = state_after policy_history after_admin (shape_of (Auth 1 (codes "bob")))

after_pin : ℕ → State
after_pin caller = state_after (longer_history caller) after_auth (shape_of (Pin 1))

abbrev bob_exchanges : List Exchange
bob_exchanges =
    record { request = Open; reply = Started 1 1; place = 1 }
    ∷ record { request = Admin (codes "733363726574"); reply = Done; place = 1 }
    ∷ record { request = Auth 1 (codes "bob"); reply = Done; place = 1 }
    ∷ record { request = Add credential_text; reply = Added 2 2; place = 2 }
    ∷ record { request = Query 1 (codes "no,yes"); reply = Value 0 (codes "no") 1 []; place = 2 }
    ∷ record { request = Pin 1; reply = Number 2; place = 2 }
    ∷ record {
      request = Query 1 (codes "no,yes");
      reply = Value 1 (codes "yes") 2
          (alice_row ∷ policy_row ∷ []);
      place = 2;
    } ∷ []

pub bob_is_answered : BobIsAnswered
unfolding digits after_auth after_pin
bob_is_answered g caller secret verdict = record {
  exchanges = bob_exchanges;
  rest = [];
  last = after_pin caller;
  requests = (_, refl, (_, refl, (_, refl, (_, refl, (_, refl, (_, refl, (_, refl, refl)))))));
  replies = (
    after_open,
    record { accepted = refl; answered = refl; next = refl },
    (
      after_admin,
      record { accepted = rw secret refl; answered = refl; next = refl },
      (
        after_auth,
        record { accepted = refl; answered = refl; next = refl },
        (
          after_auth,
          record {
            accepted = admitted R.Read R.Auth g verdict;
            answered = (2, record { before = policy_history; ends = refl; accepted = rw credential_valid refl }, refl);
            next = refl;
          },
          (
            after_auth,
            record {
              accepted = refl;
              answered = record {
                level = 0;
                rows = [];
                exact = refl;
                proved = subst (λ (e : Equations). IsProof e [] 0) (sym bob_question) bob_proof;
                least = subst (λ (e : Equations). IsPolicyLevel e 0) (sym bob_question) bob_level;
              };
              next = refl;
            },
            (
              after_pin caller,
              record { accepted = refl; answered = refl; next = refl },
              (
                after_pin caller,
                record {
                  accepted = refl;
                  answered = record {
                    level = 1;
                    rows = alice_row ∷ policy_row ∷ [];
                    exact = refl;
                    proved =
                        subst (λ (e : Equations). IsProof e (alice_row ∷ policy_row ∷ []) 1)
                        (sym (later_question caller)) longer_proof;
                    least = subst (λ (e : Equations). IsPolicyLevel e 1) (sym (later_question caller)) longer_level;
                  };
                  next = refl;
                },
                refl,
              ),
            ),
          ),
        ),
      ),
    ),
  );
  places = record {
    valid = rw (policy_valid, credential_valid) refl;
    within = le_refl 2;
    in_order = (le_refl 1, (le_refl 1, (le_refl 1, (omega arith, (le_refl 2, (le_refl 2, (le_refl 2, le_refl 2)))))));
    own = rw (same_caller caller) refl;
    stopped = turns_stand bob_exchanges;
  };
  bytes = refl;
  one_bye = refl;
  count = omega arith;
  why = all_answered (requests_in bob_exchanges) refl refl (omega arith);
}
