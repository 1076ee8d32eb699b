-- That a worked connection is served as it says.
use Rattle.std.proofs.Common.{[], ◌∷◌, codes, refl, sym, subst, le_refl, arith, List}
use Rattle.std.specs.Fmt.{digits}
use Rattle.kn_meaning.specs.Equations.{Equations, IsPolicyLevel}
use Rattle.kn_meaning.specs.Proofs.{IsProof}
use Rattle.kn_wire.specs.Requests.{Open, Auth, Query}
use Rattle.kn_reply.specs.Replies.{Done, Started, Value}
use Rattle.kn_daemon.specs.Shapes.{shape_of}
use Rattle.kn_daemon.specs.Daemon.{State, first_state, state_after}
use Rattle.kn_daemon.specs.Linearized.{Exchange, requests_in}
use Rattle.kn_worked.specs.Connections.{policy_history, AliceIsAnswered}
use Rattle.kn_worked.proofs.Levels.{policy_row, alice_level, alice_proof, alice_question}
use Rattle.kn_worked.proofs.Levels.{policy_valid}
use Rattle.kn_worked.proofs.Turns.{turns_stand, all_answered}

abbrev pub after_open : State
after_open = state_after policy_history first_state (shape_of Open)

abbrev pub after_auth : State
after_auth = state_after policy_history after_open (shape_of (Auth 1 (codes "alice")))

abbrev alice_exchanges : List Exchange
alice_exchanges =
    record { request = Open; reply = Started 1 1; place = 1 }
    ∷ record { request = Auth 1 (codes "alice"); reply = Done; place = 1 }
    ∷ record { request = Query 1 (codes "no,yes"); reply = Value 1 (codes "yes") 1 (policy_row ∷ []); place = 1 } ∷ []

pub alice_is_answered : AliceIsAnswered
unfolding digits
alice_is_answered g caller = record {
  exchanges = alice_exchanges;
  rest = [];
  last = after_auth;
  requests = (codes "AUTH 1 alice\nQUERY 1 no,yes\n", refl, (codes "QUERY 1 no,yes\n", refl, ([], refl, refl)));
  replies = (
    after_open,
    record { accepted = refl; answered = refl; next = refl },
    (
      after_auth,
      record { accepted = refl; answered = refl; next = refl },
      (
        after_auth,
        record {
          accepted = refl;
          answered = record {
            level = 1;
            rows = policy_row ∷ [];
            exact = refl;
            proved = subst (λ (e : Equations). IsProof e (policy_row ∷ []) 1) (sym alice_question) alice_proof;
            least = subst (λ (e : Equations). IsPolicyLevel e 1) (sym alice_question) alice_level;
          };
          next = refl;
        },
        refl,
      ),
    ),
  );
  places = record {
    valid = rw policy_valid refl;
    within = le_refl 1;
    in_order = (le_refl 1, (le_refl 1, (le_refl 1, le_refl 1)));
    own = refl;
    stopped = turns_stand alice_exchanges;
  };
  bytes = refl;
  one_bye = refl;
  count = omega arith;
  why = all_answered (requests_in alice_exchanges) refl refl (omega arith);
}
