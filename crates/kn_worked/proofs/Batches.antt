-- That the connections of an administrator who asks for batches are served as they say.
use Rattle.std.proofs.Common.{ℕ, ◌≡◌, [], ◌∷◌, ◌++◌, List, codes, refl, ap, le_refl, arith, Option, None}
use Rattle.std.specs.Fmt.{digits}
use Rattle.std.specs.Prelude.{option_map}
use Rattle.std.specs.Option.{option_or}
use Rattle.kn_wire.specs.Items.{AddText, DropId}
use Rattle.kn_wire.specs.Requests.{Open, Admin, Drop, Pin, Batch}
use Rattle.kn_reply.specs.declared.refusal.ItemRefusal.{ItemRefusal}
use Rattle.kn_reply.specs.declared.refusal.ItemRefusal.TheVariants as I
use Rattle.kn_reply.specs.declared.refusal.Refusal.{Refusal}
use Rattle.kn_reply.specs.declared.refusal.Refusal.TheVariants as R
use Rattle.kn_reply.specs.Replies.{Done, Started, Number, Batched, No}
use Rattle.kn_daemon.specs.Shapes.{shape_of}
use Rattle.kn_daemon.specs.Daemon.{DaemonConfig, State, state_after, refusal_from, placed_refusal}
use Rattle.kn_daemon.specs.Linearized.{Exchange, requests_in}
use Rattle.kn_worked.specs.Texts.{credential_text, credential_assertion}
use Rattle.kn_worked.specs.Connections.{policy_history, batched_history, BatchIsRefused, BatchIsMade}
use Rattle.kn_worked.proofs.Levels.{policy_valid}
use Rattle.kn_worked.proofs.Admin.{after_open, after_admin, credential_valid, admitted, same_caller}
use Rattle.kn_worked.proofs.Turns.{turns_stand, all_answered}

-- the block of a batch that removes this id
abbrev pub block : List ℕ → List ℕ
block id = codes "ADD 37\n" ++ credential_text ++ codes "\nDROP a" ++ id ++ codes "\n"

after_pin : State
after_pin = state_after policy_history after_admin (shape_of (Pin 1))

after_later_pin : ℕ → State
after_later_pin caller = state_after (batched_history caller) after_admin (shape_of (Pin 1))

-- each item of the block is admitted
pub items_admitted : (g : DaemonConfig) (k : ℕ) → g.verdict credential_text credential_assertion ≡ 0
    → refusal_from g 1 (AddText credential_text ∷ DropId k ∷ []) ≡ None
items_admitted g k verdict =
    ap (λ (o : Option ItemRefusal). option_or (option_map (R.Item 1) o) (refusal_from g 2 (DropId k ∷ [])))
    (admitted I.Read I.Auth g verdict)

abbrev refused_exchanges : List Exchange
refused_exchanges =
    record { request = Open; reply = Started 1 1; place = 1 }
    ∷ record { request = Admin (codes "733363726574"); reply = Done; place = 1 }
    ∷ record { request = Batch (block (codes "9")); reply = No (R.Item 2 I.Unknown); place = 1 }
    ∷ record { request = Pin 1; reply = Number 1; place = 1 } ∷ []

pub batch_is_refused : BatchIsRefused
unfolding digits after_pin
batch_is_refused g caller secret verdict = record {
  exchanges = refused_exchanges;
  rest = [];
  last = after_pin;
  requests = (_, refl, (_, refl, (_, refl, (_, refl, refl))));
  replies = (
    after_open,
    record { accepted = refl; answered = refl; next = refl },
    (
      after_admin,
      record { accepted = rw secret refl; answered = refl; next = refl },
      (
        after_admin,
        (
          ap (λ (o : Option Refusal). option_or o (placed_refusal policy_history
              (shape_of (Batch (block (codes "9")))))) (items_admitted g 9 verdict),
          refl,
        ),
        (after_pin, record { accepted = refl; answered = refl; next = refl }, refl),
      ),
    ),
  );
  places = record {
    valid = rw policy_valid refl;
    within = le_refl 1;
    in_order = (le_refl 1, (le_refl 1, (le_refl 1, (le_refl 1, le_refl 1))));
    own = refl;
    stopped = turns_stand refused_exchanges;
  };
  bytes = refl;
  one_bye = refl;
  count = omega arith;
  why = all_answered (requests_in refused_exchanges) refl refl (omega arith);
}

abbrev made_exchanges : List Exchange
made_exchanges =
    record { request = Open; reply = Started 1 1; place = 1 }
    ∷ record { request = Admin (codes "733363726574"); reply = Done; place = 1 }
    ∷ record { request = Batch (block (codes "1")); reply = Batched 2 1 2; place = 2 }
    ∷ record { request = Drop 1; reply = No R.Unknown; place = 2 }
    ∷ record { request = Pin 1; reply = Number 2; place = 2 } ∷ []

pub batch_is_made : BatchIsMade
unfolding digits after_later_pin
batch_is_made g caller secret verdict = record {
  exchanges = made_exchanges;
  rest = [];
  last = after_later_pin caller;
  requests = (_, refl, (_, refl, (_, refl, (_, refl, (_, refl, refl)))));
  replies = (
    after_open,
    record { accepted = refl; answered = refl; next = refl },
    (
      after_admin,
      record { accepted = rw secret refl; answered = refl; next = refl },
      (
        after_admin,
        record {
          accepted = items_admitted g 1 verdict;
          answered = record {
            first = 2;
            committed = record { before = policy_history; ends = refl; accepted = rw credential_valid refl };
            first_is = refl;
            exact = refl;
          };
          next = refl;
        },
        (
          after_admin,
          (refl, refl),
          (after_later_pin caller, record { accepted = refl; answered = refl; next = refl }, refl),
        ),
      ),
    ),
  );
  places = record {
    valid = rw (policy_valid, credential_valid) refl;
    within = le_refl 2;
    in_order = (le_refl 1, (le_refl 1, (omega arith, (le_refl 2, (le_refl 2, le_refl 2)))));
    own = rw (same_caller caller) refl;
    stopped = turns_stand made_exchanges;
  };
  bytes = refl;
  one_bye = refl;
  count = omega arith;
  why = all_answered (requests_in made_exchanges) refl refl (omega arith);
}
