-- That the connections of an administrator who asks for a version or for updates by a number are served as they say.
use Rattle.std.proofs.Common.{ℕ, [], ◌∷◌, codes, refl, le_refl, arith, List}
use Rattle.std.specs.Fmt.{digits}
use Rattle.kn_wire.specs.Requests.{Open, Admin, Add, PinAt, Log as ForLog}
use Rattle.kn_reply.specs.declared.refusal.Refusal.TheVariants as R
use Rattle.kn_reply.specs.Replies.{Done, Started, Added, PinnedAt, Log, No}
use Rattle.kn_daemon.specs.Shapes.{shape_of}
use Rattle.kn_daemon.specs.Daemon.{State, state_after}
use Rattle.kn_daemon.specs.Linearized.{Exchange, requests_in}
use Rattle.kn_worked.specs.Texts.{credential_text}
use Rattle.kn_worked.specs.Connections.{policy_history, longer_history, VersionIsPinned, UpdateIsHandedOn}
use Rattle.kn_worked.proofs.Levels.{policy_valid}
use Rattle.kn_worked.proofs.Admin.{after_open, after_admin, credential_valid, admitted, same_caller}
use Rattle.kn_worked.proofs.Turns.{turns_stand, all_answered}

after_pin : ℕ → State
after_pin caller = state_after (longer_history caller) after_admin (shape_of (PinAt 1 1))

abbrev version_exchanges : List Exchange
version_exchanges =
    record { request = Open; reply = Started 1 1; place = 1 }
    ∷ record { request = Admin (codes "733363726574"); reply = Done; place = 1 }
    ∷ record { request = Add credential_text; reply = Added 2 2; place = 2 }
    ∷ record { request = PinAt 1 1; reply = PinnedAt 1 2; place = 2 }
    ∷ record { request = PinAt 1 3; reply = No (R.Retained 2); place = 2 } ∷ []

pub version_is_pinned : VersionIsPinned
unfolding digits after_pin
version_is_pinned g caller secret verdict = record {
  exchanges = version_exchanges;
  rest = [];
  last = after_pin caller;
  requests = (_, refl, (_, refl, (_, refl, (_, refl, (_, refl, refl)))));
  replies = (
    after_open,
    record { accepted = refl; answered = refl; next = refl },
    (
      after_admin,
      record { accepted = rw secret refl; answered = refl; next = refl },
      (
        after_admin,
        record {
          accepted = admitted R.Read R.Auth g verdict;
          answered = (2, record { before = policy_history; ends = refl; accepted = rw credential_valid refl }, refl);
          next = refl;
        },
        (
          after_pin caller,
          record { accepted = refl; answered = (refl, refl); next = refl },
          (after_pin caller, (refl, refl), refl),
        ),
      ),
    ),
  );
  places = record {
    valid = rw (policy_valid, credential_valid) refl;
    within = le_refl 2;
    in_order = (le_refl 1, (le_refl 1, (omega arith, (le_refl 2, (le_refl 2, le_refl 2)))));
    own = rw (same_caller caller) refl;
    stopped = turns_stand version_exchanges;
  };
  bytes = refl;
  one_bye = refl;
  count = omega arith;
  why = all_answered (requests_in version_exchanges) refl refl (omega arith);
}

abbrev log_exchanges : List Exchange
log_exchanges =
    record { request = Open; reply = Started 1 1; place = 1 }
    ∷ record { request = Admin (codes "733363726574"); reply = Done; place = 1 }
    ∷ record { request = Add credential_text; reply = Added 2 2; place = 2 }
    ∷ record { request = ForLog 1; reply = Log 1 (longer_history 0); place = 2 }
    ∷ record { request = ForLog 3; reply = No (R.Ahead 2); place = 2 } ∷ []

pub update_is_handed_on : UpdateIsHandedOn
unfolding digits
update_is_handed_on g secret verdict = record {
  exchanges = log_exchanges;
  rest = [];
  last = after_admin;
  requests = (_, refl, (_, refl, (_, refl, (_, refl, (_, refl, refl)))));
  replies = (
    after_open,
    record { accepted = refl; answered = refl; next = refl },
    (
      after_admin,
      record { accepted = rw secret refl; answered = refl; next = refl },
      (
        after_admin,
        record {
          accepted = admitted R.Read R.Auth g verdict;
          answered = (2, record { before = policy_history; ends = refl; accepted = rw credential_valid refl }, refl);
          next = refl;
        },
        (
          after_admin,
          record { accepted = refl; answered = (omega arith, refl); next = refl },
          (after_admin, (refl, refl), refl),
        ),
      ),
    ),
  );
  places = record {
    valid = rw (policy_valid, credential_valid) refl;
    within = le_refl 2;
    in_order = (le_refl 1, (le_refl 1, (omega arith, (le_refl 2, (le_refl 2, le_refl 2)))));
    own = refl;
    stopped = turns_stand log_exchanges;
  };
  bytes = refl;
  one_bye = refl;
  count = omega arith;
  why = all_answered (requests_in log_exchanges) refl refl (omega arith);
}
