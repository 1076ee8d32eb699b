-- A small connection.
use Rattle.std.proofs.Common.{ℕ, false, [], ◌∷◌, codes, refl, inl, le_refl, zero-le, arith}
use Rattle.std.specs.Fmt.{digits}
use Rattle.kn_wire.specs.Requests.{Open, Bye}
use Rattle.kn_reply.specs.Replies.{Done, Started}
use Rattle.kn_daemon.specs.declared.ended.Ended.TheVariants as E
use Rattle.kn_daemon.specs.Shapes.{shape_of}
use Rattle.kn_daemon.specs.Daemon.{DaemonConfig, first_state, state_after}
use Rattle.kn_daemon.specs.Served.{IsServed}

pub opening-is_served : (g : DaemonConfig) (caller : ℕ)
    → IsServed g (codes "OPEN\nBYE\n") (codes "OK 1 0\nOK\n") E.Done false [] 0 0 caller (0 ∷ [])
unfolding digits
opening-is_served g caller =
    record {
      exchanges =
          record { request = Open; reply = Started 1 0; place = 0 } ∷ record { request = Bye; reply = Done; place = 0 }
          ∷ [];
      rest = [];
      last = state_after [] first_state (shape_of Open);
      requests = (codes "BYE\n", refl, ([], refl, refl));
      replies = (
        state_after [] first_state (shape_of Open),
        record { accepted = refl; answered = refl; next = refl },
        (state_after [] first_state (shape_of Open), record { accepted = refl; answered = refl; next = refl }, refl),
      );
      places = record {
        valid = refl;
        within = le_refl 0;
        in_order = (le_refl 0, (le_refl 0, le_refl 0));
        own = refl;
        stopped = (0 ∷ [], [], refl, ([], [], zero-le, refl, refl), refl);
      };
      bytes = refl;
      one_bye = refl;
      count = omega arith;
      why = inl refl;
    }
