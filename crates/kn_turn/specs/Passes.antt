-- What contracts see of a pass, and how each call changes it.
use Rattle.std.specs.Prelude.{◌≡◌, ℕ, ◌+◌, List, [], ◌∷◌, ◌++◌, length, Option, None, Bool, true, false}
use Rattle.atomic_table.specs.Seated.{TableId}
use Rattle.atomic_table.specs.declared.shared.Seat.{Seat}
use Rattle.kn_turn.specs.declared.view.EndedPass.{EndedPass}
use Rattle.kn_turn.specs.declared.view.View.{View}
use Rattle.kn_turn.specs.declared.view.Stage.{Stage}
use Rattle.kn_turn.specs.declared.view.Stage.TheVariants.{Idle, Waits, Served, Holds}
use Rattle.kn_turn.specs.Entries.{longer}
use Rattle.kn_turn.specs.Invariant.{IsSound, IsSoundView}

-- A pass: the turn to which it belongs, its number, whether it has no ticket, what it has seen, its own entries, the
-- list of the value that it took (empty where it holds none), the lengths at which it had the turn, the passes that
-- were split from it, and those that were joined into it.
pub record PassView (E : Type 0) : Type 0 where
  pub turn : TableId
  pub number : ℕ
  pub is_idle : Bool
  pub seen : List E
  pub mine : List E
  pub taken : List E
  pub stops : List ℕ
  pub splits : ℕ
  pub ended : List (EndedPass E)

abbrev pub is_idle_at : Stage → Bool
is_idle_at Idle = true
is_idle_at Waits = false
is_idle_at Served = false
is_idle_at Holds = false

-- between two calls a seat has no ticket, or the turn and the slot
abbrev pub is_between_calls : Stage → Bool
is_between_calls Idle = true
is_between_calls Waits = false
is_between_calls Served = false
is_between_calls Holds = true

abbrev pub slots_of : {S : Type 0} → Stage → List (ℕ × Option S)
slots_of Idle = []
slots_of Waits = []
slots_of Served = []
slots_of Holds = (0, None) ∷ []

module _ {E : Type 0} where
  abbrev pub pass_of : TableId → View E → PassView E
  pass_of turn v = record {
    turn = turn;
    number = v.number;
    is_idle = is_idle_at v.stage;
    seen = v.seen;
    mine = v.mine;
    taken = v.taken;
    stops = v.stops;
    splits = v.splits;
    ended = v.ended;
  }

  abbrev pub IsSoundPass : (E → ℕ) → PassView E → Type 0
  IsSoundPass by p = IsSound by p.number p.seen p.mine p.ended p.splits

  -- the root of a turn, when it is made
  abbrev pub root_of : TableId → PassView E
  root_of turn = record {
    turn = turn;
    number = 0;
    is_idle = true;
    seen = [];
    mine = [];
    taken = [];
    stops = [];
    splits = 0;
    ended = [];
  }

  -- the pass after `take` gave a value with this list
  abbrev pub after_take : PassView E → List E → PassView E
  after_take p log = record p { is_idle = false; taken = log }

  -- after `append_all` of these entries: the turn was had once
  abbrev pub after_append_all : PassView E → List E → PassView E
  after_append_all p entries =
      record p {
        seen = p.taken ++ entries;
        mine = p.mine ++ entries;
        taken = p.taken ++ entries;
        stops =
            p.stops ++ (length p.taken + length entries) ∷ [];
      }

  -- after `append` of one entry
  abbrev pub after_append : PassView E → E → PassView E
  after_append p entry = after_append_all p (entry ∷ [])

  -- after `look`
  abbrev pub after_look : PassView E → PassView E
  after_look p = record p { seen = p.taken; stops = p.stops ++ length p.taken ∷ [] }

  -- after `confirm_newest` said that nothing is new
  abbrev pub after_confirm : PassView E → PassView E
  after_confirm p = record p { stops = p.stops ++ length p.seen ∷ [] }

  -- after `give`
  abbrev pub after_give : PassView E → PassView E
  after_give p = record p { is_idle = true; taken = [] }

  -- the pass that is split from a root, and the root afterwards
  abbrev pub split_of : PassView E → PassView E
  split_of root = record {
    turn = root.turn;
    number = root.splits + 1;
    is_idle = true;
    seen = root.seen;
    mine = [];
    taken = [];
    stops = [];
    splits = 0;
    ended = [];
  }

  abbrev pub after_split : PassView E → PassView E
  after_split root = record root { splits = root.splits + 1 }

  -- a pass after another was joined into it
  abbrev pub after_join : PassView E → PassView E → PassView E
  after_join p gone =
      record p {
        seen = longer p.seen gone.seen;
        ended =
            p.ended ++ (gone.ended ++ record { number = gone.number; mine = gone.mine; stops = gone.stops } ∷ []);
      }

  -- a pass after it met another
  abbrev pub after_meet : PassView E → PassView E → PassView E
  after_meet p other = record p { seen = longer p.seen other.seen }

-- what a pass's fields keep of its seat
pub record Carries {S E : Type 0} (by : E → ℕ) (seat : Seat (Option S) (View E)) (number seen_length splits : ℕ) :
    Type 0 where
  pub live : seat.me.0.live ≡ true
  pub settled : seat.me.0.old ≡ []
  pub between : is_between_calls seat.me.0.stage ≡ true
  pub slots : seat.me.1 ≡ slots_of seat.me.0.stage
  pub number_is : number ≡ seat.me.0.number
  pub length_is : seen_length ≡ length seat.me.0.seen
  pub splits_is : splits ≡ seat.me.0.splits
  pub sound : IsSoundView by seat.me.0
