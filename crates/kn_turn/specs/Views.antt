-- The views of a turn's seats: what each counts, and how each kind of step changes them.
use Rattle.std.specs.Prelude.{◌≡◌, ℕ, ◌+◌, ◌==◌, List, [], ◌∷◌, ◌++◌, length, Bool, true, false}
use Rattle.kn_turn.specs.declared.view.EndedPass.{EndedPass}
use Rattle.kn_turn.specs.declared.view.View.{View}
use Rattle.kn_turn.specs.declared.view.Stage.{Stage}
use Rattle.kn_turn.specs.declared.view.Stage.TheVariants.{Idle, Waits, Served, Holds}
use Rattle.kn_turn.specs.Counts.{one_if, total}
use Rattle.kn_turn.specs.Entries.{entries_of, longer}

-- 1 where a ticket was drawn and the turn not yet passed on
abbrev pub ticket_at : Stage → ℕ
ticket_at Idle = 0
ticket_at Waits = 1
ticket_at Served = 1
ticket_at Holds = 1

-- 1 where the value is out of the table
abbrev pub value_at : Stage → ℕ
value_at Idle = 0
value_at Waits = 0
value_at Served = 0
value_at Holds = 1

-- 1 where the ticket m is held and is t
abbrev pub ticket_if : ℕ → Stage → ℕ → ℕ
ticket_if t Idle m = 0
ticket_if t Waits m = one_if (m == t)
ticket_if t Served m = one_if (m == t)
ticket_if t Holds m = one_if (m == t)

module _ {E : Type 0} where
  abbrev pub ticket_count : View E → ℕ
  ticket_count v = ticket_at v.stage

  abbrev pub value_count : View E → ℕ
  value_count v = value_at v.stage

  abbrev pub count_of_ticket : ℕ → View E → ℕ
  count_of_ticket t v = ticket_if t v.stage v.ticket

  abbrev pub live_count : View E → ℕ
  live_count v = one_if v.live

  -- how many of the ended passes had the number n
  abbrev pub ended_count : ℕ → List (EndedPass E) → ℕ
  ended_count n ended = total (λ (x : EndedPass E). one_if (x.number == n)) ended

  abbrev pub number_if : ℕ → Bool → ℕ → List (EndedPass E) → ℕ
  number_if n true m ended = one_if (m == n) + ended_count n ended
  number_if n false m ended = 0

  -- how often a view has the number n, as its own or as that of a pass that ended
  abbrev pub number_count : ℕ → View E → ℕ
  number_count n v = number_if n v.live v.number v.ended

  -- all that a pass knows of the history, also between a join and the next look at the front
  abbrev pub known_entries : View E → List E
  known_entries v = longer v.seen v.old

  -- the list has of each pass that ended just what was kept of it
  abbrev pub HasEnded : (E → ℕ) → List E → List (EndedPass E) → Type 0
  HasEnded by l [] = Unit {0}
  HasEnded by l (x ∷ xs) = (entries_of by x.number l ≡ x.mine) × HasEnded by l xs

  -- the view of the first seat, which is the root's
  abbrev pub first_view : View E
  first_view = record {
    live = true;
    number = 0;
    stage = Idle;
    ticket = 0;
    taken = [];
    seen = [];
    old = [];
    mine = [];
    stops = [];
    splits = 0;
    ended = [];
  }

  abbrev pub after_draw : View E → ℕ → View E
  after_draw v t = record v { stage = Waits; ticket = t }

  abbrev pub after_serve : View E → View E
  after_serve v = record v { stage = Served }

  abbrev pub after_take : View E → List E → View E
  after_take v l = record v { stage = Holds; taken = l }

  abbrev pub after_append : View E → List E → View E
  after_append v more = record v {
    taken = v.taken ++ more;
    seen = v.taken ++ more;
    mine = v.mine ++ more;
    stops =
        v.stops ++ length (v.taken ++ more) ∷ [];
  }

  abbrev pub after_look : View E → View E
  after_look v = record v { seen = v.taken; stops = v.stops ++ length v.taken ∷ [] }

  -- the pass had the turn for a moment, at which nothing was new
  abbrev pub after_confirm : View E → View E
  after_confirm v = record v { stops = v.stops ++ length v.seen ∷ [] }

  abbrev pub after_give : View E → View E
  after_give v = record v { stage = Idle; taken = [] }

  -- the pass that is split from the root, and the root after it
  abbrev pub child_view : View E → View E
  child_view v = record {
    live = true;
    number = v.splits + 1;
    stage = Idle;
    ticket = 0;
    taken = [];
    seen = v.seen;
    old =
        [];
    mine = [];
    stops = [];
    splits = 0;
    ended = [];
  }

  abbrev pub parent_view : View E → View E
  parent_view v = record v { splits = v.splits + 1 }

  -- a copy of what was seen, which is no pass
  abbrev pub note_view : View E → View E
  note_view v = record {
    live = false;
    number = 0;
    stage = Idle;
    ticket = 0;
    taken = [];
    seen = v.seen;
    old = [];
    mine =
        [];
    stops = [];
    splits = 0;
    ended = [];
  }

  -- what is left of a seat that was joined into another
  abbrev pub spent_view : View E
  spent_view = record {
    live = false;
    number = 0;
    stage = Idle;
    ticket = 0;
    taken = [];
    seen = [];
    old = [];
    mine = [];
    stops = [];
    splits = 0;
    ended = [];
  }

  abbrev pub ended_of : View E → EndedPass E
  ended_of w = record { number = w.number; mine = w.mine; stops = w.stops }

  -- a pass after another was joined into it
  abbrev pub after_absorb : View E → View E → View E
  after_absorb v w = record v { old = w.seen; ended = v.ended ++ (w.ended ++ ended_of w ∷ []) }

  -- a pass after a note was joined into it
  abbrev pub after_inform : View E → View E → View E
  after_inform v w = record v { old = w.seen }

  abbrev pub after_settle : View E → View E
  after_settle v = record v { seen = known_entries v; old = [] }
