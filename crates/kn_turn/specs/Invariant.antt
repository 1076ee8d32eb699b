-- The turn's invariant, and what each kind of step tells.
-- Word 0 is the next ticket, word 1 the ticket that is served, and word 2, the front, the length of the history.
use Rattle.std.specs.Prelude.{◌≡◌, ◌≢◌, ◌⊎◌, ℕ, ◌+◌, ◌%◌, ◌^◌, ◌<◌, ◌≤◌, List, [], ◌∷◌, length, Option, Some, true}
use mathlib.Core.Option.{some, none}
use mathlib.Core.Option as maybe
use mathlib.Core.List.{IsPrefix}
use lib.ListN.{get_elem?}
use Rattle.atomic_table.specs.Table.{State, Me, Step, rest}
use Rattle.kn_turn.specs.declared.view.EndedPass.{EndedPass}
use Rattle.kn_turn.specs.declared.view.View.{View}
use Rattle.kn_turn.specs.declared.view.Stage.{Stage}
use Rattle.kn_turn.specs.declared.view.Stage.TheVariants.{Idle, Waits, Served, Holds}
use Rattle.kn_turn.specs.Counts.{total}
use Rattle.kn_turn.specs.Entries.{entries_of, AllNameUpTo}
use Rattle.kn_turn.specs.Views.{ticket_count, value_count, count_of_ticket, live_count, number_count, known_entries}
use Rattle.kn_turn.specs.Views.{HasEnded, after_draw, after_serve, after_take, after_append, after_look, after_confirm}
use Rattle.kn_turn.specs.Views.{after_settle, after_give}

module _ {E : Type 0} where
  -- what the stage tells of the tickets that were passed on and drawn, and of the history
  abbrev pub IsAtStage : List E → ℕ → ℕ → ℕ → List E → Stage → Type 0
  IsAtStage history passed drawn ticket taken Idle = Unit {0}
  IsAtStage history passed drawn ticket taken Waits = (passed ≤ ticket) × (ticket < drawn)
  IsAtStage history passed drawn ticket taken Served = (ticket ≡ passed) × (ticket < drawn)
  IsAtStage history passed drawn ticket taken Holds = (ticket ≡ passed) × (ticket < drawn) × (taken ≡ history)

  -- What holds of a pass between two calls: its own entries in what it has seen are those that it made, those of
  -- each pass that ended in it are those that were kept, and what the root has seen names no pass that wasn't split.
  pub record IsSound (by : E → ℕ) (number : ℕ) (seen mine : List E) (ended : List (EndedPass E)) (splits : ℕ) :
      Type 0 where
    pub own : entries_of by number seen ≡ mine
    pub kept : HasEnded by seen ended
    pub root : number ≡ 0 → AllNameUpTo by splits seen

  abbrev pub IsSoundView : (E → ℕ) → View E → Type 0
  IsSoundView by v = IsSound by v.number v.seen v.mine v.ended v.splits

  -- a view fits the history, the tickets that were passed on and drawn, and the number of splits
  pub record Fits (by : E → ℕ) (history : List E) (passed drawn limit : ℕ) (v : View E) : Type 0 where
    pub seen : IsPrefix v.seen history
    pub old : IsPrefix v.old history
    pub queue : ticket_count v ≤ live_count v
    pub mine : v.live ≡ true → (entries_of by v.number history ≡ v.mine) × (entries_of by v.number v.seen ≡ v.mine)
    pub ended : v.live ≡ true → HasEnded by history v.ended × HasEnded by (known_entries v) v.ended
    pub splits : v.live ≡ true → v.number ≡ 0 → v.splits ≡ limit
    pub stage : IsAtStage history passed drawn v.ticket v.taken v.stage

  -- the value is at home, or out with the one seat that holds it
  abbrev pub IsHome : {S : Type 0} → (S → List E) → List E → List (maybe.Option (Option S)) → ℕ → Type 0
  IsHome {S} log history homes out =
      ((x : S) × (homes ≡ some (Some x) ∷ []) × (log x ≡ history) × (out ≡ 0))
      ⊎ ((homes ≡ none ∷ []) × (out ≡ 1))

  -- the whole invariant: there is one history, of which each pass has seen a beginning, and tickets are served in turn
  pub record IsKept {S : Type 0} (by : E → ℕ) (log : S → List E) (s : State (Option S) (View E)) : Type 0 where
    pub history : List E
    pub drawn : ℕ
    pub passed : ℕ
    pub limit : ℕ
    pub words : s.words ≡ drawn % 2 ^ 64 ∷ passed % 2 ^ 64 ∷ length history ∷ []
    pub tickets : drawn ≡ passed + total ticket_count s.views
    pub low : limit ≤ 63
    pub few : total live_count s.views ≤ limit + 1
    pub numbers : (n : ℕ) → total (number_count n) s.views ≤ 1
    pub beyond : (n : ℕ) → limit < n → total (number_count n) s.views ≡ 0
    pub inside : AllNameUpTo by limit history
    pub home : IsHome log history s.homes (total value_count s.views)
    pub apart : (t : ℕ) → total (count_of_ticket t) s.views ≤ 1
    pub each : (j : ℕ) (v : View E) → get_elem? s.views j ≡ some v → Fits by history passed drawn limit v

abbrev pub Sat : Type 0 → Type 0 → Type 0
Sat S E = Me (Option S) (View E)

module _ {S E : Type 0} where
  -- a ticket is drawn
  abbrev pub draws_ticket : Step (Option S) → Sat S E → ℕ → Sat S E → Type 0
  draws_ticket st m r m' = (t : ℕ) × (r ≡ t % 2 ^ 64) × (m' ≡ (after_draw m.0 t, m.1))

  -- at its own ticket the seat has the turn
  abbrev pub sees_served : Step (Option S) → Sat S E → ℕ → Sat S E → Type 0
  sees_served st m r m' = (r ≡ m.0.ticket % 2 ^ 64 → m' ≡ (after_serve m.0, m.1)) × (r ≢ m.0.ticket % 2 ^ 64 → m' ≡ m)

  -- the value goes out, and its list is known, of which the front is the length
  abbrev pub takes_value : (S → List E) → Step (Option S) → Sat S E → ℕ → Sat S E → Type 0
  takes_value log st m r m' = (x : S) × (r ≡ length (log x)) × IsPrefix m.0.seen (log x)
      × (m' ≡ (after_take m.0 (log x), (0, Some x) ∷ m.1))

  -- more entries join the history
  abbrev pub appends : (E → ℕ) → List E → Step (Option S) → Sat S E → ℕ → Sat S E → Type 0
  appends by more st m r m' = (m' ≡ (after_append m.0 more, m.1)) × IsSoundView by m'.0

  -- the history is seen, of which the front is the length
  abbrev pub looks : (E → ℕ) → Step (Option S) → Sat S E → ℕ → Sat S E → Type 0
  looks by st m r m' = (r ≡ length m.0.taken) × (m' ≡ (after_look m.0, m.1)) × IsSoundView by m'.0
      × IsPrefix m.0.seen m.0.taken

  -- where the front is the length of what was seen, that is the whole history
  abbrev pub confirms : Step (Option S) → Sat S E → ℕ → Sat S E → Type 0
  confirms st m r m' = (r ≡ length m.0.seen → m' ≡ (after_confirm m.0, m.1)) × (r ≢ length m.0.seen → m' ≡ m)

  -- the turn goes to the next ticket, and the value home
  abbrev pub passes_on : Step (Option S) → Sat S E → ℕ → Sat S E → Type 0
  passes_on st m r m' = m' ≡ (after_give m.0, rest m.1)

  -- after a join both lists are beginnings of the longer one
  abbrev pub settles : (E → ℕ) → Step (Option S) → Sat S E → ℕ → Sat S E → Type 0
  settles by st m r m' = (m' ≡ (after_settle m.0, m.1)) × IsSoundView by m'.0 × IsPrefix m.0.seen (known_entries m.0)
      × IsPrefix m.0.old (known_entries m.0)
