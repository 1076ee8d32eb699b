-- One more exchange behind others.
use Rattle.std.proofs.Common.{◌≡◌, ◌≤◌, ℕ, Bool, false, Option, List, [], ◌∷◌, ◌++◌, length, take, drop, arith, refl}
use Rattle.std.proofs.Common.{sym, ap, ◌∙◌, subst, Some, None, append_assoc, append-nil, take-append-drop, ◌||◌}
use Rattle.std.specs.List.{list_any, last_or}
use Rattle.std.proofs.lemmas.List.{take-append-le}
use Rattle.std.proofs.lemmas.List.Folds.{list_any-append}
use Rattle.std.proofs.lemmas.Bool.{or_parts, or_from}
use Rattle.kn_history.specs.declared.update.Update.{Update}
use Rattle.kn_daemon.specs.Shapes.{shape_of}
use Rattle.kn_daemon.specs.Daemon.{DaemonConfig, State, Permits}
use Rattle.kn_daemon.specs.Linearized.{Exchange, Along, InOrder, IsBehind, StopsAt, StandsFor, is_placed, update_of}

-- places lie between the ends
pub order-ends : (caller low : ℕ) (es : List Exchange) (high : ℕ) → InOrder caller low es high → low ≤ high
order-ends caller low [] high h = h
order-ends caller low (e ∷ es) high h =
    let later = order-ends caller e.place es high h.1 in
    by (update_of caller e) h.0 later
  where
    by : (update : Option Update) → IsBehind update low e.place → e.place ≤ high → low ≤ high
    by None at l = omega arith
    by (Some update) at l = omega arith

pub order-push : (caller low : ℕ) (es : List Exchange) (high : ℕ) (e : Exchange) → InOrder caller low es high
    → IsBehind (update_of caller e) high e.place → InOrder caller low (es ++ e ∷ []) e.place
order-push caller low [] high e h at = (by (update_of caller e) at, omega arith)
  where
    by : (update : Option Update) → IsBehind update high e.place → IsBehind update low e.place
    by None at = omega arith
    by (Some update) at = omega arith
order-push caller low (first ∷ es) high e h at = (h.0, order-push caller first.place es high e h.1 at)

-- a longer history has the same parts up to its old end
pub along-longer : (g : DaemonConfig) (caller : ℕ) (history more : List Update) (low high : ℕ) (old : State)
    (es : List Exchange) (new : State)
    → high ≤ length history → InOrder caller low es high → Along g caller history old es new
    → Along g caller (history ++ more) old es new
along-longer g caller history more low high old [] new within order along = along
along-longer g caller history more low high old (e ∷ es) new within order (mid, permits, later) =
    let place = order-ends caller e.place es high order.1 in
    let same : take e.place history ≡ take e.place (history ++ more) =
    sym (take-append-le e.place history more (omega (arith, place, within))) in (
      mid,
      subst (λ past. Permits g caller past old
          (shape_of e.request) e.reply mid) same permits,
      along-longer g caller history more e.place high mid es new
          within order.1 later,
    )

pub along-push : (g : DaemonConfig) (caller : ℕ) (history : List Update) (old : State) (es : List Exchange)
    (mid : State)
    (e : Exchange) (new : State)
    → Along g caller history old es mid → Permits g caller (take e.place history) mid (shape_of e.request) e.reply new
    → Along g caller history old (es ++ e ∷ []) new
along-push g caller history old [] mid e new along permits = (
  new,
  subst (λ state. Permits g caller (take e.place history) state
      (shape_of e.request) e.reply new) along permits,
  refl,
)
along-push g caller history old (first ∷ es) mid e new (next, here, later) permits =
    (next, here, along-push g caller history next es mid e new later permits)

pub stops-push : (es : List Exchange) (stops : List ℕ) (e : Exchange) (entries : List ℕ) → StopsAt es stops
    → StandsFor (is_placed (shape_of e.request) e.reply) e.place entries → StopsAt (es ++ e ∷ []) (stops ++ entries)
stops-push [] stops e entries h stands =
    (entries, [], stands, refl, ap (λ front. front ++ entries) h ∙ sym (append-nil entries))
stops-push (first ∷ es) stops e entries (here, later, is, rest, cut) stands = (
  here,
  later ++ entries,
  is,
  stops-push es later e entries rest stands,
  ap (λ all. all ++ entries) cut
      ∙ append_assoc here later entries,
)

pub last-push : {X : Type 0} (o : Option X) (xs : List X) (x : X) → last_or o (xs ++ x ∷ []) ≡ Some x
last-push o [] x = refl
last-push o (y ∷ xs) x = last-push (Some y) xs x

pub any-take : {X : Type 0} (p : X → Bool) (n : ℕ) (xs : List X) → list_any p xs ≡ false
    → list_any p (take n xs) ≡ false
any-take p n xs none =
    (or_parts (list_any p (take n xs)) (list_any p (drop n xs))
    (sym (list_any-append p (take n xs) (drop n xs)) ∙ ap (list_any p) (take-append-drop n xs) ∙ none)).0

pub any-push : {X : Type 0} (p : X → Bool) (xs : List X) (x : X) → list_any p xs ≡ false → p x ≡ false
    → list_any p (xs ++ x ∷ []) ≡ false
any-push p xs x none not_last =
    list_any-append p xs (x ∷ []) ∙ or_from (list_any p xs) (p x || false) none (or_from (p x) false not_last refl)
