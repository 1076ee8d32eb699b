-- Raising affected principals by their rows: each rise takes room, and where none rises the levels are the least ones.
use Rattle.std.proofs.Common.{◌≡◌, ◌≢◌, ℕ, suc, zero, ◌+◌, ◌-◌, ◌*◌, ◌<◌, ◌≤◌, ◌||◌, Bool, true, false, cond, List, []}
use Rattle.std.proofs.Common.{◌∷◌, length, slice_index, slice_set, refl, sym, ap, ◌∙◌, subst, inl, inr, arith}
use Rattle.std.proofs.lemmas.Bool.{cases_lt, false≢true}
use Rattle.std.proofs.lemmas.List.{get_or-set_same, get_or-set_other}
use Rattle.kn_system.specs.Counts.{IsWithin}
use Rattle.kn_system.specs.Equations.{SystemEquations, IsSystem, IsSystemRow, row_at}
use Rattle.kn_system.specs.Lawful.{AreLevels}
use Rattle.kn_system.specs.Least.{worth, at_first, least_levels}
use Rattle.kn_system.specs.Order.{Below}
use Rattle.kn_system.specs.Proofs.{IsClosed}
use Rattle.kn_system.proofs.ProofsDetermine.{closed-stays, set_at}
use Rattle.kn_system.proofs.Settles.{Below-both, least_levels-is_least}
use Rattle.kn_system.proofs.Rounds.{length-round}
use Rattle.kn_settle.proofs.GateClimbs.{within-further, within-more}
use Rattle.kn_watch.specs.Affected.{affected_nodes, affected_principals, is_affected, sum_over}
use Rattle.kn_watch.specs.Raising.{AreRaised, HasRisen, IsClosedAt, IsRaise, IsStart, raise_ticks, room, room_from}
use Rattle.kn_watch.specs.Raising.{row_worth}
use Rattle.kn_watch.proofs.StartLevels.{authorizer-fits}
use Rattle.kn_watch.proofs.Worths.{least-closed, worth-below}

-- no row is worth more than the top
worth-top : (s : SystemEquations) (levels : List ℕ) (i : ℕ) → IsSystem s → i < length s.rows
    → row_worth s levels i ≤ s.levels - 1
worth-top s levels i fits l =
    let row : IsSystemRow s.levels (length s.requesters) (row_at s.rows i) =
    fits.rows_fit i (record { authorizer = 0; ceiling = 0; formula = [] }) l in
    omega (arith, row.ceiling)

-- past a principal its rise takes no room
room-past : (top : ℕ) (flags : List Bool) (levels : List ℕ) (a w p : ℕ) → a < p
    → room_from top flags (slice_set levels a w) p ≡ room_from top flags levels p
room-past top [] levels a w p l = refl
room-past top (flag ∷ flags) levels a w p l =
    let here : slice_index (slice_set levels a w) p ≡ slice_index levels p =
    get_or-set_other levels a p w 0 (λ same. omega arith) in
    let rest : room_from top flags (slice_set levels a w) (suc p) ≡ room_from top flags levels (suc p) =
    room-past top flags levels a w (suc p) (omega arith) in
    ap (λ x. cond flag (top - x) 0 + room_from top flags (slice_set levels a w) (suc p)) here
    ∙ ap (λ r. cond flag (top - slice_index levels p) 0 + r) rest

-- and at it some
room-falls : (top : ℕ) (flags : List Bool) (levels : List ℕ) (a w p j : ℕ) → a ≡ p + j → is_affected flags j ≡ true
    → slice_index levels a < w → w ≤ top → a < length levels
    → room_from top flags (slice_set levels a w) p < room_from top flags levels p
room-falls top [] levels a w p j e is less low l = absurd (false≢true is)
room-falls top (flag ∷ flags) levels a w p zero e is less low l =
    let same : p ≡ a = omega arith in
    let now : slice_index (slice_set levels a w) p ≡ w = ap (slice_index (slice_set levels a w)) same
    ∙ get_or-set_same levels a w 0 l in
    let was : slice_index levels p ≡ slice_index levels a = ap (slice_index levels) same in
    let rest : room_from top flags (slice_set levels a w) (suc p) ≡ room_from top flags levels (suc p) =
    room-past top flags levels a w (suc p) (omega arith) in
    let first : cond flag (top - slice_index (slice_set levels a w) p) 0 ≡ top - slice_index (slice_set levels a w) p =
    ap (λ b. cond b (top - slice_index (slice_set levels a w) p) 0) is in
    let before : cond flag (top - slice_index levels p) 0 ≡ top - slice_index levels p =
    ap (λ b. cond b (top - slice_index levels p) 0) is in
    omega arith
room-falls top (flag ∷ flags) levels a w p (suc j) e is less low l =
    let here : slice_index (slice_set levels a w) p ≡ slice_index levels p =
    get_or-set_other levels a p w 0 (λ same. omega arith) in
    let rest : room_from top flags (slice_set levels a w) (suc p) < room_from top flags levels (suc p) =
    room-falls top flags levels a w (suc p) j (omega arith) is less low l in
    let first : cond flag (top - slice_index (slice_set levels a w) p) 0 ≡ cond flag (top - slice_index levels p) 0 =
    ap (λ x. cond flag (top - x) 0) here in
    omega arith

room-most : (top : ℕ) (flags : List Bool) (levels : List ℕ) (p k : ℕ)
    → room_from top flags levels p ≤ sum_over (λ _. 1) k flags * top
room-most top [] levels p k = omega arith
room-most top (true ∷ flags) levels p k = let rest = room-most top flags levels (suc p) (suc k) in omega (arith, rest)
room-most top (false ∷ flags) levels p k = let rest = room-most top flags levels (suc p) (suc k) in omega (arith, rest)

raise-falls : (s : SystemEquations) (affected : List Bool) (i : ℕ) (old new : List ℕ) → IsSystem s → i < length s.rows
    → AreLevels s old → IsRaise s affected i old new true → room s affected new < room s affected old
raise-falls s affected i old new fits l levels (is, less, e) =
    let a : ℕ = (row_at s.rows i).authorizer in
    let in_range : a < length s.requesters = authorizer-fits s i fits l in
    subst (λ (xs : List ℕ). room s affected xs < room s affected old) (sym e)
    (room-falls (s.levels - 1) affected old a (row_worth s old i) 0 a (omega arith) is less (worth-top s old i fits l)
    (omega (arith, in_range, levels.size)))

-- one more row
pub risen-next : (s : SystemEquations) (affected : List Bool) (k : ℕ) (old mid new : List ℕ) (rose risen : Bool)
    → IsSystem s → k < length s.rows → AreLevels s mid → HasRisen s affected k old mid risen
    → IsRaise s affected k mid new rose
    → HasRisen s affected (k + 1) old new (rose || risen)
risen-next s affected k old mid new true true fits l levels h r = let less =
    raise-falls s affected k mid new fits l levels r in omega (arith, h, less)
risen-next s affected k old mid new true false fits l levels h r =
    let less : room s affected new < room s affected mid = raise-falls s affected k mid new fits l levels r in
    subst (λ (xs : List ℕ). room s affected new < room s affected xs) h.0 less
risen-next s affected k old mid new false true fits l levels h r =
    subst (λ (xs : List ℕ). room s affected xs < room s affected old) (sym r.0) h
risen-next s affected k old mid new false false fits l levels h r = (
  r.0 ∙ h.0,
  λ i before is.
      elim (cases_lt i k) [
        | inl earlier ↦ h.1 i earlier is
        | inr later ↦
            let same : k ≡ i = omega arith in
            let here : IsClosedAt s mid k = r.1 (ap (λ j. is_affected affected (row_at s.rows j).authorizer) same
            ∙ is) in
            subst (λ j. IsClosedAt s old j) same (subst (λ (xs : List ℕ). IsClosedAt s xs k) h.0 here)
      ],
)

-- levels that a row has raised are raised levels
pub raised-next : (s : SystemEquations) (affected : List Bool) (start : List ℕ) (k : ℕ) (old new : List ℕ) (rose : Bool)
    → IsSystem s → k < length s.rows → AreLevels s new → IsRaise s affected k old new rose
    → AreRaised s affected start old → AreRaised s affected start new
raised-next s affected start k old new false fits l levels r h = subst (AreRaised s affected start) (sym r.0) h
raised-next s affected start k old new true fits l levels (is, less, e) h =
    let a : ℕ = (row_at s.rows k).authorizer in
    let w : ℕ = row_worth s old k in
    let in_range : a < length s.requesters = authorizer-fits s k fits l in
    let inside : a < length old = omega (arith, in_range, h.fit.size) in
    let low : w ≤ worth (s.levels - 1) (least_levels s) (row_at s.rows k) =
    worth-below (s.levels - 1) old (least_levels s) (row_at s.rows k) h.below in
    let closed = least-closed s k l in_range in
    let from : slice_index start a ≤ slice_index old a = h.above a in
    let set : AreRaised s affected start new = record {
      fit = levels;
      above = subst (λ (xs : List ℕ). Below start xs) (sym e)
          (set_at old a w (λ i level. slice_index start i ≤ level) inside (omega arith) (λ i differs. h.above i));
      below = subst (λ (xs : List ℕ). Below xs (least_levels s)) (sym e)
          (set_at old a w (λ i level. level ≤ slice_index (least_levels s) i) inside (omega arith)
          (λ i differs. h.below i));
      others = λ p other.
          let differs : p ≢ a = (λ same. false≢true (sym other ∙ ap (is_affected affected) same ∙ is)) in
          ap (λ (xs : List ℕ). slice_index xs p) e ∙ get_or-set_other old a p w 0 differs ∙ h.others p other;
    } in
    set

-- where no row of an affected principal raises it any more, the levels are the least ones
pub raised-least : (s : SystemEquations) (affected : List Bool) (start levels : List ℕ) → IsStart s affected start
    → AreRaised s affected start levels
    → ((i : ℕ) → i < length s.rows → is_affected affected (row_at s.rows i).authorizer ≡ true → IsClosedAt s levels i)
    → levels ≡ least_levels s
raised-least s affected start levels is h none =
    let least : List ℕ = least_levels s in
    let closed : IsClosed s levels = (λ i l. at i l (is_affected affected (row_at s.rows i).authorizer) refl) in
    let started : Below (at_first s) levels = (λ i. let one = is.above i in let two = h.above i in omega arith) in
    let all : Below least levels = (least_levels-is_least s).lowest levels (closed-stays s levels started closed) in
    let size : length least ≡ length s.requesters = sym (ap length (least_levels-is_least s).fixed)
    ∙ length-round s least in
    Below-both levels least (h.fit.size ∙ sym size) h.below all
  where
    at : (i : ℕ) → i < length s.rows → (b : Bool) → is_affected affected (row_at s.rows i).authorizer ≡ b
        → IsClosedAt s levels i
    at i l true e = none i l e
    at i l false e = is.closed levels h.others i l e

-- the levels while rounds go on, and how many steps these took
pub record IsRaising (s : SystemEquations) (affected : List Bool) (start levels : List ℕ) (old new : ℕ) : Type 0 where
  pub raised : AreRaised s affected start levels
  pub less : room s affected levels ≤ room s affected start
  pub ticks : IsWithin (affected_nodes affected s.rows * (room s affected start - room s affected levels)) old new

pub raising-starts : (s : SystemEquations) (affected : List Bool) (start : List ℕ) (steps : ℕ)
    → IsStart s affected start → IsRaising s affected start start steps steps
raising-starts s affected start steps is = record {
  raised = record { fit = is.fit; above = λ i. omega arith; below = is.below; others = λ p other. refl };
  less = omega arith;
  ticks = λ fits. (omega arith, omega arith);
}

mul_le : (n a b : ℕ) → a ≤ b → n * a ≤ n * b
mul_le n a b l = grind arith

times-next : (n was is : ℕ) → suc was ≤ is → n * was + n ≤ n * is
times-next n was is l = let m = mul_le n (suc was) is l in omega (arith, m)

times-last : (n was most : ℕ) → was ≤ most → n * was + n ≤ n * (most + 1)
times-last n was most l = let m = mul_le n was most l in omega (arith, m)

-- a round that raised somebody
pub raising-next : (s : SystemEquations) (affected : List Bool) (start mid levels : List ℕ) (old now new : ℕ)
    → IsRaising s affected start mid old now → room s affected levels < room s affected mid
    → AreRaised s affected start levels
    → IsWithin (affected_nodes affected s.rows) now new → IsRaising s affected start levels old new
raising-next s affected start mid levels old now new h less raised w =
    let n : ℕ = affected_nodes affected s.rows in
    let was : ℕ = room s affected start - room s affected mid in
    let is : ℕ = room s affected start - room s affected levels in
    let more : suc was ≤ is = omega (arith, less, h.less) in
    record {
      raised = raised;
      less = omega (arith, less, h.less);
      ticks = within-more (n * was + n) (n * is) old new (times-next n was is more)
          (within-further (n * was) n old now new h.ticks w);
    }

-- and the last one
pub raising-ends : (s : SystemEquations) (affected : List Bool) (start mid : List ℕ) (old now new : ℕ)
    → IsRaising s affected start mid old now → IsWithin (affected_nodes affected s.rows) now new
    → IsWithin (raise_ticks s affected) old new
raising-ends s affected start mid old now new h w =
    let n : ℕ = affected_nodes affected s.rows in
    let was : ℕ = room s affected start - room s affected mid in
    let most : room s affected start ≤ affected_principals affected * (s.levels - 1) =
    room-most (s.levels - 1) affected start 0 0 in
    within-more (n * was + n) (raise_ticks s affected) old new
    (times-last n was (affected_principals affected * (s.levels - 1)) (omega arith))
    (within-further (n * was) n old now new h.ticks w)
