-- Settling from the highest level down keeps what it has settled.
use Rattle.std.proofs.Common.{◌≡◌, ℕ, suc, zero, ◌-◌, ◌<◌, ◌≤◌, Bool, true, false, cond, List, [], ◌∷◌, ◌++◌}
use Rattle.std.proofs.Common.{slice_index, slice_index_or, slice_set, length, map, inl, inr, refl, sym, ap, ◌∙◌, subst}
use Rattle.std.proofs.Common.{arith}
use Rattle.std.proofs.lemmas.Bool.{cases_lt}
use Rattle.std.proofs.lemmas.List.{length-set}
use Rattle.std.proofs.lemmas.List.Elements.{All-set}
use Rattle.kn_proof.specs.declared.row.Row.{Row as ProofRow}
use Rattle.kn_system.specs.Equations.{SystemEquations, IsSystemRow, IsSystem, row_at}
use Rattle.kn_system.specs.Least.{worth, at_first}
use Rattle.kn_system.specs.Lawful.{IsByPrincipal, IsGranted, GoesOn}
use Rattle.kn_system.specs.Order.{Below, Carries}
use Rattle.kn_system.specs.Proofs.{levels_after, IsStep, AreSteps, IsClosed, IsProof}
use Rattle.kn_system.specs.Settled.{IsClosedAbove, IsSettled, IsGrant, HasNoneBefore, count_unsettled}
use Rattle.kn_system.proofs.Rounds.{worth-carried, by_principal}
use Rattle.kn_system.proofs.Settles.{keeps_levels}
use Rattle.kn_system.proofs.ProofsDetermine.{set_at, set-raises, steps-raise, size-at_first}

-- the row's numbers are in range
row_fits : (s : SystemEquations) (i : ℕ) → IsSystem s → i < length s.rows
    → IsSystemRow s.levels (length s.requesters) (row_at s.rows i)
row_fits s i fits l = fits.rows_fit i (record { authorizer = 0; ceiling = 0; formula = [] }) l

-- no row is worth more than the top
worth-fits : (s : SystemEquations) (levels : List ℕ) (i : ℕ) → IsSystem s → i < length s.rows
    → worth (s.levels - 1) levels (row_at s.rows i) < s.levels
worth-fits s levels i fits l = let row = row_fits s i fits l in omega (arith, row.ceiling)

first_level-top : (top : ℕ) (requesters : List Bool) (i : ℕ)
    → 0 < slice_index (map (λ requester. cond requester top 0) requesters) i
    → top ≤ slice_index (map (λ requester. cond requester top 0) requesters) i
first_level-top top [] i l = absurd (omega arith)
first_level-top top (true ∷ requesters) zero l = omega arith
first_level-top top (false ∷ requesters) zero l = absurd (omega arith)
first_level-top top (requester ∷ requesters) (suc i) l = first_level-top top requesters i l

-- before any row nothing above the top is open
pub starts : (s : SystemEquations) → IsSystem s → IsSettled s (s.levels - 1) (at_first s) []
starts s fits = record {
  after = refl;
  steps = tt;
  size = size-at_first s;
  low = (keeps_levels s fits).start.low;
  closed = λ i l u above le. let most = worth-fits s (at_first s) i fits l in absurd (omega arith);
  above = first_level-top (s.levels - 1) s.requesters;
}

-- one more row is one more step
levels_after-push : (levels : List ℕ) (rows : List ProofRow) (row : ProofRow)
    → levels_after levels (rows ++ row ∷ []) ≡ slice_set (levels_after levels rows) row.principal row.value
levels_after-push levels [] row = refl
levels_after-push levels (first ∷ rows) row = levels_after-push (slice_set levels first.principal first.value) rows row

AreSteps-push : (s : SystemEquations) (levels : List ℕ) (rows : List ProofRow) (row : ProofRow) → AreSteps s levels rows
    → IsStep s (levels_after levels rows) row → AreSteps s levels (rows ++ row ∷ [])
AreSteps-push s levels [] row h one = (one, tt)
AreSteps-push s levels (first ∷ rows) row h one =
    (h.0, AreSteps-push s (slice_set levels first.principal first.value) rows row h.1 one)

-- a row that may stand after rows may follow them
pub goes_on : (s : SystemEquations) (levels : List ℕ) (rows : List ProofRow) (row : ProofRow) → AreSteps s levels rows
    → IsStep s (levels_after levels rows) row → GoesOn s levels rows row
goes_on s levels rows row h one =
    record { steps = AreSteps-push s levels rows row h one; after = levels_after-push levels rows row }

none-of : (top : ℕ) (b : Bool) → 0 < top → cond b top 0 ≡ 0 → b ≡ false
none-of top true l e = absurd (omega arith)
none-of top false l e = refl

-- a principal without a level is no requester
other-of : (s : SystemEquations) (levels : List ℕ) (p : ℕ) → IsSystem s → p < length s.requesters
    → Below (at_first s) levels → slice_index levels p ≡ 0 → slice_index_or s.requesters p true ≡ false
other-of s levels p fits l started none =
    let is : IsByPrincipal s p (slice_index_or s.requesters p true) = by_principal s p true l in
    let below : slice_index (at_first s) p ≤ slice_index levels p = started p in
    let some : 0 < s.levels - 1 = omega (arith, fits.levels_fit) in
    let first = is.first in
    let no_level : cond (slice_index_or s.requesters p true) (s.levels - 1) 0 ≡ 0 = omega arith in
    none-of (s.levels - 1) (slice_index_or s.requesters p true) some no_level

unsettled-set : (levels : List ℕ) (p v : ℕ) → p < length levels → slice_index levels p ≡ 0 → 0 < v
    → count_unsettled (slice_set levels p v) < count_unsettled levels
unsettled-set [] p v l none some = absurd (omega arith)
unsettled-set (zero ∷ levels) zero zero l none some = absurd (omega arith)
unsettled-set (zero ∷ levels) zero (suc v) l none some = omega arith
unsettled-set (suc level ∷ levels) zero v l none some = absurd (omega arith)
unsettled-set (zero ∷ levels) (suc p) v l none some = let rest = unsettled-set levels p v (omega arith) none some in
    omega arith
unsettled-set (suc level ∷ levels) (suc p) v l none some = unsettled-set levels p v (omega arith) none some

-- levels above v are reached after the grant where they were before
grant-closed : (s : SystemEquations) (v : ℕ) (levels : List ℕ) (p : ℕ) → p < length levels → slice_index levels p ≡ 0
    → IsClosedAbove s v levels → IsClosedAbove s v (slice_set levels p v)
grant-closed s v levels p l none closed = λ i named u above le.
    let granted : List ℕ = slice_set levels p v in
    let carries : Carries u granted levels =
    set_at levels p v (λ k level. u ≤ level → u ≤ slice_index levels k) l (λ few. absurd (omega arith))
    (λ k differs same. same) in
    let before : u ≤ worth (s.levels - 1) levels (row_at s.rows i) =
    worth-carried u (s.levels - 1) granted levels (omega arith) carries (row_at s.rows i) le in
    let level : u ≤ slice_index levels (row_at s.rows i).authorizer = closed i named u above before in
    let raised : slice_index levels (row_at s.rows i).authorizer ≤ slice_index granted (row_at s.rows i).authorizer =
    set-raises levels p v l none (row_at s.rows i).authorizer in
    omega arith

-- a row that gives its authorizer the level may do so
pub grants : (s : SystemEquations) (v : ℕ) (levels : List ℕ) (rows : List ProofRow) (i : ℕ) → IsSystem s → 0 < v
    → IsSettled s v levels rows → IsGrant s v levels i → IsGranted s v levels rows i
grants s v levels rows i fits some h g =
    let p : ℕ = (row_at s.rows i).authorizer in
    let row : ProofRow = record { principal = p; value = v; by = i } in
    let is_row : IsSystemRow s.levels (length s.requesters) (row_at s.rows i) = row_fits s i fits g.named in
    let within : p < length levels = omega (arith, is_row.authorizer, h.size) in
    let most : worth (s.levels - 1) levels (row_at s.rows i) < s.levels = worth-fits s levels i fits g.named in
    let low : v < s.levels = omega (arith, g.supported) in
    let started : Below (at_first s) levels =
    subst (Below (at_first s)) (sym h.after) (steps-raise s (at_first s) rows (size-at_first s) h.steps) in
    let step : IsStep s levels row = record {
      principal = is_row.authorizer;
      named = g.named;
      level = low;
      other = other-of s levels p fits is_row.authorizer started g.fresh;
      fresh = g.fresh;
      positive = some;
      own = refl;
      supported = g.supported;
    } in
    record {
      settled = record {
        after = ap (λ (before : List ℕ). slice_set before p v) h.after ∙ sym (levels_after-push (at_first s) rows row);
        steps = AreSteps-push s (at_first s) rows row h.steps (subst (λ before. IsStep s before row) h.after step);
        size = length-set levels p v ∙ h.size;
        low = All-set (λ level. level < s.levels) levels p v low h.low;
        closed = grant-closed s v levels p within g.fresh h.closed;
        above = set_at levels p v (λ k level. 0 < level → v ≤ level) within (λ l. omega arith) (λ k differs. h.above k);
      };
      fewer = unsettled-set levels p v within g.fresh some;
    }

-- where no row gives the level, the next lower one may be settled
pub goes_down : (s : SystemEquations) (v : ℕ) (levels : List ℕ) (rows : List ProofRow) → IsSettled s v levels rows
    → HasNoneBefore s v levels (length s.rows) → IsSettled s (v - 1) levels rows
goes_down s v levels rows h none = record {
  after = h.after;
  steps = h.steps;
  size = h.size;
  low = h.low;
  closed = λ i l u above le.
      let level : ℕ = slice_index levels (row_at s.rows i).authorizer in
      elim (cases_lt 0 level) [
        | inl some ↦
            let high : v ≤ level = h.above (row_at s.rows i).authorizer some in
            elim (cases_lt v u) [ inl higher ↦ h.closed i l u higher le | inr same ↦ omega arith ]
        | inr free ↦
            let few : worth (s.levels - 1) levels (row_at s.rows i) < v = none i l (omega arith) in
            absurd (omega arith)
      ];
  above = λ i some. let high : v ≤ slice_index levels i = h.above i some in omega arith;
}

closed_above-none : (s : SystemEquations) (levels : List ℕ) → IsClosedAbove s 0 levels → IsClosed s levels
closed_above-none s levels closed = λ i l.
    let found : ℕ = worth (s.levels - 1) levels (row_at s.rows i) in
    elim (cases_lt 0 found) [ inl some ↦ closed i l found some (omega arith) | inr none ↦ omega arith ]

-- above the lowest level all is settled: the rows are a proof
pub ends : (s : SystemEquations) (levels : List ℕ) (rows : List ProofRow) → IsSettled s 0 levels rows
    → IsProof s rows (slice_index levels 0)
ends s levels rows h = record {
  steps = h.steps;
  closed = subst (IsClosed s) h.after (closed_above-none s levels h.closed);
  claim = ap (λ (before : List ℕ). slice_index before 0) (sym h.after);
}
