-- Climbing from a node over a base in a query: a row waits only where its authorizer has no level yet.
use Rattle.std.proofs.Common.{◌≡◌, ℕ, ◌+◌, ◌-◌, ◌<◌, ◌^◌, Bool, true, eqb, min, List, length, slice_index, slice_set}
use Rattle.std.proofs.Common.{sym, ap, subst, inl, inr, arith}
use Rattle.std.proofs.lemmas.Bool.{cases_eq}
use Rattle.std.proofs.lemmas.Bool.Decides.{nat_tests}
use Rattle.kn_system.specs.declared.nodes.Up.TheVariants.{Node, Row}
use Rattle.kn_system.specs.declared.rows.Piece.TheVariants.{Who}
use Rattle.kn_system.specs.Counts.{IsWithin}
use Rattle.kn_system.specs.Equations.{SystemEquations, IsSystem, node_total, row_at}
use Rattle.kn_settle.specs.Counters.{AreLonger, AreWaiting, IsClimbed, IsCounted, IsPending, one_if, piece_at, trues}
use Rattle.kn_settle.proofs.GateClimbs.{GoesOn, ends, within-further, within-more, within-tick}
use Rattle.kn_settle.proofs.OneMoreNode.{AddsUnder, adds-under, counted-on_row, longer-push, waits-row}
use Rattle.kn_settle.proofs.NodeParents.{length-ups}
use Rattle.kn_settle.specs.Reach.{IsPut}

-- a row whose authorizer has a level need not wait
pub waits-had : (s : SystemEquations) (v : ℕ) (levels : List ℕ) (m : List Bool) (buckets : List (List ℕ)) (j row : ℕ)
    → 0 < slice_index levels (row_at s.rows row).authorizer → AddsUnder s m j (Row row)
    → AreWaiting s v levels m buckets
    → AreWaiting s v levels (slice_set m j true) buckets
waits-had s v levels m buckets j row had a h = record {
  size = h.size;
  good = λ w i r e. let ready = h.good w i r e in
      record { named = ready.named; ceiling = ready.ceiling; fulfilled = omega (arith, ready.fulfilled, a.to_row r) };
  waiting = λ r l full none.
      elim (cases_eq r row) [
        | inl same ↦
            let e : slice_index levels (row_at s.rows r).authorizer
            ≡ slice_index levels (row_at s.rows row).authorizer =
            ap (λ y. slice_index levels (row_at s.rows y).authorizer) same in
            absurd (omega (arith, e, had, none))
        | inr differs ↦
            let zero_more : one_if (eqb row r) ≡ 0 = grind (arith, nat_tests) in
            h.waiting r l (omega (arith, full, a.to_row r, zero_more)) none
      ];
}

pub waits-put : (s : SystemEquations) (v : ℕ) (levels : List ℕ) (m : List Bool) (buckets next : List (List ℕ))
    (j row : ℕ) → v < s.levels → row < length s.rows → IsPut s v levels row buckets next → AddsUnder s m j (Row row)
    → AreWaiting s v levels m buckets
    → AreWaiting s v levels (slice_set m j true) next
waits-put s v levels m buckets next j row low within put a h =
    elim put [
      | inl had ↦ subst (AreWaiting s v levels (slice_set m j true)) (sym had.1)
          (waits-had s v levels m buckets j row had.0 a h)
      | inr pushed ↦ subst (AreWaiting s v levels (slice_set m j true)) (sym pushed)
          (waits-row s v levels m buckets j row low within a h)
    ]

pub longer-put : (s : SystemEquations) (v : ℕ) (levels : List ℕ) (buckets next : List (List ℕ)) (row : ℕ)
    → v < length buckets → IsPut s v levels row buckets next → AreLonger buckets next
longer-put s v levels buckets next row low put =
    elim put [
      | inl had ↦ subst (AreLonger buckets) (sym had.1) (λ w i r e. e)
      | inr pushed ↦ subst (AreLonger buckets) (sym pushed)
          (longer-push buckets (min v (row_at s.rows row).ceiling) row (omega (arith, low)))
    ]

-- a row is put into its bucket, or passed by
pub ends_at_put : (s : SystemEquations) (v node row : ℕ) (levels counts now_counts : List ℕ)
    (buckets now_buckets next : List (List ℕ)) (old mid new : ℕ) → IsSystem s → v < s.levels → row < length s.rows
    → IsWithin 1 mid new
    → GoesOn s v node counts buckets (Row row) now_counts now_buckets old mid → IsPut s v levels row now_buckets next
    → (marks : List Bool) (p : ℕ) → piece_at s node ≡ Who p → IsPending s marks counts node
    → AreWaiting s v levels marks buckets
    → (after : List Bool) × IsClimbed s marks after node old new × IsCounted s after now_counts (node_total s.rows)
    × AreWaiting s v levels after next
ends_at_put s v node row levels counts now_counts buckets now_buckets next old mid new is low within tick h put marks p
    leaf pending waits =
    let (m, j, e, on) = h levels marks p leaf pending waits in
    let adds : AddsUnder s m j (Row row) =
    adds-under s m now_counts j (Row 0) (Row row) (length-ups s is) on.pending (sym e) in (
      slice_set m j true,
      ends s v levels marks node m j now_counts now_buckets old mid new on
          (within-more (1 + (trues m - trues marks) + 1) (2 + (trues m - trues marks)) old new (omega arith)
          (within-further (1 + (trues m - trues marks)) 1 old mid new on.ticks tick)),
      counted-on_row s m now_counts j row on.pending adds,
      waits-put s v levels m now_buckets next j row low within put adds on.waits,
    )

-- out of memory for a row
pub breaks_at_row : (s : SystemEquations) (v node row : ℕ) (levels counts now_counts : List ℕ)
    (buckets now_buckets : List (List ℕ)) (old mid new : ℕ) → IsWithin 1 mid new
    → GoesOn s v node counts buckets (Row row) now_counts now_buckets old mid → (marks : List Bool) (p : ℕ)
    → piece_at s node ≡ Who p → IsPending s marks counts node → AreWaiting s v levels marks buckets
    → (after : List Bool) × IsClimbed s marks after node old new × Unit {0}
breaks_at_row s v node row levels counts now_counts buckets now_buckets old mid new tick h marks p leaf pending waits =
    let (m, j, e, on) = h levels marks p leaf pending waits in (
      slice_set m j true,
      ends s v levels marks node m j now_counts now_buckets old mid new on
          (within-more (1 + (trues m - trues marks) + 1) (2 + (trues m - trues marks)) old new (omega arith)
          (within-further (1 + (trues m - trues marks)) 1 old mid new on.ticks tick)),
      tt,
    )

-- nor for a gate that was read
pub breaks_at_gate : (s : SystemEquations) (v node gate : ℕ) (levels counts now_counts : List ℕ)
    (buckets now_buckets : List (List ℕ)) (old mid new : ℕ) → new ≡ min (mid + 1) (2 ^ 64 - 1)
    → GoesOn s v node counts buckets (Node gate) now_counts now_buckets old mid → (marks : List Bool) (p : ℕ)
    → piece_at s node ≡ Who p → IsPending s marks counts node → AreWaiting s v levels marks buckets
    → (after : List Bool) × IsClimbed s marks after node old new × Unit {0}
breaks_at_gate s v node gate levels counts now_counts buckets now_buckets old mid new tick h marks p leaf pending
    waits =
    let (m, j, e, on) = h levels marks p leaf pending waits in (
      slice_set m j true,
      ends s v levels marks node m j now_counts now_buckets old mid new on
          (within-more (1 + (trues m - trues marks) + 1) (2 + (trues m - trues marks)) old new (omega arith)
          (within-tick (1 + (trues m - trues marks)) old mid new on.ticks tick)),
      tt,
    )
