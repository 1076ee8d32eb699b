-- The uses of a principal, one after another, where the levels are these.
use Rattle.std.proofs.Common.{◌≡◌, ℕ, suc, ◌+◌, ◌-◌, ◌*◌, ◌<◌, ◌≤◌, ◌^◌, Bool, min, Some, List, length, slice_get}
use Rattle.std.proofs.Common.{slice_index, arith}
use Rattle.kn_system.specs.declared.rows.Piece.TheVariants.{Who}
use Rattle.kn_system.specs.Equations.{SystemEquations, node_total}
use Rattle.kn_system.specs.Nodes.{pieces_of, uses_of}
use Rattle.kn_settle.specs.Counters.{AreVisited, AreWaiting, IsClimbed, IsCounted, IsCounting, IsPending, IsVisit}
use Rattle.kn_settle.specs.Counters.{piece_at, trues}
use Rattle.kn_settle.proofs.GateClimbs.{within-further, within-more, within-tick}
use Rattle.kn_settle.proofs.OneMoreNode.{trues-le}
use Rattle.kn_settle.proofs.VisitedUses.{IsUse, IsVisiting, use_read, visit-pending, visited-all, visited-next}

abbrev pub VisitsAt : SystemEquations → ℕ → ℕ → ℕ → List ℕ → List ℕ → List (List ℕ) → List ℕ → List (List ℕ) → ℕ → ℕ
    → Type 0
VisitsAt s v p k levels counts buckets now_counts now_buckets old new =
    (marks : List Bool) → 0 < slice_index levels p → IsCounted s marks counts (node_total s.rows)
    → AreVisited s p (length (uses_of p (pieces_of s.rows))) levels marks → AreWaiting s v levels marks buckets
    → (m : List Bool) × IsVisiting s v p k levels marks m now_counts now_buckets old new

pub starts_at : (s : SystemEquations) (v p : ℕ) (levels counts : List ℕ) (buckets : List (List ℕ)) (old new : ℕ)
    → new ≡ min (old + 1) (2 ^ 64 - 1)
    → VisitsAt s v p (length (uses_of p (pieces_of s.rows))) levels counts buckets counts buckets old new
starts_at s v p levels counts buckets old new tick = λ marks some counted visited waits. (
  marks,
  record {
    counted = counted;
    visited = visited;
    waits = waits;
    more = omega arith;
    ticks =
        λ fits. (omega (arith, tick), omega (arith, tick));
  },
)

pub ends_at : (s : SystemEquations) (v p : ℕ) (levels counts now_counts : List ℕ) (buckets now_buckets : List (List ℕ))
    (old new : ℕ) → VisitsAt s v p 0 levels counts buckets now_counts now_buckets old new
    → (marks : List Bool) → 0 < slice_index levels p → IsCounted s marks counts (node_total s.rows)
    → AreVisited s p (length (uses_of p (pieces_of s.rows))) levels marks → AreWaiting s v levels marks buckets
    → (after : List Bool) × IsVisit s marks after old new × IsCounting s v levels after now_counts now_buckets
ends_at s v p levels counts now_counts buckets now_buckets old new h marks some counted visited waits =
    let (m, on) = h marks some counted visited waits in (
      m,
      record { more = on.more; most = omega (arith, trues-le m, on.counted.marks_fit); ticks = on.ticks },
      record { counted = on.counted; whole = visited-all s p levels m some on.visited; waits = on.waits },
    )

-- what a climb from the next use says
abbrev pub ClimbSaysAt : SystemEquations → ℕ → ℕ → List ℕ → List ℕ → List (List ℕ) → List ℕ → List (List ℕ) → ℕ → ℕ
    → Type 0
ClimbSaysAt s v node levels counts buckets next_counts next_buckets old new =
    (marks : List Bool) (p : ℕ) → piece_at s node ≡ Who p → IsPending s marks counts node
    → AreWaiting s v levels marks buckets
    → (after : List Bool) × IsClimbed s marks after node old new
    × (IsCounted s after next_counts (node_total s.rows) × AreWaiting s v levels after next_buckets)

three_each : (a b c : ℕ) → a ≤ b → b < c → 1 + 3 * (b - a) + (1 + (c - b)) + 1 ≤ 1 + 3 * (c - a)
three_each a b c l h = omega (arith, l, h)

pub goes_on_at : (s : SystemEquations) (v p k node : ℕ) (levels counts now_counts next_counts : List ℕ)
    (buckets now_buckets next_buckets : List (List ℕ)) (old mid climbed_at new : ℕ)
    → slice_get (uses_of p (pieces_of s.rows)) k ≡ Some node
    → VisitsAt s v p (suc k) levels counts buckets now_counts now_buckets old mid
    → ClimbSaysAt s v node levels now_counts now_buckets next_counts next_buckets mid climbed_at
    → new ≡ min (climbed_at + 1) (2 ^ 64 - 1)
    → VisitsAt s v p k levels counts buckets next_counts next_buckets old new
goes_on_at s v p k node levels counts now_counts next_counts buckets now_buckets next_buckets old mid climbed_at new
    found h climb tick = λ marks some counted visited waits.
    let (m, on) = h marks some counted visited waits in
    let use_k : IsUse s p k node = use_read s p k node found in
    let (after, climbed, (counted_after, waits_after)) =
    climb m p use_k.leaf (visit-pending s p k node levels m now_counts use_k on.counted on.visited) on.waits in (
      after,
      record {
        counted = counted_after;
        visited = visited-next s p k node mid climbed_at levels m after use_k found on.visited climbed;
        waits = waits_after;
        more = omega (arith, on.more, climbed.more);
        ticks = within-more (1 + 3 * (trues m - trues marks) + (1 + (trues after - trues m)) + 1)
            (1 + 3 * (trues after - trues marks)) old new
            (three_each (trues marks) (trues m) (trues after) on.more climbed.more)
            (within-tick (1 + 3 * (trues m - trues marks) + (1 + (trues after - trues m))) old climbed_at new
            (within-further (1 + 3 * (trues m - trues marks)) (1 + (trues after - trues m)) old mid climbed_at on.ticks
            climbed.ticks) tick);
      },
    )

-- a climb that ran out of memory, too
abbrev pub ClimbBreaksAt : SystemEquations → ℕ → ℕ → List ℕ → List ℕ → List (List ℕ) → ℕ → ℕ → Type 0
ClimbBreaksAt s v node levels counts buckets old new =
    (marks : List Bool) (p : ℕ) → piece_at s node ≡ Who p → IsPending s marks counts node
    → AreWaiting s v levels marks buckets → (after : List Bool) × IsClimbed s marks after node old new × Unit {0}

pub breaks_at : (s : SystemEquations) (v p k node : ℕ) (levels counts now_counts : List ℕ)
    (buckets now_buckets : List (List ℕ)) (old mid new : ℕ)
    → slice_get (uses_of p (pieces_of s.rows)) k ≡ Some node
    → VisitsAt s v p (suc k) levels counts buckets now_counts now_buckets old mid
    → ClimbBreaksAt s v node levels now_counts now_buckets mid new
    → (marks : List Bool) → 0 < slice_index levels p → IsCounted s marks counts (node_total s.rows)
    → AreVisited s p (length (uses_of p (pieces_of s.rows))) levels marks → AreWaiting s v levels marks buckets
    → (after : List Bool) × IsVisit s marks after old new × Unit {0}
breaks_at s v p k node levels counts now_counts buckets now_buckets old mid new found h climb marks some counted visited
    waits =
    let (m, on) = h marks some counted visited waits in
    let use_k : IsUse s p k node = use_read s p k node found in
    let (after, climbed, none) =
    climb m p use_k.leaf (visit-pending s p k node levels m now_counts use_k on.counted on.visited) on.waits in (
      after,
      record {
        more = omega (arith, on.more, climbed.more);
        most = climbed.most;
        ticks = within-more (1 + 3 * (trues m - trues marks) + (1 + (trues after - trues m)))
            (1 + 3 * (trues after - trues marks)) old new
            (omega (arith, three_each (trues marks) (trues m) (trues after) on.more climbed.more))
            (within-further (1 + 3 * (trues m - trues marks)) (1 + (trues after - trues m)) old mid new on.ticks
            climbed.ticks);
      },
      tt,
    )
