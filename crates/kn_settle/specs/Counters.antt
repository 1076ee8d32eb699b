-- Counting the parts of gates while principals are settled (keynoted's own): which nodes are marked, what gates have
-- counted, and which rows wait for their level.
use Rattle.std.specs.Prelude.{ℕ, ◌+◌, ◌-◌, ◌*◌, ◌==◌, ◌≡◌, ◌≢◌, ◌<◌, ◌≤◌, Bool, true, false, nat_le, nat_lt, min, Some}
use Rattle.std.specs.Prelude.{List, [], ◌∷◌, length, take, slice_get, slice_index, slice_index_or, if◌then◌else◌}
use Rattle.kn_system.specs.declared.nodes.Up.{Up}
use Rattle.kn_system.specs.declared.nodes.Up.TheVariants.{Node, Row}
use Rattle.kn_system.specs.declared.rows.Piece.{Piece}
use Rattle.kn_system.specs.declared.rows.Piece.TheVariants.{Who, Gate}
use Rattle.kn_system.specs.Counts.{IsWithin}
use Rattle.kn_system.specs.Equations.{SystemEquations, row_at, node_total, leaf_total}
use Rattle.kn_system.specs.Nodes.{pieces_of, ups_of_rows, uses_of}
use Rattle.kn_system.specs.Settled.{count_unsettled}

-- the most steps of settling
abbrev pub most_ticks : SystemEquations → ℕ
most_ticks s = 8 * (node_total s.rows + leaf_total s.rows + length s.requesters + s.levels)

-- whether this is a part of gate g
abbrev pub is_node : ℕ → Up → Bool
is_node g (Node i) = i == g
is_node g (Row r) = false

-- whether this is the formula of row r
abbrev pub is_row : ℕ → Up → Bool
is_row r (Node i) = false
is_row r (Row i) = i == r

-- 1 for what is marked
abbrev pub one_if : Bool → ℕ
one_if m = if m then 1 else 0

-- how many marked nodes have such a link
abbrev pub under : (Up → Bool) → List Bool → List Up → ℕ
under t [] us = 0
under t (m ∷ ms) [] = 0
under t (m ∷ ms) (u ∷ us) = (if t u then one_if m else 0) + under t ms us

-- how many are marked
abbrev pub trues : List Bool → ℕ
trues [] = 0
trues (m ∷ ms) = one_if m + trues ms

abbrev pub is_marked : List Bool → ℕ → Bool
is_marked marks i = slice_index_or marks i false

abbrev pub piece_at : SystemEquations → ℕ → Piece
piece_at s i = slice_index_or (pieces_of s.rows) i (Who 0)

-- a part of a gate before i, or the formula of a row
abbrev pub FitsBelow : SystemEquations → ℕ → Up → Type 0
FitsBelow s i (Node g) = (g < i) × ((k n : ℕ) × (piece_at s g ≡ Gate k n))
FitsBelow s i (Row r) = r < length s.rows

-- each gate has counted its marked parts up to its need, and each but j is marked where it has counted so many
pub record IsCounted (s : SystemEquations) (marks : List Bool) (counts : List ℕ) (j : ℕ) : Type 0 where
  pub marks_fit : length marks ≡ node_total s.rows
  pub counts_fit : length counts ≡ node_total s.rows
  pub counted : (i k n : ℕ) → piece_at s i ≡ Gate k n
      → slice_index counts i ≡ min k (under (is_node i) marks (ups_of_rows s.rows))
  pub agreed : (i k n : ℕ) → piece_at s i ≡ Gate k n → i ≢ j → is_marked marks i ≡ nat_le k (slice_index counts i)

-- all is counted, but node j is yet to be marked
pub record IsPending (s : SystemEquations) (marks : List Bool) (counts : List ℕ) (j : ℕ) : Type 0 where
  pub counts_but : IsCounted s marks counts j
  pub inside : j < node_total s.rows
  pub unmarked : is_marked marks j ≡ false
  pub ready : (k n : ℕ) → piece_at s j ≡ Gate k n → k ≤ slice_index counts j

-- a principal's node is marked where the principal has a level
abbrev pub AreWhole : SystemEquations → List ℕ → List Bool → Type 0
AreWhole s levels marks = (i q : ℕ) → i < node_total s.rows → piece_at s i ≡ Who q
    → is_marked marks i ≡ nat_lt 0 (slice_index levels q)

-- how many uses of a principal stand before a node
abbrev pub rank : SystemEquations → ℕ → ℕ → ℕ
rank s p i = length (uses_of p (take i (pieces_of s.rows)))

-- so it is, but of the principal p the uses from the k-th on alone are marked
abbrev pub AreVisited : SystemEquations → ℕ → ℕ → List ℕ → List Bool → Type 0
AreVisited s p k levels marks =
    (i q : ℕ) → i < node_total s.rows → piece_at s i ≡ Who q
    → is_marked marks i ≡ (if q == p then nat_le k (rank s p i) else nat_lt 0 (slice_index levels q))

abbrev pub bucket_at : List (List ℕ) → ℕ → List ℕ
bucket_at buckets w = slice_index_or buckets w []

-- a row whose formula is marked, and that gives no less than w
pub record IsReady (s : SystemEquations) (marks : List Bool) (w r : ℕ) : Type 0 where
  pub named : r < length s.rows
  pub ceiling : w ≤ (row_at s.rows r).ceiling
  pub fulfilled : 1 ≤ under (is_row r) marks (ups_of_rows s.rows)

-- a row stands in a bucket
abbrev pub IsIn : List ℕ → ℕ → Type 0
IsIn bucket r = (i : ℕ) × (slice_get bucket i ≡ Some r)

-- each row whose formula is marked, and whose authorizer has no level yet, waits in the bucket of v or of its ceiling,
-- if lower
pub record AreWaiting (s : SystemEquations) (v : ℕ) (levels : List ℕ) (marks : List Bool) (buckets : List (List ℕ)) :
    Type 0 where
  pub size : length buckets ≡ s.levels
  pub good : (w i r : ℕ) → slice_get (bucket_at buckets w) i ≡ Some r → IsReady s marks w r
  pub waiting :
      (r : ℕ) → r < length s.rows → 1 ≤ under (is_row r) marks (ups_of_rows s.rows)
      → slice_index levels (row_at s.rows r).authorizer ≡ 0
      → IsIn (bucket_at buckets (min v (row_at s.rows r).ceiling)) r

-- buckets only grow at the end
abbrev pub AreLonger : List (List ℕ) → List (List ℕ) → Type 0
AreLonger old new = (w i r : ℕ) → slice_get (bucket_at old w) i ≡ Some r → slice_get (bucket_at new w) i ≡ Some r

-- what stands between visits
pub record IsCounting (s : SystemEquations) (v : ℕ) (levels : List ℕ) (marks : List Bool) (counts : List ℕ)
    (buckets : List (List ℕ)) : Type 0 where
  pub counted : IsCounted s marks counts (node_total s.rows)
  pub whole : AreWhole s levels marks
  pub waits : AreWaiting s v levels marks buckets

-- climbing from a node has marked it, and gates alone beside it; how many steps that took
pub record IsClimbed (s : SystemEquations) (marks after : List Bool) (node old new : ℕ) : Type 0 where
  pub own : is_marked after node ≡ true
  pub leaves : (i q : ℕ) → piece_at s i ≡ Who q → i ≢ node → is_marked after i ≡ is_marked marks i
  pub more : trues marks < trues after
  pub most : trues after ≤ node_total s.rows
  pub ticks : IsWithin (1 + (trues after - trues marks)) old new

-- a visit has marked nodes; how many steps that took
pub record IsVisit (s : SystemEquations) (marks after : List Bool) (old new : ℕ) : Type 0 where
  pub more : trues marks ≤ trues after
  pub most : trues after ≤ node_total s.rows
  pub ticks : IsWithin (1 + 3 * (trues after - trues marks)) old new

-- at most three steps were taken for each marked node, and one for each principal with a level
pub record IsUsed (s : SystemEquations) (marks : List Bool) (levels : List ℕ) (old new : ℕ) : Type 0 where
  pub nodes : trues marks ≤ node_total s.rows
  pub principals : count_unsettled levels ≤ length s.requesters
  pub ticks : IsWithin (3 * trues marks + (length s.requesters - count_unsettled levels)) old new
