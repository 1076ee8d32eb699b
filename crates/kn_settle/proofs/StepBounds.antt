-- Marked nodes are those whose level is above the lowest, so steps are bounded by what is reached.
use Rattle.std.proofs.Common.{◌≡◌, ◌≢◌, ℕ, zero, suc, ◌+◌, ◌-◌, ◌*◌, ◌<◌, ◌≤◌, Bool, true, false, cond, eqb, nat_le}
use Rattle.std.proofs.Common.{min, List, [], ◌∷◌, ◌++◌, length, length-append, replicate, take, drop, get_or}
use Rattle.std.proofs.Common.{slice_index, refl, ap, ◌∙◌, subst, inl, inr, arith}
use Rattle.std.proofs.lemmas.Bool.{cases_lt}
use Rattle.std.proofs.lemmas.Bool.Decides.{nat_tests}
use Rattle.std.proofs.lemmas.List.{length-replicate}
use Rattle.kn_base.specs.Threshold.{threshold, reaching}
use Rattle.kn_system.specs.declared.nodes.Up.{Up}
use Rattle.kn_system.specs.declared.nodes.Up.TheVariants.{Node}
use Rattle.kn_system.specs.declared.rows.Piece.{Piece}
use Rattle.kn_system.specs.declared.rows.Piece.TheVariants.{Who, Gate}
use Rattle.kn_system.specs.Counts.{IsWithin}
use Rattle.kn_system.specs.Equations.{SystemEquations, IsSystem, node_total}
use Rattle.kn_system.specs.Form.{form_levels}
use Rattle.kn_system.specs.Forms.{AreForms}
use Rattle.kn_system.specs.Least.{least_levels}
use Rattle.kn_system.specs.Nodes.{pieces_of, row_ups, ups_of, ups_of_rows}
use Rattle.kn_system.specs.Settled.{count_unsettled}
use Rattle.kn_system.proofs.KeptRows.{length-pieces_of}
use Rattle.kn_settle.specs.Counters.{AreWhole, IsCounted, IsCounting, IsUsed, is_node, one_if, piece_at, under, trues}
use Rattle.kn_settle.proofs.GateClimbs.{within-more}
use Rattle.kn_settle.proofs.NodeParents.{system-forms}
use Rattle.kn_settle.proofs.MarkLevels.{Agree, AgreesAt, AreOld, agree-from, bits, forms-marked, old-none, old-parts}
use Rattle.kn_settle.proofs.MarkLevels.{old-suc, reaching-bits, threshold-bit, under-parts}
use Rattle.kn_settle.specs.Reach.{most_reached, reached_nodes, reached_principals}

one-min : (x : ℕ) → one_if (nat_le 1 x) ≡ min 1 x
one-min x = elim (cases_lt x 1) [ inl none ↦ grind (arith, nat_tests) | inr some ↦ grind (arith, nat_tests) ]

-- as many nodes are marked as have a level above the lowest
pub nodes-marked : (p top : ℕ) (levels : List ℕ) (counted : ℕ → ℕ) → 1 ≤ top
    → (i : ℕ) (above : List Up) (ps : List Piece) (ms : List Bool) → AreForms p (length above) ps
    → Agree 1 levels counted i ps ms → AreOld i above
    → ((g : ℕ) → i ≤ g → counted g ≡ under (is_node g) ms (ups_of i above ps)) → length ms ≡ length ps
    → trues ms ≡ reached_nodes top levels ps
nodes-marked p top levels counted low i above [] [] f a o w size = refl
nodes-marked p top levels counted low i above [] (m ∷ ms) f a o w size = absurd (omega (arith, size))
nodes-marked p top levels counted low i above (x ∷ ps) [] f a o w size = absurd a
nodes-marked p top levels counted low i [] (x ∷ ps) (m ∷ ms) f a o w size = absurd f
nodes-marked p top levels counted low i (u ∷ us) (Who q ∷ ps) (m ∷ ms) f a o w size =
    let rest : trues ms ≡ reached_nodes top levels ps =
    nodes-marked p top levels counted low (suc i) us ps ms f.1 a.1 (old-suc i us o.1)
    (λ g l.
    let whole = w g (omega arith) in
    let none : cond (is_node g u) (one_if m) 0 ≡ 0 = ap (λ b. cond b (one_if m) 0) (o.0 g (omega arith)) in
    omega (arith, whole, none)) (omega (arith, size)) in
    let mark : one_if m ≡ min 1 (slice_index levels q) = ap one_if a.0 ∙ one-min (slice_index levels q) in
    omega (arith, rest, mark)
nodes-marked p top levels counted low i (u ∷ us) (Gate k n ∷ ps) (m ∷ ms) f a o w size =
    let behind : List ℕ = form_levels top levels ps in
    let parts : List Up = replicate n (Node i) ++ us in
    let long : length us + n ≡ length parts =
    omega (arith, length-append (replicate n (Node i)) us, length-replicate n (Node i)) in
    let forms : AreForms p (length parts) ps = subst (λ c. AreForms p c ps) long f.1 in
    let old : AreOld (suc i) parts = old-parts i n us o.1 in
    let below : (g : ℕ) → suc i ≤ g → counted g ≡ under (is_node g) ms (ups_of (suc i) parts ps) =
    (λ g l.
    let whole = w g (omega arith) in
    let none : cond (is_node g u) (one_if m) 0 ≡ 0 = ap (λ b. cond b (one_if m) 0) (o.0 g (omega arith)) in
    omega (arith, whole, none)) in
    let rest : trues ms ≡ reached_nodes top levels ps =
    nodes-marked p top levels counted low (suc i) parts ps ms forms a.1 old below (omega (arith, size)) in
    let own : eqb i i ≡ true = grind (arith, nat_tests) in
    let counted_here : counted i ≡ reaching 1 (take n behind) = (let whole = w i (omega arith) in
    let none : cond (is_node i u) (one_if m) 0 ≡ 0 = ap (λ b. cond b (one_if m) 0) (o.0 i (omega arith)) in
    let here : under (is_node i) ms (ups_of (suc i) parts ps) ≡ under (is_node i) (bits 1 behind) parts =
    forms-marked p 1 top levels counted (omega arith) low (suc i) parts ps ms forms a.1 old below (is_node i)
    (λ g l. let e : eqb g i ≡ false = grind (arith, nat_tests) in e) in
    let split = under-parts (is_node i) n (Node i) us (bits 1 behind) true own in
    let older = old-none i i us (drop n (bits 1 behind)) o.1 (omega arith) in
    let bit = reaching-bits 1 n behind in
    omega (arith, whole, none, here, split, older, bit)) in
    let mark : m ≡ nat_le 1 (threshold top k (take n behind)) = a.0 ∙ ap (nat_le k) counted_here
    ∙ threshold-bit top k 1 (take n behind) (omega arith) low in
    let first : one_if m ≡ min 1 (threshold top k (take n behind)) = ap one_if mark
    ∙ one-min (threshold top k (take n behind)) in
    omega (arith, rest, first)

-- rows stand under no gate
rows-old : (i r n : ℕ) → AreOld i (row_ups r n)
rows-old i r zero = tt
rows-old i r (suc n) = ((λ g l. refl), rows-old i (suc r) n)

-- a mark says whether its node has a level above the lowest
agrees-whole : (s : SystemEquations) (levels : List ℕ) (marks : List Bool) (counts : List ℕ)
    → IsCounted s marks counts (node_total s.rows) → AreWhole s levels marks
    → (j : ℕ) → j < node_total s.rows → (x : Piece) → piece_at s j ≡ x
    → AgreesAt 1 levels (λ g. under (is_node g) marks (ups_of_rows s.rows)) j x (get_or marks j false)
agrees-whole s levels marks counts counted whole j l (Who q) e =
    whole j q l e ∙
    (elim (cases_lt 0 (slice_index levels q)) [
      | inl has ↦ grind (arith, nat_tests)
      | inr none ↦ grind (arith, nat_tests)
    ])
agrees-whole s levels marks counts counted whole j l (Gate k n) e =
    let in_all : j ≢ node_total s.rows = (λ same. absurd (omega (arith, l, same))) in
    let count = counted.counted j k n e in
    counted.agreed j k n e in_all ∙
    (elim (cases_lt (under (is_node j) marks (ups_of_rows s.rows)) k) [
      | inl few ↦ grind (arith, nat_tests)
      | inr enough ↦ grind (arith, nat_tests)
    ])

pub marks-reached : (s : SystemEquations) (levels : List ℕ) (marks : List Bool) (counts : List ℕ) → IsSystem s
    → IsCounted s marks counts (node_total s.rows) → AreWhole s levels marks
    → trues marks ≡ reached_nodes (s.levels - 1) levels (pieces_of s.rows)
marks-reached s levels marks counts is counted whole =
    let size : length marks ≡ length (pieces_of s.rows) = omega (arith, counted.marks_fit, length-pieces_of s.rows) in
    let agree : Agree 1 levels (λ g. under (is_node g) marks (ups_of_rows s.rows)) 0 (pieces_of s.rows) marks =
    agree-from 1 levels (λ g. under (is_node g) marks (ups_of_rows s.rows)) 0 (pieces_of s.rows) marks size
    (λ j l.
    let z : j ≡ 0 + j = omega arith in
    subst (λ i. AgreesAt 1 levels (λ g. under (is_node g) marks (ups_of_rows s.rows)) i
    (get_or (pieces_of s.rows) j (Who 0)) (get_or marks j false)) z
    (agrees-whole s levels marks counts counted whole j (omega (arith, l, length-pieces_of s.rows)) (piece_at s j)
    refl)) in
    nodes-marked (length s.requesters) (s.levels - 1) levels (λ g. under (is_node g) marks (ups_of_rows s.rows))
    (omega (arith, is.levels_fit.0)) 0 (row_ups 0 (length s.rows)) (pieces_of s.rows) marks
    (system-forms s is) agree (rows-old 0 0 (length s.rows)) (λ g l. refl) size

principals-reached : (levels : List ℕ) → count_unsettled levels + reached_principals levels ≡ length levels
principals-reached [] = refl
principals-reached (zero ∷ levels) = let rest = principals-reached levels in omega (arith, rest)
principals-reached (suc level ∷ levels) = let rest = principals-reached levels in omega (arith, rest)

-- in the end all steps are no more than what is reached allows
pub used-reached : (s : SystemEquations) (v : ℕ) (levels : List ℕ) (marks : List Bool) (counts : List ℕ)
    (buckets : List (List ℕ)) (old new : ℕ) → IsSystem s → length levels ≡ length s.requesters
    → IsCounting s v levels marks counts buckets
    → IsUsed s marks levels old new → levels ≡ least_levels s → IsWithin (most_reached s) old new
used-reached s v levels marks counts buckets old new is size counting used e =
    let nodes : trues marks ≡ reached_nodes (s.levels - 1) levels (pieces_of s.rows) =
    marks-reached s levels marks counts is counting.counted counting.whole in
    let people = principals-reached levels in
    subst (λ (ls : List ℕ). IsWithin (3 * reached_nodes (s.levels - 1) ls (pieces_of s.rows) + reached_principals ls)
    old new) e
    (within-more (3 * trues marks + (length s.requesters - count_unsettled levels))
    (3 * reached_nodes (s.levels - 1) levels (pieces_of s.rows) + reached_principals levels) old new
    (omega (arith, nodes, people, size)) used.ticks)
