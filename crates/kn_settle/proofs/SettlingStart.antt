-- What settling begins with: nothing is marked, and then the requesters have the top level.
use Rattle.std.proofs.Common.{◌≡◌, ℕ, zero, suc, ◌+◌, ◌-◌, ◌*◌, ◌≤◌, Bool, true, false, cond, nat_lt, nat_le, Option}
use Rattle.std.proofs.Common.{None, Some, List, [], ◌∷◌, length, replicate, get_or, slice_get, slice_index, refl, sym}
use Rattle.std.proofs.Common.{ap, ◌∙◌, subst, inl, inr, arith}
use Rattle.std.proofs.lemmas.Bool.{cases_lt, false≢true}
use Rattle.std.proofs.lemmas.Bool.Decides.{nat_tests}
use Rattle.std.proofs.lemmas.List.{get_or-replicate, get_or_past, length-replicate}
use Rattle.kn_system.specs.declared.nodes.Up.{Up}
use Rattle.kn_system.specs.declared.rows.Piece.{Piece}
use Rattle.kn_system.specs.declared.rows.Piece.TheVariants.{Who, Gate}
use Rattle.kn_system.specs.Counts.{IsWithin}
use Rattle.kn_system.specs.Equations.{SystemEquations, IsSystem, node_total}
use Rattle.kn_system.specs.Forms.{AreForms}
use Rattle.kn_proof.specs.declared.row.Row.{Row as ProofRow}
use Rattle.kn_system.specs.Lawful.{ProofDeterminesLevel, SettlingEnds}
use Rattle.kn_system.specs.Least.{at_first, least_levels}
use Rattle.kn_system.specs.Nodes.{pieces_of, row_ups, ups_of_rows}
use Rattle.kn_system.specs.Proofs.{levels_after, IsProof}
use Rattle.kn_system.specs.Settled.{IsSettled, count_unsettled}
use Rattle.kn_settle.specs.Counters.{AreWaiting, IsCounted, IsCounting, IsUsed, is_node, is_row, most_ticks, one_if}
use Rattle.kn_settle.specs.Counters.{trues, under}
use Rattle.kn_settle.proofs.GateClimbs.{within-more}
use Rattle.kn_settle.proofs.NodeParents.{system-forms}

-- all of a list of one value has it, and what stands past its end too
same-everywhere : {X : Type 0} → (n i : ℕ) (x : X) → get_or (replicate n x) i x ≡ x
same-everywhere n i x =
    elim (cases_lt i n) [
      | inl within ↦ get_or-replicate n i x x within
      | inr past ↦ get_or_past (replicate n x) i x (let size = length-replicate n x in omega (arith, size, past))
    ]

either-none : (b : Bool) → cond b (one_if false) 0 ≡ 0
either-none true = refl
either-none false = refl

-- where nothing is marked nothing is counted
under-none : (t : Up → Bool) (n : ℕ) (us : List Up) → under t (replicate n false) us ≡ 0
under-none t zero us = refl
under-none t (suc n) [] = refl
under-none t (suc n) (u ∷ us) =
    let rest : under t (replicate n false) us ≡ 0 = under-none t n us in
    let here = either-none (t u) in
    omega (arith, rest, here)

abbrev is-gate : Piece → Bool
is-gate (Who q) = false
is-gate (Gate k n) = true

abbrev need-of : Piece → ℕ
need-of (Who q) = 0
need-of (Gate k n) = k

-- each gate needs a part
forms-need : (p n : ℕ) (ps : List Piece) → AreForms p n ps → (i k m : ℕ) → get_or ps i (Who 0) ≡ Gate k m → 1 ≤ k
forms-need p n [] f i k m e = absurd (false≢true (ap is-gate e))
forms-need p zero (x ∷ ps) f i k m e = absurd f
forms-need p (suc n) (Who q ∷ ps) f zero k m e = absurd (false≢true (ap is-gate e))
forms-need p (suc n) (Who q ∷ ps) f (suc i) k m e = forms-need p n ps f.1 i k m e
forms-need p (suc n) (Gate l j ∷ ps) f zero k m e = let same : l ≡ k = ap need-of e in omega (arith, f.0, same)
forms-need p (suc n) (Gate l j ∷ ps) f (suc i) k m e = forms-need p (n + j) ps f.1 i k m e

no-row : (r : ℕ) → None ≡ Some r → ⊥
no-row r e = false≢true (ap is-some e)
  where
    is-some : Option ℕ → Bool
    is-some None = false
    is-some (Some x) = true

counted-none : (s : SystemEquations) → IsSystem s
    → IsCounted s (replicate (node_total s.rows) false) (replicate (node_total s.rows) 0) (node_total s.rows)
counted-none s is = record {
  marks_fit = length-replicate (node_total s.rows) false;
  counts_fit = length-replicate (node_total s.rows) 0;
  counted = λ i k n gate.
      let count : slice_index (replicate (node_total s.rows) 0) i ≡ 0 = same-everywhere (node_total s.rows) i 0 in
      let none = under-none (is_node i) (node_total s.rows) (ups_of_rows s.rows) in
      omega (arith, count, none);
  agreed = λ i k n gate differs.
      let count : slice_index (replicate (node_total s.rows) 0) i ≡ 0 = same-everywhere (node_total s.rows) i 0 in
      let need : 1 ≤ k =
      forms-need (length s.requesters) (length (row_ups 0 (length s.rows))) (pieces_of s.rows) (system-forms s is) i
      k n gate in
      let few : nat_le k (slice_index (replicate (node_total s.rows) 0) i) ≡ false = grind (arith, nat_tests) in
      same-everywhere (node_total s.rows) i false ∙ sym few;
}

waits-none : (s : SystemEquations) (v : ℕ) (levels : List ℕ)
    → AreWaiting s v levels (replicate (node_total s.rows) false) (replicate s.levels [])
waits-none s v levels = record {
  size = length-replicate s.levels [];
  good = λ w i r e. let empty : List ℕ = [] in
      absurd (no-row r (ap (λ b. slice_get b i) (sym (same-everywhere s.levels w empty)) ∙ e));
  waiting = λ r within full none. let nothing = under-none (is_row r) (node_total s.rows) (ups_of_rows s.rows) in
      absurd (omega (arith, full, nothing));
}

-- nothing is marked before anybody has a level
pub counting-start : (s : SystemEquations) (v : ℕ) → IsSystem s
    → IsCounting s v (replicate (length s.requesters) 0) (replicate (node_total s.rows) false)
    (replicate (node_total s.rows) 0) (replicate s.levels [])
counting-start s v is = record {
  counted = counted-none s is;
  whole = λ i q within leaf.
      let level : slice_index (replicate (length s.requesters) 0) q ≡ 0 = same-everywhere (length s.requesters) q 0 in
      let no : nat_lt 0 (slice_index (replicate (length s.requesters) 0) q) ≡ false = grind (arith, nat_tests) in
      same-everywhere (node_total s.rows) i false ∙ sym no;
  waits = waits-none s v (replicate (length s.requesters) 0);
}

-- all steps are no more than the most
pub used-most : (s : SystemEquations) (marks : List Bool) (levels : List ℕ) (old new : ℕ)
    → IsUsed s marks levels old new → IsWithin (most_ticks s) old new
used-most s marks levels old new h =
    within-more (3 * trues marks + (length s.requesters - count_unsettled levels)) (most_ticks s) old new
    (omega (arith, h.nodes)) h.ticks

-- once all above the lowest level is settled, these are the least levels, and the rows are a proof
pub record IsDone (s : SystemEquations) (levels : List ℕ) (rows : List ProofRow) : Type 0 where
  pub proof : IsProof s rows (slice_index (least_levels s) 0)
  pub after : levels_after (at_first s) rows ≡ least_levels s
  pub least : levels ≡ least_levels s

pub settled-all : (s : SystemEquations) (v : ℕ) (levels : List ℕ) (rows : List ProofRow) → v ≤ 0
    → IsSettled s v levels rows → SettlingEnds → ProofDeterminesLevel → IsDone s levels rows
settled-all s v levels rows low h ends determines =
    let end : v ≡ 0 = omega (arith, low) in
    let settled : IsSettled s 0 levels rows = subst (λ w. IsSettled s w levels rows) end h in
    let proof : IsProof s rows (slice_index levels 0) = ends s levels rows settled in
    let after : levels_after (at_first s) rows ≡ least_levels s =
    (determines s rows (slice_index levels 0) proof).levels in
    let least : levels ≡ least_levels s = settled.after ∙ after in
    record { proof = subst (λ ls. IsProof s rows (slice_index ls 0)) least proof; after = after; least = least }

pub settled-begun : (s : SystemEquations) (v : ℕ) (levels : List ℕ) (rows : List ProofRow) → v ≡ s.levels - 1
    → levels ≡ at_first s → rows ≡ [] → IsSettled s (s.levels - 1) (at_first s) [] → IsSettled s v levels rows
settled-begun s v levels rows top first none h =
    subst (λ w. IsSettled s w levels rows) (sym top)
    (subst (λ (ls : List ℕ). IsSettled s (s.levels - 1) ls rows) (sym first)
    (subst (λ (rs : List ProofRow). IsSettled s (s.levels - 1) (at_first s) rs) (sym none) h))

pub counting-begun : (s : SystemEquations) (v : ℕ) (levels counts : List ℕ) (buckets : List (List ℕ)) → IsSystem s
    → levels ≡ replicate (length s.requesters) 0 → counts ≡ replicate (node_total s.rows) 0
    → buckets ≡ replicate s.levels []
    → IsCounting s v levels (replicate (node_total s.rows) false) counts buckets
counting-begun s v levels counts buckets is l c b =
    let none : List Bool = replicate (node_total s.rows) false in
    subst (λ (ls : List ℕ). IsCounting s v ls none counts buckets) (sym l)
    (subst (λ (cs : List ℕ). IsCounting s v (replicate (length s.requesters) 0) none cs buckets) (sym c)
    (subst (λ (bs : List (List ℕ)). IsCounting s v (replicate (length s.requesters) 0) none
    (replicate (node_total s.rows) 0) bs) (sym b) (counting-start s v is)))
