-- Climbing from a node: each gate that has all it needs is marked next.
use Rattle.std.proofs.Common.{◌≡◌, ◌≢◌, ℕ, suc, ◌+◌, ◌-◌, ◌<◌, ◌≤◌, ◌^◌, Bool, true, false, nat_eq, min, List, length}
use Rattle.std.proofs.Common.{slice_index, slice_index_or, slice_set, sym, ap, ◌∙◌, subst, inl, inr, arith}
use Rattle.std.proofs.lemmas.Bool.{cases_lt, cases_eq, false≢true}
use Rattle.std.proofs.lemmas.Bool.Decides.{nat_tests}
use Rattle.std.proofs.lemmas.List.{get_or-set_same, get_or-set_other, length-set}
use Rattle.kn_system.specs.declared.nodes.NodeSort.{NodeSort}
use Rattle.kn_system.specs.declared.nodes.NodeSort.TheVariants.{Gate as GateNode}
use Rattle.kn_system.specs.declared.nodes.Up.{Up}
use Rattle.kn_system.specs.declared.nodes.Up.TheVariants.{Node, Row}
use Rattle.kn_system.specs.declared.rows.Piece.{Piece}
use Rattle.kn_system.specs.declared.rows.Piece.TheVariants.{Who, Gate}
use Rattle.kn_system.specs.Counts.{IsWithin}
use Rattle.kn_system.specs.Equations.{SystemEquations, IsSystem, node_total}
use Rattle.kn_system.specs.Nodes.{sort_of, ups_of_rows}
use Rattle.kn_settle.specs.Counters.{AreWaiting, FitsBelow, IsClimbed, IsCounted, IsPending, is_marked, piece_at, trues}
use Rattle.kn_settle.proofs.OneMoreNode.{AddsUnder, adds-under, counted-full, counted-on, counted-short, trues-le}
use Rattle.kn_settle.proofs.OneMoreNode.{trues-set, waits-node}
use Rattle.kn_settle.proofs.NodeParents.{length-ups, up-fits}

pub within-more : (n k old new : ℕ) → n ≤ k → IsWithin n old new → IsWithin k old new
within-more n k old new l h = λ fits. let w = h fits in (w.0, omega (arith, w))

pub within-tick : (n old mid new : ℕ) → IsWithin n old mid → new ≡ min (mid + 1) (2 ^ 64 - 1) → IsWithin (n + 1) old new
within-tick n old mid new h e = λ fits. let w = h fits in (omega (arith, w), omega (arith, w))

pub within-further : (n k old mid new : ℕ) → IsWithin n old mid → IsWithin k mid new → IsWithin (n + k) old new
within-further n k old mid new h g = λ fits. let w = h fits in let x = g (omega (arith, w)) in
    (omega (arith, w, x), omega (arith, w, x))

-- how far a climb may still go
abbrev pub up_rank : Up → ℕ
up_rank (Node g) = suc g
up_rank (Row r) = 0

pub record IsClimbing (s : SystemEquations) (v : ℕ) (levels : List ℕ) (marks : List Bool) (node : ℕ) (m : List Bool)
    (j : ℕ) (counts : List ℕ) (buckets : List (List ℕ)) (old new : ℕ) : Type 0 where
  pub pending : IsPending s m counts j
  pub waits : AreWaiting s v levels m buckets
  pub own : is_marked (slice_set m j true) node ≡ true
  pub leaves : (i q : ℕ) → piece_at s i ≡ Who q → i ≢ node → is_marked (slice_set m j true) i ≡ is_marked marks i
  pub more : trues marks ≤ trues m
  pub ticks : IsWithin (1 + (trues m - trues marks)) old new

-- whatever the marks were, a climb is underway from a node whose link was read
abbrev pub GoesOn : SystemEquations → ℕ → ℕ → List ℕ → List (List ℕ) → Up → List ℕ → List (List ℕ) → ℕ → ℕ → Type 0
GoesOn s v node counts buckets up now_counts now_buckets old new =
    (levels : List ℕ) (marks : List Bool) (p : ℕ) → piece_at s node ≡ Who p → IsPending s marks counts node
    → AreWaiting s v levels marks buckets
    → (m : List Bool) × (j : ℕ) × (up ≡ slice_index_or (ups_of_rows s.rows) j (Row 0))
    × IsClimbing s v levels marks node m j now_counts now_buckets old new

pub starts : (s : SystemEquations) (v node : ℕ) (counts : List ℕ) (buckets : List (List ℕ)) (up : Up) (old new : ℕ)
    → up ≡ slice_index_or (ups_of_rows s.rows) node (Row 0) → new ≡ min (old + 1) (2 ^ 64 - 1)
    → GoesOn s v node counts buckets up counts buckets old new
starts s v node counts buckets up old new e tick = λ levels marks p leaf pending waits.
    let inside : node < length marks = omega (arith, pending.inside, pending.counts_but.marks_fit) in (
      marks,
      node,
      e,
      record {
        pending = pending;
        waits = waits;
        own = get_or-set_same marks node true false inside;
        leaves = λ i q is differs. get_or-set_other marks node i true false differs;
        more = omega arith;
        ticks = λ fits. (omega arith, omega arith);
      },
    )

-- the node itself is marked, and that is all
pub ends : (s : SystemEquations) (v : ℕ) (levels : List ℕ) (marks : List Bool) (node : ℕ) (m : List Bool) (j : ℕ)
    (counts : List ℕ) (buckets : List (List ℕ)) (old mid new : ℕ)
    → IsClimbing s v levels marks node m j counts buckets old mid
    → IsWithin (2 + (trues m - trues marks)) old new → IsClimbed s marks (slice_set m j true) node old new
ends s v levels marks node m j counts buckets old mid new h w =
    let inside : j < length m = omega (arith, h.pending.inside, h.pending.counts_but.marks_fit) in
    let one : trues (slice_set m j true) ≡ suc (trues m) = trues-set m j inside h.pending.unmarked in
    record {
      own = h.own;
      leaves = h.leaves;
      more = omega (arith, one, h.more);
      most = omega (arith, trues-le (slice_set m j true), length-set m j true, h.pending.counts_but.marks_fit);
      ticks = within-more (2 + (trues m - trues marks)) (1 + (trues (slice_set m j true) - trues marks)) old new
          (omega (arith, one, h.more)) w;
    }

-- what a gate that was read says of its count
pub record IsCountStep (counts next : List ℕ) (g need : ℕ) (result : Bool) : Type 0 where
  pub full : need ≤ slice_index counts g → result ≡ false
  pub kept : need ≤ slice_index counts g → next ≡ counts
  pub more : slice_index counts g < need → next ≡ slice_set counts g (slice_index counts g + 1)
  pub fulfilled : slice_index counts g < need → result ≡ nat_eq (slice_index counts g + 1) need

need_read : (s : SystemEquations) (g k n need : ℕ) (sort : NodeSort) → piece_at s g ≡ Gate k n
    → sort ≡ sort_of (piece_at s g) → ((k n : ℕ) → sort ≡ GateNode k n → need ≡ k) → need ≡ k
need_read s g k n need sort gate e h = h k n (e ∙ ap sort_of gate)

pub gate_stops : (s : SystemEquations) (v node g need : ℕ) (sort : NodeSort) (counts now_counts next : List ℕ)
    (buckets now_buckets : List (List ℕ)) (old mid new : ℕ) → IsSystem s
    → sort ≡ sort_of (piece_at s g) → ((k n : ℕ) → sort ≡ GateNode k n → need ≡ k)
    → IsCountStep now_counts next g need false → new ≡ min (mid + 1) (2 ^ 64 - 1)
    → GoesOn s v node counts buckets (Node g) now_counts now_buckets old mid
    → (levels : List ℕ) (marks : List Bool) (p : ℕ) → piece_at s node ≡ Who p → IsPending s marks counts node
    → AreWaiting s v levels marks buckets
    → (after : List Bool) × IsClimbed s marks after node old new × IsCounted s after next (node_total s.rows)
    × AreWaiting s v levels after now_buckets
gate_stops s v node g need sort counts now_counts next buckets now_buckets old mid new is sorted needs step tick h
    levels marks p leaf pending waits =
    let (m, j, e, on) = h levels marks p leaf pending waits in
    let adds : AddsUnder s m j (Node g) =
    adds-under s m now_counts j (Row 0) (Node g) (length-ups s is) on.pending (sym e) in
    let below : FitsBelow s j (Node g) = subst (FitsBelow s j) (sym e) (up-fits s j (Row 0) is on.pending.inside) in
    let (before, (k, n, gate)) = below in
    let same : need ≡ k = need_read s g k n need sort gate sorted needs in
    let ticks = within-more (1 + (trues m - trues marks) + 1) (2 + (trues m - trues marks)) old new (omega arith)
    (within-tick (1 + (trues m - trues marks)) old mid new on.ticks tick) in
    let climbed : IsClimbed s marks (slice_set m j true) node old new =
    ends s v levels marks node m j now_counts now_buckets old mid new on ticks in
    let waits_on = waits-node s v levels m now_buckets j g adds on.waits in
    let counted : IsCounted s (slice_set m j true) next (node_total s.rows) =
    (elim (cases_lt (slice_index now_counts g) need) [
      | inl short ↦
          let no : false ≡ nat_eq (slice_index now_counts g + 1) need = step.fulfilled short in
          let less : slice_index now_counts g + 1 < k = (elim (cases_eq (slice_index now_counts g + 1) need) [
            | inl all ↦ let yes_now : nat_eq (slice_index now_counts g + 1) need ≡ true = grind (arith, nat_tests) in
                absurd (false≢true (no ∙ yes_now))
            | inr differs ↦ omega (arith, same, short, differs)
          ]) in
          subst (λ cs. IsCounted s (slice_set m j true) cs (node_total s.rows)) (sym (step.more short))
          (counted-short s m now_counts j g k n on.pending adds before gate less)
      | inr enough ↦ subst (λ cs. IsCounted s (slice_set m j true) cs (node_total s.rows))
          (sym (step.kept (omega arith)))
          (counted-full s m now_counts j g k n on.pending adds gate (omega (arith, same)))
    ]) in
    (slice_set m j true, climbed, counted, waits_on)

pub gate_goes_on : (s : SystemEquations) (v node g need : ℕ) (sort : NodeSort) (up : Up)
    (counts now_counts next : List ℕ) (buckets now_buckets : List (List ℕ)) (old mid new : ℕ) → IsSystem s
    → sort ≡ sort_of (piece_at s g) → ((k n : ℕ) → sort ≡ GateNode k n → need ≡ k)
    → IsCountStep now_counts next g need true → new ≡ min (mid + 1) (2 ^ 64 - 1)
    → up ≡ slice_index_or (ups_of_rows s.rows) g (Row 0)
    → GoesOn s v node counts buckets (Node g) now_counts now_buckets old mid
    → GoesOn s v node counts buckets up next now_buckets old new
gate_goes_on s v node g need sort up counts now_counts next buckets now_buckets old mid new is sorted needs step tick
    above h = λ levels marks p leaf pending waits.
    let (m, j, e, on) = h levels marks p leaf pending waits in
    let adds : AddsUnder s m j (Node g) =
    adds-under s m now_counts j (Row 0) (Node g) (length-ups s is) on.pending (sym e) in
    let below : FitsBelow s j (Node g) = subst (FitsBelow s j) (sym e) (up-fits s j (Row 0) is on.pending.inside) in
    let (before, (k, n, gate)) = below in
    let same : need ≡ k = need_read s g k n need sort gate sorted needs in
    let short : slice_index now_counts g < need =
    (elim (cases_lt (slice_index now_counts g) need)
    [ inl l ↦ l | inr enough ↦ absurd (false≢true (sym (step.full (omega arith)))) ]) in
    let yes_now : true ≡ nat_eq (slice_index now_counts g + 1) need = step.fulfilled short in
    let all : slice_index now_counts g + 1 ≡ k = (elim (cases_eq (slice_index now_counts g + 1) need) [
      | inl equal ↦ omega (arith, equal, same)
      | inr differs ↦ let no : nat_eq (slice_index now_counts g + 1) need ≡ false = grind (arith, nat_tests) in
          absurd (false≢true (sym no ∙ sym yes_now))
    ]) in
    let inside : j < length m = omega (arith, on.pending.inside, on.pending.counts_but.marks_fit) in
    let one : trues (slice_set m j true) ≡ suc (trues m) = trues-set m j inside on.pending.unmarked in
    let no_leaf : (i q : ℕ) → piece_at s i ≡ Who q
    → i ≢ g = (λ i q is_leaf at. who_no_gate q k n (sym is_leaf ∙ ap (piece_at s) at ∙ gate)) in (
      slice_set m j true,
      g,
      above,
      record {
        pending = subst (λ cs. IsPending s (slice_set m j true) cs g) (sym (step.more short))
            (counted-on s m now_counts j g k n on.pending adds before gate all);
        waits = waits-node s v levels m now_buckets j g adds on.waits;
        own = get_or-set_other (slice_set m j true) g node true false (no_leaf node p leaf) ∙ on.own;
        leaves = λ i q is_leaf differs. get_or-set_other (slice_set m j true) g i true false (no_leaf i q is_leaf)
            ∙ on.leaves i q is_leaf differs;
        more = omega (arith, one, on.more);
        ticks = within-more (1 + (trues m - trues marks) + 1) (1 + (trues (slice_set m j true) - trues marks)) old new
            (omega (arith, one, on.more)) (within-tick (1 + (trues m - trues marks)) old mid new on.ticks tick);
      },
    )
  where
    is_gate : Piece → Bool
    is_gate (Who q) = false
    is_gate (Gate k n) = true

    who_no_gate : (q k n : ℕ) → Who q ≡ Gate k n → ⊥
    who_no_gate q k n e = false≢true (ap is_gate e)

pub rank_below : (s : SystemEquations) (i : ℕ) (u : Up) → FitsBelow s i u → up_rank u ≤ i
rank_below s i (Node g) h = omega (arith, h.0)
rank_below s i (Row r) h = omega arith
