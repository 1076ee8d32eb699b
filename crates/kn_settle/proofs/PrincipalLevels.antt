-- A principal gets a level: what its visit begins with, and what it used.
use Rattle.std.proofs.Common.{◌≡◌, ℕ, zero, suc, ◌+◌, ◌-◌, ◌*◌, ◌<◌, Bool, true, false, cond, eqb, nat_le, nat_lt}
use Rattle.std.proofs.Common.{List, [], ◌∷◌, length, slice_index, slice_set, sym, ap, ◌∙◌, inl, inr, arith}
use Rattle.std.proofs.lemmas.Bool.{cases_eq}
use Rattle.std.proofs.lemmas.Bool.Decides.{nat_tests}
use Rattle.std.proofs.lemmas.List.{get_or-set_same, get_or-set_other}
use Rattle.kn_system.specs.declared.rows.Piece.TheVariants.{Who}
use Rattle.kn_system.specs.Equations.{SystemEquations, row_at}
use Rattle.kn_system.specs.Nodes.{pieces_of, uses_of}
use Rattle.kn_system.specs.Settled.{count_unsettled}
use Rattle.kn_settle.specs.Counters.{AreVisited, AreWaiting, AreWhole, IsUsed, IsVisit, rank, trues}
use Rattle.kn_settle.proofs.GateClimbs.{within-further, within-more}
use Rattle.kn_settle.proofs.VisitedUses.{rank-within}

fewer-unsettled : (levels : List ℕ) (p v : ℕ) → p < length levels → slice_index levels p ≡ 0 → 0 < v
    → count_unsettled (slice_set levels p v) < count_unsettled levels
fewer-unsettled [] p v l none some = absurd (omega arith)
fewer-unsettled (zero ∷ levels) zero zero l none some = absurd (omega arith)
fewer-unsettled (zero ∷ levels) zero (suc v) l none some = omega arith
fewer-unsettled (suc level ∷ levels) zero v l none some = absurd (omega arith)
fewer-unsettled (zero ∷ levels) (suc p) v l none some = let rest = fewer-unsettled levels p v (omega arith) none some in
    omega arith
fewer-unsettled (suc level ∷ levels) (suc p) v l none some = let rest =
    fewer-unsettled levels p v (omega arith) none some in omega arith

-- before its visit none of its uses is marked
pub visit-begins : (s : SystemEquations) (p v : ℕ) (levels : List ℕ) (marks : List Bool) → slice_index levels p ≡ 0
    → AreWhole s levels marks → AreVisited s p (length (uses_of p (pieces_of s.rows))) (slice_set levels p v) marks
visit-begins s p v levels marks fresh whole = λ i q l e.
    let uses : ℕ = length (uses_of p (pieces_of s.rows)) in
    whole i q l e ∙
    (elim (cases_eq q p) [
      | inl who ↦
          let own : eqb q p ≡ true = grind (arith, nat_tests) in
          let none : slice_index levels q ≡ 0 = ap (slice_index levels) who ∙ fresh in
          let first : nat_lt 0 (slice_index levels q) ≡ false = grind (arith, nat_tests) in
          let below : rank s p i < uses = rank-within s p i l (e ∙ ap (λ x. Who x) who) in
          let then : nat_le uses (rank s p i) ≡ false = grind (arith, nat_tests) in
          first ∙ sym (ap (λ b. cond b (nat_le uses (rank s p i)) (nat_lt 0 (slice_index (slice_set levels p v) q))) own
          ∙ then)
      | inr stranger ↦
          let no : eqb q p ≡ false = grind (arith, nat_tests) in
          let same : slice_index (slice_set levels p v) q ≡ slice_index levels q =
          get_or-set_other levels p q v 0 stranger in
          sym (ap (λ b. cond b (nat_le uses (rank s p i)) (nat_lt 0 (slice_index (slice_set levels p v) q))) no
          ∙ ap (nat_lt 0) same)
    ])

pub waits-level : (s : SystemEquations) (p v w : ℕ) (levels : List ℕ) (marks : List Bool) (buckets : List (List ℕ))
    → slice_index levels p ≡ 0 → AreWaiting s v levels marks buckets
    → AreWaiting s v (slice_set levels p w) marks buckets
waits-level s p v w levels marks buckets fresh h = record {
  size = h.size;
  good = h.good;
  waiting = λ r l full none.
      h.waiting r l full (elim (cases_eq (row_at s.rows r).authorizer p) [
        | inl same ↦ ap (slice_index levels) same ∙ fresh
        | inr differs ↦ sym (get_or-set_other levels p (row_at s.rows r).authorizer w 0 differs) ∙ none
      ]);
}

pub visit-used : (s : SystemEquations) (p v : ℕ) (levels : List ℕ) (marks after : List Bool) (start mid new : ℕ)
    → p < length levels → slice_index levels p ≡ 0 → 0 < v → IsUsed s marks levels start mid
    → IsVisit s marks after mid new → IsUsed s after (slice_set levels p v) start new
visit-used s p v levels marks after start mid new within fresh some used visit =
    let fewer : count_unsettled (slice_set levels p v) < count_unsettled levels =
    fewer-unsettled levels p v within fresh some in
    record {
      nodes = visit.most;
      principals = omega (arith, fewer, used.principals);
      ticks = within-more (3 * trues marks + (length s.requesters - count_unsettled levels)
          + (1 + 3 * (trues after - trues marks)))
          (3 * trues after + (length s.requesters - count_unsettled (slice_set levels p v))) start new
          (omega (arith, fewer, used.principals, visit.more))
          (within-further (3 * trues marks + (length s.requesters - count_unsettled levels))
          (1 + 3 * (trues after - trues marks)) start mid new used.ticks visit.ticks);
    }

pub level-now : (levels : List ℕ) (p v : ℕ) → p < length levels → 0 < v → 0 < slice_index (slice_set levels p v) p
level-now levels p v within some = let e : slice_index (slice_set levels p v) p ≡ v =
    get_or-set_same levels p v 0 within in omega (arith, e, some)
