-- The uses of a principal, one after another: which are marked while it is visited.
use Rattle.std.proofs.Common.{◌≡◌, ◌≢◌, ℕ, zero, suc, ◌+◌, ◌-◌, ◌*◌, ◌<◌, ◌≤◌, Bool, true, false, cond, eqb, nat_le}
use Rattle.std.proofs.Common.{nat_lt, Option, None, Some, List, [], ◌∷◌, length, take, get_or, slice_get, slice_index}
use Rattle.std.proofs.Common.{refl}
use Rattle.std.proofs.Common.{sym, ap, ◌∙◌, subst, inl, inr, arith}
use Rattle.std.proofs.lemmas.Bool.{cases_lt, cases_eq, false≢true}
use Rattle.std.proofs.lemmas.Bool.Decides.{nat_tests}
use Rattle.std.proofs.lemmas.List.{get_or_past}
use Rattle.std.proofs.lemmas.Option.{slice_get-get_or, slice_get_within}
use Rattle.kn_system.specs.declared.rows.Piece.{Piece}
use Rattle.kn_system.specs.declared.rows.Piece.TheVariants.{Who, Gate}
use Rattle.kn_system.specs.Counts.{IsWithin}
use Rattle.kn_system.specs.Equations.{SystemEquations, node_total}
use Rattle.kn_system.specs.Nodes.{pieces_of, use_before_at, uses_from, uses_of}
use Rattle.kn_system.proofs.KeptRows.{length-pieces_of}
use Rattle.kn_settle.specs.Counters.{AreVisited, AreWaiting, AreWhole, IsClimbed, IsCounted, IsPending, is_marked}
use Rattle.kn_settle.specs.Counters.{piece_at, rank, trues}

-- where a principal stands, there is a use
use-found-from : (p i m : ℕ) (ps : List Piece) → m < length ps → get_or ps m (Who 0) ≡ Who p
    → slice_get (uses_from p i ps) (length (uses_from p i (take m ps))) ≡ Some (i + m)
use-found-from p i m [] l e = absurd (omega arith)
use-found-from p i zero (Who q ∷ ps) l e =
    let same : q ≡ p = ap who e in
    let here : eqb q p ≡ true = grind (arith, nat_tests) in
    let z : i ≡ i + 0 = omega arith in
    ap (λ b. slice_get (cond b (i ∷ uses_from p (suc i) ps) (uses_from p (suc i) ps)) 0) here ∙ ap (λ n. Some n) z
  where
    who : Piece → ℕ
    who (Who x) = x
    who (Gate k n) = 0
use-found-from p i zero (Gate k n ∷ ps) l e = absurd (false≢true (ap is_who e))
  where
    is_who : Piece → Bool
    is_who (Who x) = true
    is_who (Gate k n) = false
use-found-from p i (suc m) (Who q ∷ ps) l e =
    let rest : slice_get (uses_from p (suc i) ps) (length (uses_from p (suc i) (take m ps))) ≡ Some (suc i + m) =
    use-found-from p (suc i) m ps (omega arith) e in
    let next : suc i + m ≡ i + suc m = omega arith in
    let all : slice_get (uses_from p (suc i) ps) (length (uses_from p (suc i) (take m ps))) ≡ Some (i + suc m) = rest
    ∙ ap (λ n. Some n) next in
    elim (eqb q p) as
    (λ b. slice_get (cond b (i ∷ uses_from p (suc i) ps) (uses_from p (suc i) ps))
    (length (cond b (i ∷ uses_from p (suc i) (take m ps)) (uses_from p (suc i) (take m ps)))) ≡ Some (i + suc m))
    [ true ↦ all | false ↦ all ]
use-found-from p i (suc m) (Gate k n ∷ ps) l e =
    let rest : slice_get (uses_from p (suc i) ps) (length (uses_from p (suc i) (take m ps))) ≡ Some (suc i + m) =
    use-found-from p (suc i) m ps (omega arith) e in
    let next : suc i + m ≡ i + suc m = omega arith in
    rest ∙ ap (λ x. Some x) next

-- and a use is where the principal stands
record IsPlace (p i : ℕ) (ps : List Piece) (k j m : ℕ) : Type 0 where
  at : j ≡ i + m
  inside : m < length ps
  who : get_or ps m (Who 0) ≡ Who p
  before : length (uses_from p i (take m ps)) ≡ k

place-next : (p i : ℕ) (x : Piece) (ps : List Piece) (k j m n : ℕ)
    → ((m : ℕ) → length (uses_from p i (x ∷ take m ps)) ≡ n + length (uses_from p (suc i) (take m ps)))
    → IsPlace p (suc i) ps k j m → IsPlace p i (x ∷ ps) (n + k) j (suc m)
place-next p i x ps k j m n count h = record {
  at = omega (arith, h.at);
  inside = omega (arith, h.inside);
  who = h.who;
  before = count m ∙ ap (λ c. n + c) h.before;
}

abbrev from-some : Option ℕ → ℕ
from-some None = 0
from-some (Some y) = y

use-place-who : (p i q : ℕ) (ps : List Piece) (k j : ℕ) (b : Bool)
    → ((l : ℕ) → slice_get (uses_from p (suc i) ps) l ≡ Some j → (m : ℕ) × IsPlace p (suc i) ps l j m) → eqb q p ≡ b
    → slice_get (cond b (i ∷ uses_from p (suc i) ps) (uses_from p (suc i) ps)) k ≡ Some j → (m : ℕ)
    × IsPlace p i (Who q ∷ ps) k j m
use-place-who p i q ps zero j true next e h =
    let same : q ≡ p = grind (arith, nat_tests) in
    let here : j ≡ i = sym (ap from-some h) in
    (0, record { at = omega (arith, here); inside = omega arith; who = ap (λ x. Who x) same; before = refl })
use-place-who p i q ps (suc k) j true next e h =
    let r = next k h in
    let count : (m : ℕ) → length (uses_from p i (Who q ∷ take m ps)) ≡ 1 + length (uses_from p (suc i) (take m ps)) =
    (λ m. ap (λ b. length (cond b (i ∷ uses_from p (suc i) (take m ps)) (uses_from p (suc i) (take m ps)))) e
    ∙ (omega arith)) in
    let more : 1 + k ≡ suc k = omega arith in
    (suc r.0, subst (λ c. IsPlace p i (Who q ∷ ps) c j (suc r.0)) more (place-next p i (Who q) ps k j r.0 1 count r.1))
use-place-who p i q ps k j false next e h =
    let r = next k h in
    let count : (m : ℕ) → length (uses_from p i (Who q ∷ take m ps)) ≡ 0 + length (uses_from p (suc i) (take m ps)) =
    (λ m. ap (λ b. length (cond b (i ∷ uses_from p (suc i) (take m ps)) (uses_from p (suc i) (take m ps)))) e
    ∙ (omega arith)) in
    let more : 0 + k ≡ k = omega arith in
    (suc r.0, subst (λ c. IsPlace p i (Who q ∷ ps) c j (suc r.0)) more (place-next p i (Who q) ps k j r.0 0 count r.1))

use-place-from : (p i : ℕ) (ps : List Piece) (k j : ℕ) → slice_get (uses_from p i ps) k ≡ Some j → (m : ℕ)
    × IsPlace p i ps k j m
use-place-from p i [] k j h = absurd (cc)
use-place-from p i (Who q ∷ ps) k j h =
    use-place-who p i q ps k j (eqb q p) (λ l. use-place-from p (suc i) ps l j) refl h
use-place-from p i (Gate l n ∷ ps) k j h =
    let r = use-place-from p (suc i) ps k j h in
    let more : 0 + k ≡ k = omega arith in (
      suc r.0,
      subst (λ c. IsPlace p i (Gate l n ∷ ps) c j (suc r.0)) more
          (place-next p i (Gate l n) ps k j r.0 0 (λ m. omega arith) r.1),
    )

-- the k-th use of a principal
pub record IsUse (s : SystemEquations) (p k j : ℕ) : Type 0 where
  pub inside : j < node_total s.rows
  pub leaf : piece_at s j ≡ Who p
  pub ranked : rank s p j ≡ k
  pub most : k < length (uses_of p (pieces_of s.rows))

pub use_read : (s : SystemEquations) (p k j : ℕ) → slice_get (uses_of p (pieces_of s.rows)) k ≡ Some j → IsUse s p k j
use_read s p k j e =
    let (m, place) = use-place-from p 0 (pieces_of s.rows) k j e in
    let same : m ≡ j = omega (arith, place.at) in
    record {
      inside = omega (arith, place.inside, same, length-pieces_of s.rows);
      leaf = ap (piece_at s) (sym same) ∙ place.who;
      ranked = ap (rank s p) (sym same) ∙ place.before;
      most = slice_get_within (uses_of p (pieces_of s.rows)) k j e;
    }

pub use_found : (s : SystemEquations) (p i : ℕ) → i < node_total s.rows → piece_at s i ≡ Who p
    → slice_get (uses_of p (pieces_of s.rows)) (rank s p i) ≡ Some i
use_found s p i l e =
    let z : 0 + i ≡ i = omega arith in
    use-found-from p 0 i (pieces_of s.rows) (omega (arith, l, length-pieces_of s.rows)) e ∙ ap (λ n. Some n) z

pub rank-within : (s : SystemEquations) (p i : ℕ) → i < node_total s.rows → piece_at s i ≡ Who p
    → rank s p i < length (uses_of p (pieces_of s.rows))
rank-within s p i l e = slice_get_within (uses_of p (pieces_of s.rows)) (rank s p i) i (use_found s p i l e)

-- how many uses of a principal are left, where the next is this
abbrev pub uses_left : SystemEquations → ℕ → Option ℕ → ℕ
uses_left s p None = 0
uses_left s p (Some node) = suc (rank s p node)

left-before : (s : SystemEquations) (p k : ℕ) → k ≤ length (uses_of p (pieces_of s.rows))
    → uses_left s p (use_before_at (uses_of p (pieces_of s.rows)) k) ≡ k
left-before s p zero l = refl
left-before s p (suc k) l =
    let uses : List ℕ = uses_of p (pieces_of s.rows) in
    let found : slice_get uses k ≡ Some (slice_index uses k) = slice_get-get_or uses k 0 (omega (arith, l)) in
    ap (uses_left s p) found ∙ ap suc (use_read s p k (slice_index uses k) found).ranked

-- the next use is the last of those that are left
abbrev pub IsNextUse : SystemEquations → ℕ → Option ℕ → Type 0
IsNextUse s p next = next ≡ use_before_at (uses_of p (pieces_of s.rows)) (uses_left s p next)

-- where the last of the first k uses is next, k are left
pub next-left : (s : SystemEquations) (p k : ℕ) (next : Option ℕ) → k ≤ length (uses_of p (pieces_of s.rows))
    → next ≡ use_before_at (uses_of p (pieces_of s.rows)) k → uses_left s p next ≡ k
next-left s p k next l e = ap (uses_left s p) e ∙ left-before s p k l

pub next-is : (s : SystemEquations) (p k : ℕ) (next : Option ℕ) → k ≤ length (uses_of p (pieces_of s.rows))
    → next ≡ use_before_at (uses_of p (pieces_of s.rows)) k → IsNextUse s p next
next-is s p k next l e = e ∙ ap (use_before_at (uses_of p (pieces_of s.rows))) (sym (next-left s p k next l e))

-- a next use stands where its rank says
pub next_read : (s : SystemEquations) (p node : ℕ) (next : Option ℕ) → IsNextUse s p next → next ≡ Some node
    → slice_get (uses_of p (pieces_of s.rows)) (rank s p node) ≡ Some node
next_read s p node next h e =
    sym (ap (λ o. use_before_at (uses_of p (pieces_of s.rows)) (uses_left s p o)) e) ∙ sym h ∙ e

-- two uses of one rank are one
use_same : (s : SystemEquations) (p k i j : ℕ) → i < node_total s.rows → piece_at s i ≡ Who p → rank s p i ≡ k
    → slice_get (uses_of p (pieces_of s.rows)) k ≡ Some j → i ≡ j
use_same s p k i j l e r h = ap from-some (sym (use_found s p i l e) ∙ ap (slice_get (uses_of p (pieces_of s.rows))) r
    ∙ h)

pub who_same : (q p : ℕ) → Who q ≡ Who p → q ≡ p
who_same q p e = ap who e
  where
    who : Piece → ℕ
    who (Who x) = x
    who (Gate k n) = 0

pub gate_no_who : (s : SystemEquations) (i k n q : ℕ) → piece_at s i ≡ Gate k n → piece_at s i ≡ Who q → ⊥
gate_no_who s i k n q e f = false≢true (ap is_who (sym e ∙ f))
  where
    is_who : Piece → Bool
    is_who (Who x) = true
    is_who (Gate l m) = false

-- the next use is yet to be marked
pub visit-pending : (s : SystemEquations) (p k j : ℕ) (levels : List ℕ) (m : List Bool) (counts : List ℕ)
    → IsUse s p k j → IsCounted s m counts (node_total s.rows) → AreVisited s p (suc k) levels m
    → IsPending s m counts j
visit-pending s p k j levels m counts kth counted visited = record {
  counts_but = record {
    marks_fit = counted.marks_fit;
    counts_fit = counted.counts_fit;
    counted = counted.counted;
    agreed = λ i l n e differs. counted.agreed i l n e (λ same.
        let past : piece_at s i ≡ Who 0 =
        get_or_past (pieces_of s.rows) i (Who 0) (omega (arith, same, length-pieces_of s.rows)) in
        gate_no_who s i l n 0 e past);
  };
  inside = kth.inside;
  unmarked =
      let own : eqb p p ≡ true = grind (arith, nat_tests) in
      let less : nat_le (suc k) (rank s p j) ≡ false = (let r = kth.ranked in grind (arith, nat_tests)) in
      visited j p kth.inside kth.leaf
      ∙ ap (λ b. cond b (nat_le (suc k) (rank s p j)) (nat_lt 0 (slice_index levels p))) own ∙ less;
  ready = λ l n e. absurd (gate_no_who s j l n p e kth.leaf);
}

-- and is marked then
pub visited-next : (s : SystemEquations) (p k j old new : ℕ) (levels : List ℕ) (m after : List Bool) → IsUse s p k j
    → slice_get (uses_of p (pieces_of s.rows)) k ≡ Some j → AreVisited s p (suc k) levels m
    → IsClimbed s m after j old new → AreVisited s p k levels after
visited-next s p k j old new levels m after kth found visited climbed = λ i q l e.
    elim (cases_eq i j) [
      | inl same ↦
          let who : q ≡ p = who_same q p (sym e ∙ ap (piece_at s) same ∙ kth.leaf) in
          let own : eqb q p ≡ true = grind (arith, nat_tests) in
          let at_rank : rank s p i ≡ k = ap (rank s p) same ∙ kth.ranked in
          let reached : nat_le k (rank s p i) ≡ true = grind (arith, nat_tests) in
          ap (is_marked after) same ∙ climbed.own
          ∙ sym (ap (λ b. cond b (nat_le k (rank s p i)) (nat_lt 0 (slice_index levels q))) own ∙ reached)
      | inr differs ↦
          climbed.leaves i q e differs ∙ visited i q l e ∙
          (elim (cases_eq q p) [
            | inl who ↦
                let own : eqb q p ≡ true = grind (arith, nat_tests) in
                let leaf : piece_at s i ≡ Who p = e ∙ ap (λ x. Who x) who in
                let other : rank s p i ≢ k = (λ r. differs (use_same s p k i j l leaf r found)) in
                let same_test : nat_le (suc k) (rank s p i) ≡ nat_le k (rank s p i) =
                (elim (cases_lt (rank s p i) k) [
                  | inl a ↦ grind (arith, nat_tests)
                  | inr b ↦ let above : k
                      < rank s p i = omega (arith, b, other) in grind (arith, nat_tests)
                ]) in
                ap (λ x. cond (eqb q p) x (nat_lt 0 (slice_index levels q))) same_test
            | inr stranger ↦
                let no : eqb q p ≡ false = grind (arith, nat_tests) in
                ap (λ b. cond b (nat_le (suc k) (rank s p i)) (nat_lt 0 (slice_index levels q))) no
                ∙ sym (ap (λ b. cond b (nat_le k (rank s p i)) (nat_lt 0 (slice_index levels q))) no)
          ])
    ]

-- once no use is left all is marked
pub visited-all : (s : SystemEquations) (p : ℕ) (levels : List ℕ) (m : List Bool) → 0 < slice_index levels p
    → AreVisited s p 0 levels m → AreWhole s levels m
visited-all s p levels m some visited = λ i q l e.
    visited i q l e ∙
    (elim (cases_eq q p) [
      | inl who ↦
          let own : eqb q p ≡ true = grind (arith, nat_tests) in
          let yes_first : nat_le 0 (rank s p i) ≡ true = grind (arith, nat_tests) in
          let level : slice_index levels q ≡ slice_index levels p = ap (slice_index levels) who in
          let yes_then : nat_lt 0 (slice_index levels q) ≡ true = grind (arith, nat_tests) in
          ap (λ b. cond b (nat_le 0 (rank s p i)) (nat_lt 0 (slice_index levels q))) own ∙ yes_first ∙ sym yes_then
      | inr stranger ↦
          let no : eqb q p ≡ false = grind (arith, nat_tests) in
          ap (λ b. cond b (nat_le 0 (rank s p i)) (nat_lt 0 (slice_index levels q))) no
    ])

-- whatever the marks were, so a visit of a principal is underway
pub record IsVisiting (s : SystemEquations) (v p k : ℕ) (levels : List ℕ) (marks m : List Bool) (counts : List ℕ)
    (buckets : List (List ℕ)) (old new : ℕ) : Type 0 where
  pub counted : IsCounted s m counts (node_total s.rows)
  pub visited : AreVisited s p k levels m
  pub waits : AreWaiting s v levels m buckets
  pub more : trues marks ≤ trues m
  pub ticks : IsWithin (1 + 3 * (trues m - trues marks)) old new

pub none_of : (r : Option ℕ) → ((x : ℕ) → r ≡ Some x → ⊥) → r ≡ None
none_of None h = refl
none_of (Some x) h = absurd (h x refl)
