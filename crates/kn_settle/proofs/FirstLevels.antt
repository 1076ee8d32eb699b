-- The requesters have the top level, and nobody else has one.
use Rattle.std.proofs.Common.{◌≡◌, ◌≢◌, ℕ, ◌+◌, ◌-◌, ◌<◌, ◌≤◌, Bool, true, false, cond, eqb, List, [], ◌∷◌, ◌++◌}
use Rattle.std.proofs.Common.{length, take, get_or, slice_index, slice_index_or, slice_set, refl, sym, ap}
use Rattle.std.proofs.Common.{◌∙◌, subst, inl, inr, arith}
use Rattle.std.proofs.lemmas.Bool.{cases_eq}
use Rattle.std.proofs.lemmas.Bool.Decides.{nat_tests}
use Rattle.std.proofs.lemmas.List.{ext_get_or, get_or-map, get_or-set_same, get_or-set_other}
use Rattle.std.proofs.lemmas.List.{length-set, take_all, take_more}
use Rattle.kn_system.specs.Equations.{SystemEquations}
use Rattle.kn_system.specs.Least.{at_first}
use Rattle.kn_system.proofs.ProofsDetermine.{size-at_first}
use Rattle.kn_settle.specs.QuerySystem.{flags_from, is_among}
use Rattle.kn_settle.specs.FirstLevels.{AreBegun}
use Rattle.kn_settle.proofs.QuerySystems.{flag-at}

pub among-last : (xs : List ℕ) (p q : ℕ) → p ≡ q → is_among p (xs ++ q ∷ []) ≡ true
among-last [] p q e = let same : eqb q p ≡ true = grind (arith, nat_tests) in ap (λ b. cond b true false) same
among-last (x ∷ xs) p q e = let rest : is_among p (xs ++ q ∷ []) ≡ true = among-last xs p q e in
    either (eqb x p) (is_among p (xs ++ q ∷ [])) rest
  where
    either : (b c : Bool) → c ≡ true → cond b true c ≡ true
    either true c h = refl
    either false c h = h

pub among-before : (xs : List ℕ) (p q : ℕ) → p ≢ q → is_among p (xs ++ q ∷ []) ≡ is_among p xs
among-before [] p q e = let other : eqb q p ≡ false = grind (arith, nat_tests) in ap (λ b. cond b true false) other
among-before (x ∷ xs) p q e = ap (λ c. cond (eqb x p) true c) (among-before xs p q e)

pub begun-set : (s : SystemEquations) (levels next requesters : List ℕ) (q : ℕ) → q < length s.requesters
    → next ≡ slice_set levels q (s.levels - 1) → AreBegun s levels requesters → AreBegun s next (requesters ++ q ∷ [])
begun-set s levels next requesters q within e h =
    let inside : q < length levels = omega (arith, h.size, within) in
    record {
      size = ap length e ∙ length-set levels q (s.levels - 1) ∙ h.size;
      level = λ p l.
          ap (λ ls. slice_index ls p) e ∙
          (elim (cases_eq p q) [
            | inl same ↦ ap (slice_index (slice_set levels q (s.levels - 1))) same
                ∙ get_or-set_same levels q (s.levels - 1) 0 inside
                ∙ sym (ap (λ b. cond b (s.levels - 1) 0) (among-last requesters p q same))
            | inr differs ↦ get_or-set_other levels q p (s.levels - 1) 0 differs ∙ h.level p l
                ∙ sym (ap (λ b. cond b (s.levels - 1) 0) (among-before requesters p q differs))
          ]);
    }

top-had : (b : Bool) (top x : ℕ) → x ≡ cond b top 0 → 0 < x → x ≡ top
top-had true top x e some = e
top-had false top x e some = absurd (omega (arith, e, some))

pub begun-had : (s : SystemEquations) (levels requesters : List ℕ) (q : ℕ) → q < length s.requesters
    → 0 < slice_index levels q → AreBegun s levels requesters → AreBegun s levels (requesters ++ q ∷ [])
begun-had s levels requesters q within had h = record {
  size = h.size;
  level = λ p l.
      elim (cases_eq p q) [
        | inl same ↦
            let here : slice_index levels p ≡ slice_index levels q = ap (slice_index levels) same in
            top-had (is_among p requesters) (s.levels - 1) (slice_index levels p) (h.level p l)
            (omega (arith, here, had)) ∙ sym (ap (λ b. cond b (s.levels - 1) 0) (among-last requesters p q same))
        | inr differs ↦ h.level p l ∙ sym (ap (λ b. cond b (s.levels - 1) 0) (among-before requesters p q differs))
      ];
}

-- the next requester in a list
pub begun-next : (s : SystemEquations) (levels requesters : List ℕ) (i q : ℕ) → i < length requesters
    → q ≡ get_or requesters i 0 → AreBegun s levels (take i requesters ++ q ∷ [])
    → AreBegun s levels (take (i + 1) requesters)
begun-next s levels requesters i q within e h =
    let more : take (i + 1) requesters ≡ take i requesters ++ get_or requesters i 0 ∷ [] =
    take_more requesters i 0 within in
    subst (AreBegun s levels) (ap (λ x. take i requesters ++ x ∷ []) e ∙ sym more) h

-- in the end these are the levels at first
pub begun-all : (s : SystemEquations) (levels requesters : List ℕ) (i : ℕ) → length requesters ≤ i
    → s.requesters ≡ flags_from requesters 0 (length s.requesters) → AreBegun s levels (take i requesters)
    → levels ≡ at_first s
begun-all s levels requesters i all flags h =
    ext_get_or 0 levels (at_first s) (h.size ∙ sym (size-at_first s)) (λ p l.
    let within : p < length s.requesters = omega (arith, l, h.size) in
    let first : slice_index (at_first s) p ≡ cond (slice_index_or s.requesters p false) (s.levels - 1) 0 =
    get_or-map (λ b. cond b (s.levels - 1) 0) s.requesters p false 0 within in
    let here : 0 + p ≡ p = omega arith in
    let flag : slice_index_or s.requesters p false ≡ is_among p requesters = ap (λ fs. slice_index_or fs p false) flags
    ∙ flag-at requesters 0 (length s.requesters) p false within ∙ ap (λ x. is_among x requesters) here in
    let whole : take i requesters ≡ requesters = take_all i requesters all in
    h.level p within ∙ ap (λ rs. cond (is_among p rs) (s.levels - 1) 0) whole
    ∙ sym (first ∙ ap (λ b. cond b (s.levels - 1) 0) flag))
