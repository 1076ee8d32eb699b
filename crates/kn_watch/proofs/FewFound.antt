-- A list of at most so many principals, each once, without one of them.
use Rattle.std.proofs.Common.{◌≡◌, ℕ, suc, zero, ◌+◌, ◌<◌, ◌≤◌, Bool, true, false, Some, List, [], ◌∷◌, ◌++◌}
use Rattle.std.proofs.Common.{length, length-append, replicate, slice_get, slice_set, take, refl, sym, ap, ◌∙◌, subst}
use Rattle.std.proofs.Common.{inl, inr, arith}
use Rattle.std.specs.List.{list_any}
use Rattle.std.specs.Prelude.{nat_eq}
use Rattle.std.proofs.lemmas.Bool.{cases_Bool, eq-eqb, eqb-true, false≢true, or_cases, or_left, or_right}
use Rattle.std.proofs.lemmas.List.{get_or-set_other, length-set, length-replicate}
use mathlib.Core.List.{IsPrefix}
use Rattle.kn_system.specs.Equations.{SystemEquations}
use Rattle.kn_watch.specs.Affected.{IsSubset, is_affected, sum_over}
use Rattle.kn_watch.specs.Found.{AreFewFound, AreFound, flags_of, flags_with, spread_ticks, sum_of}
use Rattle.kn_watch.specs.Unaffected.{IsFewWithout, IsSearched}
use Rattle.kn_watch.proofs.FlaggedLists.{among-set, flag-set, found-next, found-none, front-kept, none-flagged}
use Rattle.kn_watch.proofs.Sums.{sum_of-ones, sum_of-push, sum_of-take, sum_over-among}
use Rattle.kn_watch.proofs.AffectedSpread.{AreFindTicks}
use Rattle.kn_settle.proofs.GateClimbs.{within-more}

flags-push : (flags : List Bool) (found : List ℕ) (p : ℕ)
    → flags_with flags (found ++ p ∷ []) ≡ slice_set (flags_with flags found) p true
flags-push flags [] p = refl
flags-push flags (q ∷ found) p = flags-push (slice_set flags q true) found p

flags-size : (flags : List Bool) (found : List ℕ) → length (flags_with flags found) ≡ length flags
flags-size flags [] = refl
flags-size flags (q ∷ found) = flags-size (slice_set flags q true) found ∙ length-set flags q true

pub flags-length : (s : SystemEquations) (found : List ℕ) → length (flags_of s found) ≡ length s.requesters
flags-length s found = flags-size (replicate (length s.requesters) false) found
    ∙ length-replicate (length s.requesters) false

pub few-none : (s : SystemEquations) (without most : ℕ) → AreFewFound s without most []
few-none s without most = record {
  each = found-none (length s.requesters);
  few = omega arith;
  lacks = none-flagged (length s.requesters) without;
}

-- one more
pub few-next : (s : SystemEquations) (without most p : ℕ) (found : List ℕ) → p < length s.requesters
    → (p ≡ without → ⊥) → is_affected (flags_of s found) p ≡ false → length found < most
    → AreFewFound s without most found → AreFewFound s without most (found ++ p ∷ [])
few-next s without most p found inside other new less h =
    let within : p < length (flags_of s found) = omega (arith, flags-length s found) in
    let push : flags_of s (found ++ p ∷ []) ≡ slice_set (flags_of s found) p true =
    flags-push (replicate (length s.requesters) false) found p in
    record {
      each = subst (λ fs. AreFound fs (found ++ p ∷ [])) (sym push)
          (found-next (flags_of s found) found p within new h.each);
      few = simp length-append (omega (arith, less));
      lacks = ap (λ fs. is_affected fs without) push
          ∙ get_or-set_other (flags_of s found) p without true false (λ e. other (sym e)) ∙ h.lacks;
    }

pub few-there : (s : SystemEquations) (p : ℕ) (found : List ℕ) → p < length s.requesters
    → is_affected (flags_of s (found ++ p ∷ [])) p ≡ true
few-there s p found inside = ap (λ fs. is_affected fs p) (flags-push (replicate (length s.requesters) false) found p)
    ∙ flag-set (flags_of s found) p (omega (arith, flags-length s found))

pub few-within : (s : SystemEquations) (p : ℕ) (found : List ℕ) (others : List Bool) → is_affected others p ≡ true
    → IsSubset (flags_of s found) others → IsSubset (flags_of s (found ++ p ∷ [])) others
few-within s p found others is h = subst (λ fs. IsSubset fs others)
    (sym (flags-push (replicate (length s.requesters) false) found p))
    (among-set (flags_of s found) others p is h)

-- who is found stays so
pub few-kept : (s : SystemEquations) (without most : ℕ) (found more : List ℕ) → AreFewFound s without most found
    → AreFewFound s without most more → IsPrefix found more → IsSubset (flags_of s found) (flags_of s more)
few-kept s without most found more h g front = front-kept (flags_of s found) (flags_of s more) found more h.each g.each
    front

-- what a look through the list says
listed-at : (found : List ℕ) (p : ℕ) → list_any (λ q. nat_eq q p) found ≡ true
    → (i : ℕ) × (slice_get found i ≡ Some p)
listed-at [] p e = absurd (false≢true e)
listed-at (q ∷ found) p e =
    elim (or_cases (nat_eq q p) (list_any (λ x. nat_eq x p) found) e) [
      | inl here ↦ (0, ap (λ x. Some x) (eqb-true q p here))
      | inr behind ↦ let (i, at) = listed-at found p behind in (suc i, at)
    ]

at-listed : (found : List ℕ) (p i : ℕ) → slice_get found i ≡ Some p → list_any (λ q. nat_eq q p) found ≡ true
at-listed [] p i e = absurd (cc)
at-listed (q ∷ found) p zero e =
    let same : q ≡ p = (cc) in
    or_left (nat_eq q p) (list_any (λ x. nat_eq x p) found) (eq-eqb q p same)
at-listed (q ∷ found) p (suc i) e =
    or_right (nat_eq q p) (list_any (λ x. nat_eq x p) found) (at-listed found p i e)

pub looked-there : (flags : List Bool) (found : List ℕ) (p : ℕ) → AreFound flags found
    → list_any (λ q. nat_eq q p) found ≡ true → is_affected flags p ≡ true
looked-there flags found p h e = let (i, at) = listed-at found p e in h.flagged i p at

pub looked-new : (flags : List Bool) (found : List ℕ) (p : ℕ) → AreFound flags found
    → list_any (λ q. nat_eq q p) found ≡ false → is_affected flags p ≡ false
looked-new flags found p h e =
    elim (cases_Bool (is_affected flags p)) [
      | inl is ↦ let (i, at) = h.listed p is in absurd (false≢true (sym e ∙ at-listed found p i at))
      | inr not ↦ not
    ]

-- one more than there may be
pub few-full : (s : SystemEquations) (without most p : ℕ) (found : List ℕ) (others : List Bool)
    → p < length s.requesters → is_affected (flags_of s found) p ≡ false → most ≤ length found
    → AreFewFound s without most found → is_affected others p ≡ true → IsSubset (flags_of s found) others
    → IsFewWithout without most others → ⊥
few-full s without most p found others inside new full h is among few =
    let flags : List Bool = flags_of s found in
    let next : List Bool = slice_set flags p true in
    let within : p < length flags = omega (arith, flags-length s found) in
    let more : AreFound next (found ++ p ∷ []) = found-next flags found p within new h.each in
    let one : sum_of (λ _. 1) (found ++ p ∷ []) ≡ sum_of (λ _. 1) found + 1 = sum_of-push (λ _. 1) found p in
    let two : sum_of (λ _. 1) found ≡ length found = sum_of-ones found in
    let three : sum_of (λ _. 1) (found ++ p ∷ []) ≡ sum_over (λ _. 1) 0 next = more.sums (λ _. 1) in
    let four : sum_over (λ _. 1) 0 next ≤ sum_over (λ _. 1) 0 others =
    sum_over-among (λ _. 1) 0 next others (among-set flags others p is among) in
    omega (arith, full, one, two, three, four, few.few)

-- the steps so far are those for the users of those found
pub few-searched : (s : SystemEquations) (without most n old new : ℕ) (found : List ℕ) (others : List Bool)
    → AreFewFound s without most found → IsSubset (flags_of s found) others → AreFindTicks s others found n old new
    → IsSearched s others most old new
few-searched s without most n old new found others h among ticks =
    let flags : List Bool = flags_of s found in
    let f : ℕ → ℕ = spread_ticks s others in
    let front : sum_of f (take n found) ≤ sum_of f found = sum_of-take f n found in
    let all : sum_of f found ≡ sum_over f 0 flags = h.each.sums f in
    let ones : sum_of (λ _. 1) found ≡ length found = sum_of-ones found in
    let same : sum_of (λ _. 1) found ≡ sum_over (λ _. 1) 0 flags = h.each.sums (λ _. 1) in
    record {
      searched = flags;
      among = among;
      few = omega (arith, ones, same, h.few);
      ticks = within-more (sum_of f (take n found)) (sum_over f 0 flags) old new (omega arith) ticks;
    }
