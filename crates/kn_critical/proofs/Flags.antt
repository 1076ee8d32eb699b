-- The flags of a base from which a run of rows is taken out and put back.
use Rattle.std.proofs.Common.{◌≡◌, ℕ, zero, suc, ◌<◌, ◌≤◌, Bool, true, false, not, List, [], ◌∷◌, length, replicate}
use Rattle.std.proofs.Common.{slice_set, refl, sym, ap, ◌∙◌, arith}
use Rattle.kn_proof.specs.declared.named.Id.{Id}
use Rattle.kn_proof.specs.declared.named.NamedRow.{NamedRow}
use Rattle.kn_meaning.specs.Critical.{is_row_by}
use Rattle.kn_meaning.specs.Equations.{Part}
use Rattle.kn_critical.specs.Searching.{HasRow, flags_with, flags_without}

module _ (rows : List NamedRow) where
  abbrev named : Part → Bool
  named part = is_row_by rows part.id

  -- a run of no rows
  pub none-out : (parts : List Part) (row : ℕ) → flags_without rows parts row row ≡ replicate (length parts) true
  none-out [] row = refl
  none-out (p ∷ parts) zero = ap (λ flags. true ∷ flags) (none-out parts zero)
  none-out (p ∷ parts) (suc row) = ap (λ flags. true ∷ flags) (none-out parts row)

  -- a run grows by a row whose assertion a proof names
  pub one-out : (parts : List Part) (start end : ℕ) (id : Id) → start ≤ end → HasRow parts id end
      → is_row_by rows id ≡ true
      → slice_set (flags_without rows parts start end) end false ≡ flags_without rows parts start (suc end)
  one-out [] start end id ordered here is = absurd (cc)
  one-out (p ∷ parts) zero zero id ordered here is =
      let same : id ≡ p.id = cc in
      ap (λ b. not b ∷ flags_without rows parts zero zero) (sym is ∙ ap (is_row_by rows) same)
  one-out (p ∷ parts) zero (suc end) id ordered here is =
      ap (λ flags. not (named p) ∷ flags) (one-out parts zero end id (omega arith) here is)
  one-out (p ∷ parts) (suc start) zero id ordered here is = absurd (omega (arith, ordered))
  one-out (p ∷ parts) (suc start) (suc end) id ordered here is =
      ap (λ flags. true ∷ flags) (one-out parts start end id (omega (arith, ordered)) here is)

  -- and by another one
  pub one-stays : (parts : List Part) (start end : ℕ) (id : Id) → start ≤ end → HasRow parts id end
      → is_row_by rows id ≡ false
      → flags_without rows parts start end ≡ flags_without rows parts start (suc end)
  one-stays [] start end id ordered here is = refl
  one-stays (p ∷ parts) zero zero id ordered here is =
      let same : id ≡ p.id = cc in
      ap (λ b. not b ∷ flags_without rows parts zero zero) (sym is ∙ ap (is_row_by rows) same)
  one-stays (p ∷ parts) zero (suc end) id ordered here is =
      ap (λ flags. not (named p) ∷ flags) (one-stays parts zero end id (omega arith) here is)
  one-stays (p ∷ parts) (suc start) zero id ordered here is = absurd (omega (arith, ordered))
  one-stays (p ∷ parts) (suc start) (suc end) id ordered here is =
      ap (λ flags. true ∷ flags) (one-stays parts start end id (omega (arith, ordered)) here is)

  -- there is a flag for each assertion
  pub length-without : (parts : List Part) (start end : ℕ) → length (flags_without rows parts start end) ≡ length parts
  length-without [] start end = refl
  length-without (p ∷ parts) zero zero = ap suc (length-without parts zero zero)
  length-without (p ∷ parts) zero (suc end) = ap suc (length-without parts zero end)
  length-without (p ∷ parts) (suc start) zero = ap suc (length-without parts start zero)
  length-without (p ∷ parts) (suc start) (suc end) = ap suc (length-without parts start end)

  -- what was taken out is put back
  pub all-back : (parts : List Part) (start end : ℕ) → flags_with (flags_without rows parts start end) start end
      ≡ replicate (length parts) true
  all-back [] start end = refl
  all-back (p ∷ parts) zero zero = ap (λ flags. true ∷ flags) (all-back parts zero zero)
  all-back (p ∷ parts) zero (suc end) = ap (λ flags. true ∷ flags) (all-back parts zero end)
  all-back (p ∷ parts) (suc start) zero = ap (λ flags. true ∷ flags) (all-back parts start zero)
  all-back (p ∷ parts) (suc start) (suc end) = ap (λ flags. true ∷ flags) (all-back parts start end)

  -- a run of one row that a proof names
  pub alone-out : (parts : List Part) (row : ℕ) (id : Id) → HasRow parts id row → is_row_by rows id ≡ true
      → flags_without rows parts row (suc row) ≡ slice_set (replicate (length parts) true) row false
  alone-out parts row id here is =
      sym (one-out parts row row id (omega arith) here is)
      ∙ ap (λ flags. slice_set flags row false) (none-out parts row)

-- putting back a run of no rows
pub none-back : (flags : List Bool) (row : ℕ) → flags_with flags row row ≡ flags
none-back [] row = refl
none-back (f ∷ flags) zero = ap (λ fs. f ∷ fs) (none-back flags zero)
none-back (f ∷ flags) (suc row) = ap (λ fs. f ∷ fs) (none-back flags row)

-- and of one row more
pub one-back : (flags : List Bool) (start end : ℕ) → start ≤ end → end < length flags
    → slice_set (flags_with flags start end) end true ≡ flags_with flags start (suc end)
one-back [] start end ordered within = absurd (omega (arith, within))
one-back (f ∷ flags) zero zero ordered within = refl
one-back (f ∷ flags) zero (suc end) ordered within =
    ap (λ fs. true ∷ fs) (one-back flags zero end (omega arith) (omega (arith, within)))
one-back (f ∷ flags) (suc start) zero ordered within = absurd (omega (arith, ordered))
one-back (f ∷ flags) (suc start) (suc end) ordered within =
    ap (λ fs. f ∷ fs) (one-back flags start end (omega (arith, ordered)) (omega (arith, within)))

pub length-with : (flags : List Bool) (start end : ℕ) → length (flags_with flags start end) ≡ length flags
length-with [] start end = refl
length-with (f ∷ flags) zero zero = ap suc (length-with flags zero zero)
length-with (f ∷ flags) zero (suc end) = ap suc (length-with flags zero end)
length-with (f ∷ flags) (suc start) zero = ap suc (length-with flags start zero)
length-with (f ∷ flags) (suc start) (suc end) = ap suc (length-with flags start end)
