-- Pages that are filled: where an item stands.
use Rattle.std.proofs.Common.{◌≡◌, ℕ, zero, suc, ◌+◌, ◌-◌, ◌*◌, ◌<◌, List, [], ◌∷◌, length, ap, ◌∙◌, arith, append-nil}
use Rattle.std.proofs.Common.{length-append, suc-mul, zero-mul, zero-add}
use Rattle.std.specs.Prelude.{slice_get, slice_index_or}
use Rattle.kn_pages.specs.Pages.{joined, AreFilled}
use Rattle.kn_pages.proofs.PageLemmas.{slice_get-left, slice_get-right}

-- The page and the place of an item in it.
pub record IsThere {T : Type 0} (pages : List (List T)) (page place i : ℕ) : Type 0 where
  pub page_in : page < length pages
  pub place_in : place < length (slice_index_or pages page [])
  pub same : slice_get (joined pages) i ≡ slice_get (slice_index_or pages page []) place

module _ {T : Type 0} (most : ℕ) where
  -- the item at place `page * most + place` of all stands at `place` of that page
  pub item_of_filled : (pages : List (List T)) (page place i : ℕ) → AreFilled most pages → place < most
      → i ≡ page * most + place
      → i < length (joined pages) → IsThere pages page place i
  item_of_filled [] page place i filled few is within = absurd (omega (arith, within))
  item_of_filled (items ∷ []) zero place i filled few is within =
      let same : i ≡ place = is ∙ ap (λ (n : ℕ). n + place) (zero-mul most) ∙ zero-add place in
      let whole : length (joined (items ∷ [])) ≡ length items = ap length (append-nil items) in
      record {
        page_in = omega arith;
        place_in = omega (arith, same, whole, within);
        same = ap (λ (l : List T). slice_get l i) (append-nil items) ∙ ap (slice_get items) same;
      }
  item_of_filled (items ∷ []) (suc page) place i filled few is within =
      let most_there = filled.1 in
      let start : suc page * most ≡ page * most + most = suc-mul page most in
      let whole : length (joined (items ∷ [])) ≡ length items = ap length (append-nil items) in
      absurd (omega (arith, is, start, within, most_there, whole))
  item_of_filled (items ∷ next ∷ pages) zero place i filled few is within =
      let full = filled.0 in
      let same : i ≡ place = is ∙ ap (λ (n : ℕ). n + place) (zero-mul most) ∙ zero-add place in
      record {
        page_in = omega arith;
        place_in = omega (arith, few, full);
        same = slice_get-left items (joined (next ∷ pages)) i (omega (arith, same, few, full))
            ∙ ap (slice_get items) same;
      }
  item_of_filled (items ∷ next ∷ pages) (suc page) place i filled few is within =
      let full = filled.0 in
      let start : suc page * most ≡ page * most + most = suc-mul page most in
      let longer = length-append items (joined (next ∷ pages)) in
      let rest = item_of_filled (next ∷ pages) page place (i - length items) filled.1 few
      (omega (arith, is, start, full)) (omega (arith, within, longer, is, start, full)) in
      let there = rest.page_in in
      record {
        page_in = omega (arith, there);
        place_in = rest.place_in;
        same = slice_get-right items (joined (next ∷ pages)) i (omega (arith, is, start, full)) ∙ rest.same;
      }
