-- Live credentials in order of id: one more, one fewer, and where an id stands.
use Rattle.std.proofs.Common.{◌≡◌, ℕ, suc, ◌+◌, ◌<◌, ◌≤◌, ◌==◌, true, false, not, List, [], ◌∷◌, ◌++◌, take, drop}
use Rattle.std.proofs.Common.{filter}
use Rattle.std.proofs.Common.{refl, sym, ap, ◌∙◌, subst, arith, append_assoc, append-nil}
use Rattle.std.specs.Prelude.{slice_get, slice_index_or, Some}
use Rattle.std.specs.List.{list_any, All}
use Rattle.std.proofs.lemmas.Bool.{ltb-true, ltb-false, ne_eqb, eq-eqb, or_from}
use Rattle.std.proofs.lemmas.Option.{get_or_from_slice_get, slice_get_within}
use Rattle.std.proofs.lemmas.List.{drop_more, take_more, take-append-drop}
use Rattle.std.proofs.lemmas.List.Elements.{All-head, All-tail}
use Rattle.std.proofs.lemmas.List.Folds.{list_any-append}
use Rattle.kn_history.specs.History.{NumberedText}
use Rattle.kn_history.specs.Ids.{IdsAscend}
use Rattle.kn_history.proofs.Ids.{ascend-weaker}
use Rattle.kn_pages.specs.Pages.{joined, without_item}
use Rattle.kn_store.specs.Places.{IsIdAt, IsPlaceOf, ends_before}
use Rattle.kn_pages.proofs.PageLemmas.{joined-append, joined-around, joined-without_item}

other_id : (a b : ℕ) → (a ≡ b → ⊥) → (a == b) ≡ false
other_id a b apart = ne_eqb a b apart

-- Order.

pub ascend-front : (low : ℕ) (xs ys : List NumberedText) → IdsAscend low (xs ++ ys) → IdsAscend low xs
ascend-front low [] ys h = tt
ascend-front low (x ∷ xs) ys h = (h.0, ascend-front x.id xs ys h.1)

pub ascend-back : (low : ℕ) (xs ys : List NumberedText) → IdsAscend low (xs ++ ys) → IdsAscend low ys
ascend-back low [] ys h = h
ascend-back low (x ∷ xs) ys h = ascend-weaker low x.id ys (omega arith) (ascend-back x.id xs ys h.1)

pub ascend-push : (low : ℕ) (xs : List NumberedText) (c : NumberedText) → IdsAscend low xs → All (λ x. x.id < c.id) xs
    → low < c.id → IdsAscend low (xs ++ c ∷ [])
ascend-push low [] c h below above = (above, tt)
ascend-push low (x ∷ xs) c h below above =
    (h.0, ascend-push x.id xs c h.1 (All-tail (λ y. y.id < c.id) x xs below) (All-head (λ y. y.id < c.id) x xs below))

ascend-here : (low : ℕ) (front : List NumberedText) (c : NumberedText) (back : List NumberedText)
    → IdsAscend low (front ++ c ∷ back) → low < c.id
ascend-here low [] c back h = h.0
ascend-here low (x ∷ front) c back h = let above = ascend-here x.id front c back h.1 in omega arith

pub ascend-without : (low : ℕ) (front : List NumberedText) (c : NumberedText) (back : List NumberedText)
    → IdsAscend low (front ++ c ∷ back) → IdsAscend low (front ++ back)
ascend-without low [] c back h = ascend-weaker low c.id back (omega arith) h.1
ascend-without low (x ∷ front) c back h = (h.0, ascend-without x.id front c back h.1)

-- An id that isn't there.

none_above : (id low : ℕ) (xs : List NumberedText) → id ≤ low → IdsAscend low xs → list_any (λ c. c.id == id) xs ≡ false
none_above id low [] le h = refl
none_above id low (x ∷ xs) le h = rw (other_id x.id id (λ same. omega arith)) (none_above id x.id xs (omega arith) h.1)

first_below : (id low : ℕ) (x : NumberedText) (xs : List NumberedText) → IdsAscend low (x ∷ xs)
    → ends_before id (x ∷ xs) ≡ true → x.id < id
first_below id low x [] h ends = ltb-true x.id id ends
first_below id low x (y ∷ xs) h ends = let rest = first_below id x.id y xs h.1 ends in omega arith

pub none_before : (id low : ℕ) (xs : List NumberedText) → IdsAscend low xs → ends_before id xs ≡ true
    → list_any (λ c. c.id == id) xs ≡ false
none_before id low [] h ends = refl
none_before id low (x ∷ []) h ends = let below = first_below id low x [] h ends in
    rw (other_id x.id id (λ same. omega arith)) refl
none_before id low (x ∷ y ∷ xs) h ends =
    let below = first_below id low x (y ∷ xs) h ends in
    rw (other_id x.id id (λ same. omega arith)) (none_before id x.id (y ∷ xs) h.1 ends)

pub none_behind : (id low : ℕ) (xs ys : List NumberedText) → IdsAscend low (xs ++ ys) → ends_before id xs ≡ false
    → list_any (λ c. c.id == id) ys ≡ false
none_behind id low [] ys h ends = cc
none_behind id low (x ∷ []) ys h ends = none_above id x.id ys (ltb-false x.id id ends) h.1
none_behind id low (x ∷ y ∷ xs) ys h ends = none_behind id x.id (y ∷ xs) ys h.1 ends

-- The id taken out.

pub filter-others : (id low : ℕ) (xs : List NumberedText) → id ≤ low → IdsAscend low xs
    → filter (λ c. not (c.id == id)) xs ≡ xs
filter-others id low [] le h = refl
filter-others id low (x ∷ xs) le h =
    rw (other_id x.id id (λ same. omega arith)) (ap (λ rest. x ∷ rest) (filter-others id x.id xs (omega arith) h.1))

pub filter-one : (low : ℕ) (front : List NumberedText) (c : NumberedText) (back : List NumberedText)
    → IdsAscend low (front ++ c ∷ back)
    → filter (λ x. not (x.id == c.id)) (front ++ c ∷ back) ≡ front ++ back
filter-one low [] c back h = rw (eq-eqb c.id c.id refl) (filter-others c.id c.id back (omega arith) h.1)
filter-one low (x ∷ front) c back h =
    let above = ascend-here x.id front c back h.1 in
    rw (other_id x.id c.id (λ same. omega arith)) (ap (λ rest. x ∷ rest) (filter-one x.id front c back h.1))

-- Where a page has the id: the credentials in front of it, itself, and those behind it.
pub record IsCut (pages : List (List NumberedText)) (id page place : ℕ) : Type 0 where
  pub front : List NumberedText
  pub credential : NumberedText
  pub back : List NumberedText
  pub whole : joined pages ≡ front ++ credential ∷ back
  pub rest : joined (without_item pages page place) ≡ front ++ back
  pub same : credential.id ≡ id
  pub there : slice_get (slice_index_or pages page []) place ≡ Some credential

pub cut_at : (pages : List (List NumberedText)) (id page place : ℕ) → IsPlaceOf id pages page place
    → IsCut pages id page place
cut_at pages id page place at =
    let items = slice_index_or pages page [] in
    let front = joined (take page pages) in
    let back = joined (drop (page + 1) pages) in
    let c = at.there.credential in
    let within = slice_get_within items place c at.there.there in
    let next : place + 1 ≡ suc place = omega arith in
    let read : slice_index_or items place c ≡ c = get_or_from_slice_get items place c c at.there.there in
    let halves : items ≡ take place items ++ c ∷ drop (suc place) items =
    sym (take-append-drop place items)
    ∙ ap (λ rest. take place items ++ rest) (drop_more items place c within ∙ ap (λ x. x ∷ drop (place + 1) items) read
    ∙ ap (λ n. c ∷ drop n items) next) in
    record {
      front = front ++ take place items;
      credential = c;
      back = drop (suc place) items ++ back;
      whole =
          joined-around pages page at.in_range
          ∙ ap (λ l. front ++ l ++ back) halves
          ∙ ap (λ l. l ++ back) (sym (append_assoc front (take place items) (c ∷ drop (suc place) items)))
          ∙ append_assoc (front ++ take place items) (c ∷ drop (suc place) items) back;
      rest =
          joined-without_item pages page place
          ∙ ap (λ l. l ++ back) (sym (append_assoc front (take place items) (drop (suc place) items)))
          ∙ append_assoc (front ++ take place items) (drop (suc place) items) back;
      same = at.there.same;
      there = at.there.there;
    }

-- The search by page.

pub found_in : (id : ℕ) (pages : List (List NumberedText)) (page : ℕ) (items : List NumberedText) (place : ℕ)
    → slice_get pages page ≡ Some items
    → IsIdAt id items place → IsPlaceOf id pages page place
found_in id pages page items place there at =
    record {
      in_range = slice_get_within pages page items there;
      there =
          subst (λ l. IsIdAt id l place) (sym (get_or_from_slice_get pages page items [] there)) at;
    }

joined-more : (pages : List (List NumberedText)) (page : ℕ) (items : List NumberedText)
    → slice_get pages page ≡ Some items
    → joined pages ≡ (joined (take page pages) ++ items) ++ joined (drop (page + 1) pages)
joined-more pages page items there =
    joined-around pages page (slice_get_within pages page items there)
    ∙ ap (λ l. joined (take page pages) ++ l ++ joined (drop (page + 1) pages))
    (get_or_from_slice_get pages page items [] there)

joined-next : (pages : List (List NumberedText)) (page : ℕ) (items : List NumberedText)
    → slice_get pages page ≡ Some items
    → joined (take (page + 1) pages) ≡ joined (take page pages) ++ items
joined-next pages page items there =
    ap joined (take_more pages page [] (slice_get_within pages page items there))
    ∙ joined-append (take page pages) (slice_index_or pages page [] ∷ [])
    ∙ ap (λ l. joined (take page pages) ++ l) (append-nil (slice_index_or pages page [])
    ∙ get_or_from_slice_get pages page items [] there)

none_in_both : (id : ℕ) (xs ys : List NumberedText) → list_any (λ c. c.id == id) xs ≡ false
    → list_any (λ c. c.id == id) ys ≡ false → list_any (λ c. c.id == id) (xs ++ ys) ≡ false
none_in_both id xs ys h k = list_any-append (λ c. c.id == id) xs ys
    ∙ or_from (list_any (λ c. c.id == id) xs) (list_any (λ c. c.id == id) ys) h k

-- a page that ends below the id
pub search_on : (id : ℕ) (pages : List (List NumberedText)) (page : ℕ) (items : List NumberedText)
    → IdsAscend 0 (joined pages) → slice_get pages page ≡ Some items
    → list_any (λ c. c.id == id) (joined (take page pages)) ≡ false → ends_before id items ≡ true
    → list_any (λ c. c.id == id) (joined (take (page + 1) pages)) ≡ false
search_on id pages page items order there before ends =
    let whole = subst (IdsAscend 0) (joined-more pages page items there) order in
    let here = ascend-back 0 (joined (take page pages)) items
    (ascend-front 0 (joined (take page pages) ++ items) (joined (drop (page + 1) pages)) whole) in
    subst (λ l. list_any (λ c. c.id == id) l ≡ false) (sym (joined-next pages page items there))
    (none_in_both id (joined (take page pages)) items before (none_before id 0 items here ends))

-- a page that ends at the id or above it, and hasn't it
pub search_ends : (id : ℕ) (pages : List (List NumberedText)) (page : ℕ) (items : List NumberedText)
    → IdsAscend 0 (joined pages) → slice_get pages page ≡ Some items
    → list_any (λ c. c.id == id) (joined (take page pages)) ≡ false → ends_before id items ≡ false
    → list_any (λ c. c.id == id) items ≡ false
    → list_any (λ c. c.id == id) (joined pages) ≡ false
search_ends id pages page items order there before ends absent =
    let front = joined (take page pages) in
    let back = joined (drop (page + 1) pages) in
    let whole = subst (IdsAscend 0) (joined-more pages page items there) order in
    let here = ascend-back 0 front (items ++ back) (subst (IdsAscend 0) (append_assoc front items back) whole) in
    subst (λ l. list_any (λ c. c.id == id) l ≡ false) (sym (joined-more pages page items there))
    (none_in_both id (front ++ items) back (none_in_both id front items before absent)
    (none_behind id 0 items back here ends))
