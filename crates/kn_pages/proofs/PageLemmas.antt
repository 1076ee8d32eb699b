-- Lists of pages, of whatever items: an item at the end, and one taken out.
use Rattle.std.proofs.Common.{◌≡◌, ℕ, zero, suc, ◌+◌, ◌-◌, ◌<◌, ◌≤◌, Bool, true, false, cond, List, [], ◌∷◌, ◌++◌}
use Rattle.std.proofs.Common.{length, take, drop, refl, sym, ap, ◌∙◌, subst, inl, inr, ⊎_elim, arith, append_assoc}
use Rattle.std.proofs.Common.{append-nil, length-append}
use Rattle.std.specs.Prelude.{◌⊎◌, nat_lt, remove, map, slice_get, slice_index_or, slice_set, get_or, Some}
use Rattle.std.proofs.lemmas.Bool.{cond-true, cond-false, ltb-true, ltb-false}
use Rattle.std.specs.List.{All}
use Rattle.std.proofs.lemmas.List.{drop_more, drop_all, take_at, get_or-append_right, get_or-map, take-append-drop}
use Rattle.std.proofs.lemmas.List.{length-map, map-append, map-set, set-set, set_split, take-map, drop-map, length-take}
use Rattle.std.proofs.lemmas.List.{length-drop}
use Rattle.std.proofs.lemmas.List.Edits.{length-remove}
use Rattle.std.proofs.lemmas.List.Elements.{All-head, All-tail, All-cons, All-nil}
use Rattle.std.proofs.lemmas.Option.{get_or_from_slice_get, slice_get_read, slice_get_within}
use Rattle.std.proofs.lemmas.List.Concat.{flat_map-append}
use Rattle.std.specs.Arc.{arc_value}
use Rattle.std.specs.declared.sync.Arc.{Arc}
use Rattle.std.specs.declared.alloc.Global.{Global}
use Rattle.kn_pages.specs.Pages.{pages_of, joined, AreSized, AreFilled, with_item, unless_empty, without_item}

pub map-remove : {A B : Type 0} (f : A → B) (items : List A) (place : ℕ)
    → map f (remove items place) ≡ remove (map f items) place
map-remove f items place =
    map-append f (take place items) (drop (suc place) items)
    ∙ ap (λ l. l ++ map f (drop (suc place) items)) (sym (take-map f place items))
    ∙ ap (λ l. take place (map f items) ++ l) (sym (drop-map f (suc place) items))

-- the only item taken out
one_left : {A : Type 0} (items : List A) (place : ℕ) → length items ≤ 1 → place < length items → remove items place ≡ []
one_left [] place few within = absurd (omega arith)
one_left (x ∷ []) zero few within = refl
one_left (x ∷ []) (suc place) few within = absurd (omega arith)
one_left (x ∷ y ∷ items) place few within = absurd (omega arith)

pub some_left : {A : Type 0} (items rest : List A) (place : ℕ) → rest ≡ remove items place → 1 < length items
    → place < length items → 1 ≤ length rest
some_left items rest place out many within = let fewer = length-remove items place within in let same = ap length out in
    omega arith

module _ {T : Type 0} where
  pub joined-append : (xs ys : List (List T)) → joined (xs ++ ys) ≡ joined xs ++ joined ys
  joined-append xs ys = flat_map-append (λ page. page) xs ys

  pub joined-unless_empty : (page : List T) → joined (unless_empty page) ≡ page
  joined-unless_empty [] = refl
  joined-unless_empty (x ∷ xs) = append-nil (x ∷ xs)

  -- Pages that are shared.

  pub pages_of-append : (xs ys : List (Arc (List T) Global)) → pages_of (xs ++ ys) ≡ pages_of xs ++ pages_of ys
  pages_of-append [] ys = refl
  pages_of-append (x ∷ xs) ys = ap (λ rest. arc_value x ∷ rest) (pages_of-append xs ys)

  pub pages_of-push : (xs : List (Arc (List T) Global)) (page : Arc (List T) Global)
      → pages_of (xs ++ page ∷ []) ≡ pages_of xs ++ arc_value page ∷ []
  pages_of-push xs page = pages_of-append xs (page ∷ [])

  -- The item at a place of all.

  pub slice_get-left : (xs ys : List T) (i : ℕ) → i < length xs → slice_get (xs ++ ys) i ≡ slice_get xs i
  slice_get-left [] ys i within = absurd (omega arith)
  slice_get-left (x ∷ xs) ys zero within = refl
  slice_get-left (x ∷ xs) ys (suc i) within = slice_get-left xs ys i (omega arith)

  pub slice_get-right : (xs ys : List T) (i : ℕ) → length xs ≤ i → slice_get (xs ++ ys) i ≡ slice_get ys (i - length xs)
  slice_get-right [] ys i behind = ap (slice_get ys) (omega arith)
  slice_get-right (x ∷ xs) ys zero behind = absurd (omega arith)
  slice_get-right (x ∷ xs) ys (suc i) behind = slice_get-right xs ys i (omega arith) ∙ ap (slice_get ys) (omega arith)

  pub rest_at : (closed : List (Arc (List T) Global)) (k : ℕ) (page : Arc (List T) Global) → k < length closed
      → page ≡ get_or closed k page
      → pages_of (drop k closed) ≡ arc_value page ∷ pages_of (drop (k + 1) closed)
  rest_at closed k page within is =
      ap pages_of (drop_more closed k page within) ∙ ap (λ p. arc_value p ∷ pages_of (drop (k + 1) closed)) (sym is)

  module _ (closed : List (Arc (List T) Global)) (k : ℕ) (page : Arc (List T) Global) (last : List T)
      (within : k < length closed) (is : page ≡ get_or closed k page) where
    rest_is : joined (pages_of (drop k closed)) ++ last ≡ arc_value page
        ++ (joined (pages_of (drop (k + 1) closed)) ++ last)
    rest_is =
        ap (λ pages. joined pages ++ last) (rest_at closed k page within is)
        ∙ append_assoc (arc_value page) (joined (pages_of (drop (k + 1) closed))) last

    pub item_here : (left : ℕ) → left < length (arc_value page)
        → slice_get (joined (pages_of (drop k closed)) ++ last) left ≡ slice_get (arc_value page) left
    item_here left here =
        ap (λ items. slice_get items left) rest_is
        ∙ slice_get-left (arc_value page) (joined (pages_of (drop (k + 1) closed)) ++ last) left (omega arith)

    pub item_behind : (left : ℕ) → length (arc_value page) ≤ left
        → left < length (joined (pages_of (drop k closed)) ++ last)
        → (left - length (arc_value page) < length (joined (pages_of (drop (k + 1) closed)) ++ last))
        × (slice_get (joined (pages_of (drop k closed)) ++ last) left
        ≡ slice_get (joined (pages_of (drop (k + 1) closed)) ++ last) (left - length (arc_value page)))
    item_behind left behind inside =
        let rest = joined (pages_of (drop (k + 1) closed)) ++ last in
        let whole = ap length rest_is in
        let both = length-append (arc_value page) rest in (
          omega arith,
          ap (λ items. slice_get items left) rest_is
              ∙ slice_get-right (arc_value page) rest left (omega arith),
        )

  pub item_last : (closed : List (Arc (List T) Global)) (k : ℕ) (last : List T) (left : ℕ) (here : T)
      → length closed ≤ k
      → left < length (joined (pages_of (drop k closed)) ++ last) → here ≡ get_or last left here
      → slice_get (joined (pages_of (drop k closed)) ++ last) left ≡ Some here
  item_last closed k last left here passed within is =
      let none : joined (pages_of (drop k closed)) ++ last ≡ last =
      ap (λ rest. joined (pages_of rest) ++ last) (drop_all k closed passed) in
      let inside = ap length none in
      ap (λ items. slice_get items left) none ∙ slice_get_read last (length last) left here refl (omega arith) is

  -- the item at a place of a page
  pub within_page : (pages : List (List T)) (page place : ℕ) (items : List T) → slice_get pages page ≡ Some items
      → place < length (slice_index_or pages page []) → place < length items
  within_page pages page place items there within =
      let same : slice_index_or pages page [] ≡ items = get_or_from_slice_get pages page items [] there in
      let longer = ap length same in
      omega arith

  pub item_of_page : (pages : List (List T)) (page place : ℕ) (items : List T) (here : T)
      → slice_get pages page ≡ Some items
      → place < length items → here ≡ get_or items place here
      → slice_get (slice_index_or pages page []) place ≡ Some here
  item_of_page pages page place items here there within is =
      let same : slice_index_or pages page [] ≡ items = get_or_from_slice_get pages page items [] there in
      ap (λ l. slice_get l place) same ∙ slice_get_read items (length items) place here refl within is

  -- One more item.

  abbrev pub one_more : ℕ → List T → T → List (List T)
  one_more most page item = cond (nat_lt (length page) most) ((page ++ item ∷ []) ∷ []) (page ∷ (item ∷ []) ∷ [])

  pub with_item-last : (most : ℕ) (front : List (List T)) (page : List T) (item : T)
      → with_item most (front ++ page ∷ []) item ≡ front ++ one_more most page item
  with_item-last most [] page item = refl
  with_item-last most (p ∷ []) page item = refl
  with_item-last most (p ∷ q ∷ front) page item = ap (λ rest. p ∷ rest) (with_item-last most (q ∷ front) page item)

  -- where the last page has room
  pub with_item-room : (most : ℕ) (front : List (List T)) (page : List T) (item : T) → length page < most
      → with_item most (front ++ page ∷ []) item ≡ front ++ (page ++ item ∷ []) ∷ []
  with_item-room most front page item room = with_item-last most front page item
      ∙ ap (λ rest. front ++ rest) (cond-true (nat_lt (length page) most) _ _ (lt_ltb (length page) most room))
    where
      lt_ltb : (a b : ℕ) → a < b → nat_lt a b ≡ true
      lt_ltb a b h = search (arith)

  -- where it is full
  pub with_item-full : (most : ℕ) (front : List (List T)) (page : List T) (item : T) → most ≤ length page
      → with_item most (front ++ page ∷ []) item ≡ (front ++ page ∷ []) ++ (item ∷ []) ∷ []
  with_item-full most front page item full =
      with_item-last most front page item
      ∙ ap (λ rest. front ++ rest) (cond-false (nat_lt (length page) most) _ _ (le_ltb (length page) most full))
      ∙ sym (append_assoc front (page ∷ []) ((item ∷ []) ∷ []))
    where
      le_ltb : (a b : ℕ) → b ≤ a → nat_lt a b ≡ false
      le_ltb a b h = search (arith)

  -- the same of closed pages and a last one, which is empty only where there are no others
  pub longer-room : (most : ℕ) (front : List (List T)) (last : List T) (item : T) → (front ≡ []) ⊎ (1 ≤ length last)
      → length last < most
      → front ++ unless_empty (last ++ item ∷ []) ≡ with_item most (front ++ unless_empty last) item
  longer-room most front [] item kept room =
      ⊎_elim (λ (none : front ≡ []). rw none refl) (λ (some : 1 ≤ length {A = T} []). absurd (omega arith)) kept
  longer-room most front (x ∷ last) item kept room = sym (with_item-room most front (x ∷ last) item room)

  pub longer-full : (most : ℕ) (front : List (List T)) (last : List T) (item : T) → 1 ≤ most → most ≤ length last
      → (front ++ last ∷ []) ++ (item ∷ []) ∷ [] ≡ with_item most (front ++ unless_empty last) item
  longer-full most front [] item some full = absurd (omega arith)
  longer-full most front (x ∷ last) item some full = sym (with_item-full most front (x ∷ last) item full)

  -- the same of pages that are seen so
  pub none_seen : {A : Type 0} (f : A → List T) (pages : List A) (n m : ℕ) → n ≤ m → (pages ≡ []) ⊎ (1 ≤ n)
      → (map f pages ≡ []) ⊎ (1 ≤ m)
  none_seen f pages n m le kept =
      ⊎_elim (λ (none : pages ≡ []). inl (ap (map f) none)) (λ (some : 1 ≤ n). inr (omega arith)) kept

  pub seen-full : {A : Type 0} (f : A → List T) (most : ℕ) (front after : List A) (last : List T) (page : A)
      (opened : List T) (item : T) → 1 ≤ most
      → most ≤ length last → after ≡ front ++ page ∷ [] → f page ≡ last → opened ≡ item ∷ []
      → map f after ++ unless_empty opened ≡ with_item most (map f front ++ unless_empty last) item
  seen-full f most front after last page opened item some full is value begun =
      ap (λ l. map f l ++ unless_empty opened) is
      ∙ ap (λ l. map f (front ++ page ∷ []) ++ unless_empty l) begun
      ∙ ap (λ l. l ++ (item ∷ []) ∷ []) (map-append f front (page ∷ []) ∙ ap (λ l. map f front ++ l ∷ []) value)
      ∙ longer-full most (map f front) last item some full

  -- the same of pages that are shared
  pub shared-room : (most : ℕ) (closed : List (Arc (List T) Global)) (last longer : List T) (item : T)
      → (closed ≡ []) ⊎ (1 ≤ length last) → length last < most → longer ≡ last ++ item ∷ []
      → pages_of closed ++ unless_empty longer ≡ with_item most (pages_of closed ++ unless_empty last) item
  shared-room most closed last longer item kept room is =
      ap (λ l. pages_of closed ++ unless_empty l) is
      ∙ longer-room most (pages_of closed) last item
      (none_seen arc_value closed (length last) (length last) (omega arith) kept) room

  pub shared-full : (most : ℕ) (closed after : List (Arc (List T) Global)) (last opened : List T) (item : T) → 1 ≤ most
      → most ≤ length last
      → pages_of after ≡ pages_of closed ++ last ∷ [] → opened ≡ item ∷ []
      → pages_of after ++ unless_empty opened ≡ with_item most (pages_of closed ++ unless_empty last) item
  shared-full most closed after last opened item some full is begun =
      ap (λ l. l ++ unless_empty opened) is
      ∙ ap (λ l. (pages_of closed ++ last ∷ []) ++ unless_empty l) begun
      ∙ longer-full most (pages_of closed) last item some full

  pub shared-same : (closed other : List (Arc (List T) Global)) (last copy : List T)
      → map arc_value other ≡ map arc_value closed
      → copy ≡ last → pages_of other ++ unless_empty copy ≡ pages_of closed ++ unless_empty last
  shared-same closed other last copy pages items =
      ap (λ l. l ++ unless_empty copy) pages ∙ ap (λ l. pages_of closed ++ unless_empty l) items

  pub shared-count : (closed : List (Arc (List T) Global)) (last : List T) → (last ≡ [] → ⊥)
      → length (pages_of closed ++ unless_empty last) ≡ length closed + 1
  shared-count closed [] some = absurd (some refl)
  shared-count closed (x ∷ last) some =
      let sizes = length-map closed (arc_value {X = List T} {Z = Global}) in
      let both = length-append (pages_of closed) ((x ∷ last) ∷ []) in
      omega arith

  -- One item out of a page.

  at_end : (front : List (List T)) (last : List T) (page : ℕ) → page ≡ length front
      → slice_index_or (front ++ last ∷ []) page [] ≡ last
  at_end front last page here =
      let first : page - length front ≡ 0 = omega arith in
      get_or-append_right front (last ∷ []) (length front) page [] refl (omega arith)
      ∙ ap (λ n. slice_index_or (last ∷ []) n []) first

  out_of_last : (front : List (List T)) (last : List T) (page place : ℕ) → length front ≤ page
      → page < length (front ++ unless_empty last)
      → without_item (front ++ unless_empty last) page place ≡ front ++ unless_empty (remove last place)
  out_of_last front [] page place behind within = absurd (omega (arith, length-append front []))
  out_of_last front (x ∷ last) page place behind within =
      let both = length-append front ((x ∷ last) ∷ []) in
      let here : page ≡ length front = omega arith in
      let at : slice_index_or (front ++ (x ∷ last) ∷ []) page [] ≡ x ∷ last = at_end front (x ∷ last) page here in
      let before : take page (front ++ (x ∷ last) ∷ []) ≡ front = take_at front ((x ∷ last) ∷ []) page (sym here) in
      let after : drop (page + 1) (front ++ (x ∷ last) ∷ []) ≡ [] =
      drop_all (page + 1) (front ++ (x ∷ last) ∷ []) (omega arith) in
      rw (at, before, after) (append-nil (front ++ unless_empty (remove (x ∷ last) place)))

  -- the same taken out of the last page, where pages are shared
  pub shared-out_of_last : (closed : List (Arc (List T) Global)) (last : List T) (page place : ℕ) → length closed ≤ page
      → page < length (pages_of closed ++ unless_empty last)
      → pages_of closed ++ unless_empty (remove last place)
      ≡ without_item (pages_of closed ++ unless_empty last) page place
  shared-out_of_last closed last page place behind within =
      let sizes = length-map closed (arc_value {X = List T} {Z = Global}) in
      sym (out_of_last (pages_of closed) last page place (omega arith) within)

  pub last_shorter : (closed : List (Arc (List T) Global)) (last rest : List T) (place : ℕ) → rest ≡ remove last place
      → pages_of closed ++ unless_empty rest ≡ pages_of closed ++ unless_empty (remove last place)
  last_shorter closed last rest place out = ap (λ l. pages_of closed ++ unless_empty l) out

  none_left : (last : List T) (place : ℕ) → length last ≤ 1 → place < length last → remove last place ≡ []
  none_left last place few within = one_left last place few within

  pub last_out : (closed : List (Arc (List T) Global)) (last : List T) (place : ℕ) → closed ≡ [] → length last ≤ 1
      → place < length last
      → [] ≡ pages_of closed ++ unless_empty (remove last place)
  last_out closed last place none few within =
      sym (ap (λ l. pages_of l ++ unless_empty (remove last place)) none
      ∙ ap unless_empty (none_left last place few within))

  -- the last of these pages opened again
  all-last : (P : List T → Type 0) (front : List (List T)) (last : List T) → All P (front ++ last ∷ []) → P last
  all-last P [] last all = All-head P last [] all
  all-last P (x ∷ front) last all = all-last P front last (All-tail P x (front ++ last ∷ []) all)

  unless_empty-some : (items : List T) → 1 ≤ length items → unless_empty items ≡ items ∷ []
  unless_empty-some [] some = absurd (omega arith)
  unless_empty-some (x ∷ items) some = refl

  opened_again : (pages front : List (Arc (List T) Global)) (page : Arc (List T) Global) (copy : List T)
      → pages ≡ front ++ page ∷ []
      → copy ≡ arc_value page → All (λ items. 1 ≤ length items) (pages_of pages)
      → (1 ≤ length copy) × (pages_of front ++ unless_empty copy ≡ pages_of pages)
  opened_again pages front page copy cut items all =
      let whole = ap pages_of cut ∙ pages_of-push front page in
      let some : 1 ≤ length (arc_value page) =
      all-last (λ l. 1 ≤ length l) (pages_of front) (arc_value page)
      (subst (All (λ (l : List T). 1 ≤ length l)) whole all) in
      let sizes_seen = ap length items in (
        omega arith,
        ap (λ l. pages_of front ++ unless_empty l) items
            ∙ ap (λ l. pages_of front ++ l) (unless_empty-some (arc_value page) some) ∙ sym whole,
      )

  pub last_opened : (pages front : List (Arc (List T) Global)) (page : Arc (List T) Global) (copy last : List T)
      (place : ℕ)
      → pages ≡ front ++ page ∷ [] → copy ≡ arc_value page → All (λ items. 1 ≤ length items) (pages_of pages)
      → length last ≤ 1 → place < length last
      → (1 ≤ length copy) × (pages_of front ++ unless_empty copy ≡ pages_of pages ++ unless_empty (remove last place))
  last_opened pages front page copy last place cut items all few within =
      let again = opened_again pages front page copy cut items all in (
        again.0,
        again.1 ∙ sym (append-nil (pages_of pages))
            ∙ ap (λ l. pages_of pages ++ unless_empty l) (sym (none_left last place few within)),
      )

  pub place_in_copy : (page : Arc (List T) Global) (copy : List T) (place : ℕ) → copy ≡ arc_value page
      → place < length (arc_value page) → place < length copy
  place_in_copy page copy place same within =
      let seen = ap length same in
      omega arith

  -- the same taken out of a closed page, which stands at a place of these
  module _ (pages : List (Arc (List T) Global)) (page place : ℕ) (here : Arc (List T) Global)
      (there : slice_get pages page ≡ Some here) where
    page_is : slice_index_or (pages_of pages) page [] ≡ arc_value here
    page_is =
        get_or-map (arc_value {X = List T} {Z = Global}) pages page here [] (slice_get_within pages page here there)
        ∙ ap arc_value (get_or_from_slice_get pages page here here there)

    pub place_on_page : place < length (slice_index_or (pages_of pages) page []) → place < length (arc_value here)
    place_on_page inside =
        let same = ap length page_is in
        omega arith

    pub page_out : length (arc_value here) ≤ 1 → place < length (arc_value here)
        → pages_of (remove pages page) ≡ without_item (pages_of pages) page place
    page_out few within =
        let ps = pages_of pages in
        let none : remove (slice_index_or ps page []) place ≡ [] = ap (λ l. remove l place) page_is
        ∙ none_left (arc_value here) place few within in
        let next : page + 1 ≡ suc page = omega arith in
        map-remove (arc_value {X = List T} {Z = Global}) pages page
        ∙ sym (ap (λ l. (take page ps ++ unless_empty l) ++ drop (page + 1) ps) none
        ∙ ap (λ l. l ++ drop (page + 1) ps) (append-nil (take page ps)) ∙ ap (λ n. take page ps ++ drop n ps) next)

    pub page_shorter : (emptied after : List (Arc (List T) Global)) (other shorter : Arc (List T) Global)
        (items rest : List T)
        → emptied ≡ slice_set pages page other → after ≡ slice_set emptied page shorter → items ≡ arc_value here
        → rest ≡ remove items place → arc_value shorter ≡ rest → 1 < length (arc_value here)
        → place < length (arc_value here)
        → pages_of after ≡ without_item (pages_of pages) page place
    page_shorter emptied after other shorter items rest first second same out value many within =
        let ps = pages_of pages in
        let left = remove (arc_value here) place in
        let seen : arc_value shorter ≡ left = value ∙ out ∙ ap (λ l. remove l place) same in
        let some : 1 ≤ length left = some_left (arc_value here) left place refl many within in
        let next : page + 1 ≡ suc page = omega arith in
        let count = length-map pages (arc_value {X = List T} {Z = Global}) in
        let there_in = slice_get_within pages page here there in
        ap pages_of (second ∙ ap (λ l. slice_set l page shorter) first ∙ set-set pages page other shorter)
        ∙ map-set (arc_value {X = List T} {Z = Global}) pages page shorter
        ∙ ap (slice_set ps page) seen
        ∙ set_split ps page left (omega arith)
        ∙ sym (append_assoc (take page ps) (left ∷ []) (drop (suc page) ps))
        ∙ ap (λ l. (take page ps ++ l) ++ drop (suc page) ps) (sym (unless_empty-some left some))
        ∙ ap (λ l. (take page ps ++ unless_empty (remove l place)) ++ drop (suc page) ps) (sym page_is)
        ∙ ap (λ n. (take page ps ++ unless_empty (remove (slice_index_or ps page []) place)) ++ drop n ps) (sym next)

  pub joined-with_item : (most : ℕ) (pages : List (List T)) (item : T)
      → joined (with_item most pages item) ≡ joined pages ++ item ∷ []
  joined-with_item most [] item = refl
  joined-with_item most (page ∷ []) item = by (nat_lt (length page) most)
    where
      by : (room : Bool) → joined (cond room ((page ++ item ∷ []) ∷ []) (page ∷ (item ∷ []) ∷ [])) ≡ (page ++ [])
          ++ item ∷ []
      by true = append-nil (page ++ item ∷ []) ∙ ap (λ p. p ++ item ∷ []) (sym (append-nil page))
      by false = ap (λ p. p ++ item ∷ []) (sym (append-nil page))
  joined-with_item most (page ∷ next ∷ pages) item =
      ap (λ rest. page ++ rest) (joined-with_item most (next ∷ pages) item)
      ∙ sym (append_assoc page (joined (next ∷ pages)) (item ∷ []))

  -- Sizes.

  pub sized-append : (most : ℕ) (xs ys : List (List T)) → AreSized most xs → AreSized most ys → AreSized most (xs ++ ys)
  sized-append most [] ys s t = t
  sized-append most (x ∷ xs) ys s t = (s.0, s.1, sized-append most xs ys s.2 t)

  pub sized-take : (most : ℕ) (pages : List (List T)) (n : ℕ) → AreSized most pages → AreSized most (take n pages)
  sized-take most pages zero s = tt
  sized-take most [] (suc n) s = tt
  sized-take most (page ∷ pages) (suc n) s = (s.0, s.1, sized-take most pages n s.2)

  pub sized-drop : (most : ℕ) (pages : List (List T)) (n : ℕ) → AreSized most pages → AreSized most (drop n pages)
  sized-drop most pages zero s = s
  sized-drop most [] (suc n) s = tt
  sized-drop most (page ∷ pages) (suc n) s = sized-drop most pages n s.2

  pub sized-at : (most : ℕ) (pages : List (List T)) (n : ℕ) → AreSized most pages
      → length (slice_index_or pages n []) ≤ most
  sized-at most [] n s = omega arith
  sized-at most (page ∷ pages) zero s = s.1
  sized-at most (page ∷ pages) (suc n) s = sized-at most pages n s.2

  pub sized-some : (most : ℕ) (pages : List (List T)) → AreSized most pages → All (λ page. 1 ≤ length page) pages
  sized-some most [] s = All-nil (λ (page : List T). 1 ≤ length page)
  sized-some most (page ∷ pages) s = All-cons (λ (p : List T). 1 ≤ length p) page pages s.0 (sized-some most pages s.2)

  sized-unless_empty : (most : ℕ) (page : List T) → length page ≤ most → AreSized most (unless_empty page)
  sized-unless_empty most [] le = tt
  sized-unless_empty most (x ∷ xs) le = (omega arith, le, tt)

  -- also where a page is begun before the last one is full
  pub sized-with_item : (size most : ℕ) (pages : List (List T)) (item : T) → 1 ≤ most → most ≤ size
      → AreSized size pages → AreSized size (with_item most pages item)
  sized-with_item size most [] item some few s = (omega arith, omega arith, tt)
  sized-with_item size most (page ∷ []) item some few s = by (nat_lt (length page) most) refl
    where
      by : (room : Bool) → nat_lt (length page) most ≡ room
          → AreSized size (cond room ((page ++ item ∷ []) ∷ []) (page ∷ (item ∷ []) ∷ []))
      by true h = let longer = length-append page (item ∷ []) in let below = ltb-true (length page) most h in
          (omega arith, omega arith, tt)
      by false h = (s.0, s.1, (omega arith, omega arith, tt))
  sized-with_item size most (page ∷ next ∷ pages) item some few s =
      (s.0, s.1, sized-with_item size most (next ∷ pages) item some few s.2)

  length-remove_le : (page : List T) (place : ℕ) → length (remove page place) ≤ length page
  length-remove_le page place =
      let both = length-append (take place page) (drop (suc place) page) in
      let front = length-take place page in
      let back = length-drop (suc place) page in
      omega arith

  pub sized-without_item : (most : ℕ) (pages : List (List T)) (page place : ℕ) → AreSized most pages
      → AreSized most (without_item pages page place)
  sized-without_item most pages page place s =
      let short = length-remove_le (slice_index_or pages page []) place in
      let within = sized-at most pages page s in
      sized-append most (take page pages ++ unless_empty (remove (slice_index_or pages page []) place))
      (drop (page + 1) pages)
      (sized-append most (take page pages) (unless_empty (remove (slice_index_or pages page []) place))
      (sized-take most pages page s)
      (sized-unless_empty most (remove (slice_index_or pages page []) place) (omega arith)))
      (sized-drop most pages (page + 1) s)

  -- Full pages.

  filled-cons : (most : ℕ) (page : List T) (pages : List (List T)) → length page ≡ most → 1 ≤ most
      → AreFilled most pages → AreFilled most (page ∷ pages)
  filled-cons most page [] full some s = (omega arith, omega arith)
  filled-cons most page (next ∷ pages) full some s = (full, s)

  pub filled-with_item : (most : ℕ) (pages : List (List T)) (item : T) → 1 ≤ most → AreFilled most pages
      → AreFilled most (with_item most pages item)
  filled-with_item most [] item some s = (omega arith, some)
  filled-with_item most (page ∷ []) item some s = by (nat_lt (length page) most) refl
    where
      by : (room : Bool) → nat_lt (length page) most ≡ room
          → AreFilled most (cond room ((page ++ item ∷ []) ∷ []) (page ∷ (item ∷ []) ∷ []))
      by true h = let longer = length-append page (item ∷ []) in let below = ltb-true (length page) most h in
          (omega arith, omega arith)
      by false h = let above = ltb-false (length page) most h in (omega arith, (omega arith, some))
  filled-with_item most (page ∷ next ∷ pages) item some s =
      filled-cons most page (with_item most (next ∷ pages) item) s.0 some
      (filled-with_item most (next ∷ pages) item some s.1)

  -- One item out.

  pub split_at_page : (pages : List (List T)) (page : ℕ) → page < length pages
      → pages ≡ take page pages ++ slice_index_or pages page [] ∷ drop (page + 1) pages
  split_at_page pages page within = sym (take-append-drop page pages)
      ∙ ap (λ rest. take page pages ++ rest) (drop_more pages page [] within)

  pub joined-around : (pages : List (List T)) (page : ℕ) → page < length pages
      → joined pages ≡ joined (take page pages) ++ slice_index_or pages page [] ++ joined (drop (page + 1) pages)
  joined-around pages page within =
      ap joined (split_at_page pages page within)
      ∙ joined-append (take page pages) (slice_index_or pages page [] ∷ drop (page + 1) pages)
      ∙ sym (append_assoc (joined (take page pages)) (slice_index_or pages page []) (joined (drop (page + 1) pages)))

  pub joined-without_item : (pages : List (List T)) (page place : ℕ)
      → joined (without_item pages page place) ≡ joined (take page pages) ++ remove (slice_index_or pages page []) place
      ++ joined (drop (page + 1) pages)
  joined-without_item pages page place =
      let left = remove (slice_index_or pages page []) place in
      joined-append (take page pages ++ unless_empty left) (drop (page + 1) pages)
      ∙ ap (λ front. front ++ joined (drop (page + 1) pages)) (joined-append (take page pages) (unless_empty left)
      ∙ ap (λ p. joined (take page pages) ++ p) (joined-unless_empty left))
