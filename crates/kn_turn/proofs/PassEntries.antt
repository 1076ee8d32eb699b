-- The entries that name a pass, in a list that grows.
use Rattle.std.proofs.Common.{◌≡◌, ◌≢◌, ℕ, ◌+◌, ◌<◌, ◌≤◌, ◌==◌, cond, Bool, List, [], ◌∷◌, ◌++◌, length, refl, ap, sym}
use Rattle.std.proofs.Common.{◌∙◌, subst, arith, append-nil, length-append, eq-eqb, ne_eqb, All}
use Rattle.std.proofs.lemmas.List.Elements.{filter-append, All-head, All-tail}
use mathlib.Core.List.{IsPrefix}
use Rattle.kn_turn.specs.declared.view.EndedPass.{EndedPass}
use Rattle.kn_turn.specs.Counts.{one_if}
use Rattle.kn_turn.specs.Entries.{entries_of, AllNameUpTo}
use Rattle.kn_turn.specs.Views.{ended_count, HasEnded}
use Rattle.kn_turn.proofs.Sums.{other-one_if}

module _ {E : Type 0} (by : E → ℕ) where
  pub entries_of-append : (n : ℕ) (xs ys : List E)
      → entries_of by n (xs ++ ys) ≡ entries_of by n xs ++ entries_of by n ys
  entries_of-append n xs ys = filter-append (λ (e : E). by e == n) xs ys

  names_head : (n : ℕ) (e : E) (es : List E) → All (λ x. by x ≡ n) (e ∷ es) → by e ≡ n
  names_head n e es own = All-head (λ x. by x ≡ n) e es own

  names_tail : (n : ℕ) (e : E) (es : List E) → All (λ x. by x ≡ n) (e ∷ es) → All (λ x. by x ≡ n) es
  names_tail n e es own = All-tail (λ x. by x ≡ n) e es own

  pub entries_of-own : (n : ℕ) (es : List E) → All (λ e. by e ≡ n) es → entries_of by n es ≡ es
  entries_of-own n [] own = refl
  entries_of-own n (e ∷ es) own =
      ap (λ (b : Bool). cond b (e ∷ entries_of by n es) (entries_of by n es)) (eq-eqb (by e) n (names_head n e es own))
      ∙ ap (λ w. e ∷ w) (entries_of-own n es (names_tail n e es own))

  -- entries of one pass are none of another's
  pub entries_of-other : (n m : ℕ) (es : List E) → All (λ e. by e ≡ n) es → n ≢ m → entries_of by m es ≡ []
  entries_of-other n m [] own not = refl
  entries_of-other n m (e ∷ es) own not =
      ap (λ (b : Bool). cond b (e ∷ entries_of by m es) (entries_of by m es))
      (ne_eqb (by e) m (λ is. not (sym (names_head n e es own) ∙ is)))
      ∙ entries_of-other n m es (names_tail n e es own) not

  pub entries_of-still : (n m : ℕ) (l es : List E) → All (λ e. by e ≡ n) es → n ≢ m
      → entries_of by m (l ++ es) ≡ entries_of by m l
  entries_of-still n m l es own not = entries_of-append m l es
      ∙ (ap (λ w. entries_of by m l ++ w) (entries_of-other n m es own not) ∙ append-nil (entries_of by m l))

  -- a number above all that are named has no entry
  pub entries_of-above : (n m : ℕ) (l : List E) → AllNameUpTo by n l → n < m → entries_of by m l ≡ []
  entries_of-above n m [] all above = refl
  entries_of-above n m (e ∷ es) all above =
      let low = all.0 in
      ap (λ (b : Bool). cond b (e ∷ entries_of by m es) (entries_of by m es))
      (ne_eqb (by e) m (λ is. absurd (omega arith))) ∙ entries_of-above n m es all.1 above

  nothing_left : (xs ys zs : List E) → (xs ++ ys) ++ zs ≡ xs → xs ++ ys ≡ xs
  nothing_left xs [] zs e = append-nil xs
  nothing_left xs (y ∷ ys) zs e = let n = ap length e in
      absurd (omega (arith, length-append (xs ++ y ∷ ys) zs, length-append xs (y ∷ ys)))

  -- what a beginning and the whole have of a pass, the lists between them have too
  pub entries_of-between : (n : ℕ) (a b h m : List E) → IsPrefix a b → IsPrefix b h → entries_of by n a ≡ m
      → entries_of by n h ≡ m → entries_of by n b ≡ m
  entries_of-between n a b h m p q first whole =
      let r : List E = entries_of by n p.0 in
      let z : List E = entries_of by n q.0 in
      let b_is : entries_of by n b ≡ m ++ r = ap (entries_of by n) (sym p.1)
      ∙ (entries_of-append n a p.0 ∙ ap (λ w. w ++ r) first) in
      let h_is : entries_of by n h ≡ (m ++ r) ++ z = ap (entries_of by n) (sym q.1)
      ∙ (entries_of-append n b q.0 ∙ ap (λ w. w ++ z) b_is) in
      b_is ∙ nothing_left m r z (sym h_is ∙ whole)

  pub has_ended-between : (a b h : List E) (es : List (EndedPass E)) → IsPrefix a b → IsPrefix b h → HasEnded by a es
      → HasEnded by h es → HasEnded by b es
  has_ended-between a b h [] p q first whole = tt
  has_ended-between a b h (x ∷ xs) p q first whole =
      (entries_of-between x.number a b h x.mine p q first.0 whole.0, has_ended-between a b h xs p q first.1 whole.1)

  pub has_ended-append : (l : List E) (xs ys : List (EndedPass E)) → HasEnded by l xs → HasEnded by l ys
      → HasEnded by l (xs ++ ys)
  has_ended-append l [] ys p q = q
  has_ended-append l (x ∷ xs) ys p q = (p.0, has_ended-append l xs ys p.1 q)

  -- entries of a pass that hasn't ended change nothing
  pub has_ended-more : (n : ℕ) (l es : List E) (xs : List (EndedPass E)) → All (λ e. by e ≡ n) es → ended_count n xs ≡ 0
      → HasEnded by l xs → HasEnded by (l ++ es) xs
  has_ended-more n l es [] own none has = tt
  has_ended-more n l es (x ∷ xs) own none has =
      let first : one_if (x.number == n) ≡ 0 = omega arith in
      let more : ended_count n xs ≡ 0 = omega arith in (
        entries_of-still n x.number l es own (λ same. other-one_if x.number n first (sym same))
            ∙ has.0,
        has_ended-more n l es xs own more has.1,
      )

  pub all_up_to-prefix : (n : ℕ) (a h : List E) → IsPrefix a h → AllNameUpTo by n h → AllNameUpTo by n a
  all_up_to-prefix n [] h p all = tt
  all_up_to-prefix n (x ∷ xs) [] p all = absurd (cc (p.1))
  all_up_to-prefix n (x ∷ xs) (y ∷ ys) p all =
      let same : x ≡ y = cc (p.1) in
      (subst (λ (z : E). by z ≤ n) (sym same) all.0, all_up_to-prefix n xs ys (p.0, cc (p.1)) all.1)

  all_up_to-own : (n m : ℕ) (es : List E) → All (λ e. by e ≡ m) es → m ≤ n → AllNameUpTo by n es
  all_up_to-own n m [] own low = tt
  all_up_to-own n m (e ∷ es) own low =
      (subst (λ (k : ℕ). k ≤ n) (sym (names_head m e es own)) low, all_up_to-own n m es (names_tail m e es own) low)

  pub all_up_to-more : (n m : ℕ) (l es : List E) → AllNameUpTo by n l → All (λ e. by e ≡ m) es → m ≤ n
      → AllNameUpTo by n (l ++ es)
  all_up_to-more n m [] es all own low = all_up_to-own n m es own low
  all_up_to-more n m (x ∷ xs) es all own low = (all.0, all_up_to-more n m xs es all.1 own low)

  pub all_up_to-later : (n : ℕ) (l : List E) → AllNameUpTo by n l → AllNameUpTo by (n + 1) l
  all_up_to-later n [] all = tt
  all_up_to-later n (x ∷ xs) all = let low = all.0 in (omega arith, all_up_to-later n xs all.1)
