-- The versions of a book that are retained, behind one more update.
use Rattle.std.proofs.Common.{◌≡◌, ℕ, suc, ◌+◌, ◌-◌, ◌<◌, ◌≤◌, Bool, true, false, cond, List, [], ◌∷◌, ◌++◌, length}
use Rattle.std.proofs.Common.{take, refl, sym, ap, ◌∙◌, subst, arith, length-append, inl, inr, ⊎_elim, Some}
use Rattle.std.specs.Prelude.{nat_lt, remove, slice_get}
use Rattle.std.proofs.lemmas.Bool.{ltb-true, ltb-false}
use Rattle.std.proofs.lemmas.List.{take_all, take-append-le}
use Rattle.kn_history.specs.declared.update.Update.{Update}
use Rattle.kn_store.specs.EarlierVersions.{AreLeft, AreEarlier, with_version}
use Rattle.kn_pages.proofs.PageLemmas.{slice_get-left, slice_get-right}

-- each version has its number
abbrev Each : ℕ → List Update → List (List Update) → Type 0
Each first history versions = (i : ℕ) → i < length versions → slice_get versions i ≡ Some (take (first + i) history)

take_front : (history : List Update) (update : Update) (n : ℕ) → n ≤ length history
    → take n history ≡ take n (history ++ update ∷ [])
take_front history update n few = sym (take-append-le n history (update ∷ []) few)

each-push : (first : ℕ) (history : List Update) (versions : List (List Update)) (update : Update)
    → first + length versions ≡ length history
    → Each first history versions → Each first (history ++ update ∷ []) (versions ++ history ∷ [])
each-push first history versions update count each i within = by (nat_lt i (length versions)) refl
  where
    longer : length (versions ++ history ∷ []) ≡ length versions + 1
    longer = length-append versions (history ∷ [])

    by : (t : Bool) → nat_lt i (length versions) ≡ t
        → slice_get (versions ++ history ∷ []) i ≡ Some (take (first + i) (history ++ update ∷ []))
    by true is =
        let here = ltb-true i (length versions) is in
        slice_get-left versions (history ∷ []) i here ∙ each i here
        ∙ ap Some (take_front history update (first + i) (omega (arith, here, count)))
    by false is =
        let past = ltb-false i (length versions) is in
        let last : i ≡ length versions = omega (arith, past, within, longer) in
        let none : i - length versions ≡ 0 = omega (arith, last) in
        let whole : first + i ≡ length history = omega (arith, last, count) in
        slice_get-right versions (history ∷ []) i past
        ∙ ap (slice_get (history ∷ [])) none
        ∙ ap Some (sym (take_all (first + i) history (omega (arith, whole)))
        ∙ take_front history update (first + i) (omega (arith, whole)))

each-rest : (first : ℕ) (history : List Update) (version : List Update) (versions : List (List Update))
    → Each first history (version ∷ versions) → Each (first + 1) history versions
each-rest first history version versions each i within =
    let next : first + suc i ≡ first + 1 + i = omega arith in
    each (suc i) (omega (arith, within)) ∙ ap (λ (n : ℕ). Some (take n history)) next

-- One more update.

entered : (more : ℕ) (history : List Update) (versions : List (List Update)) (update : Update) → more + 1 < 16
    → AreLeft (more + 1) history versions
    → (t : Bool) → nat_lt (length versions + 1) 16 ≡ t
    → AreLeft more (history ++ update ∷ []) (cond t (versions ++ history ∷ []) (remove versions 0 ++ history ∷ []))
entered more history versions update last kept true room =
    let short = ltb-true (length versions + 1) 16 room in
    let count = kept.count in
    let longer = length-append versions (history ∷ []) in
    let longer_history = length-append history (update ∷ []) in
    record {
      first = kept.first;
      count = omega (arith, count, longer, longer_history);
      each = each-push kept.first history versions update kept.count kept.each;
      few = omega (arith, longer, short);
      all = ⊎_elim (λ start. inl start) (λ full. inr (omega (arith, full, longer))) kept.all;
      none = λ many. absurd (omega (arith, many, last));
    }
entered more history [] update last kept false room = absurd (let long = ltb-false 1 16 room in omega (arith, long))
entered more history (version ∷ versions) update last kept false room =
    let long = ltb-false (length (version ∷ versions) + 1) 16 room in
    let few = kept.few in
    let count = kept.count in
    let longer = length-append versions (history ∷ []) in
    let longer_history = length-append history (update ∷ []) in
    record {
      first = kept.first + 1;
      count = omega (arith, count, longer, longer_history);
      each = each-push (kept.first + 1) history versions update (omega (arith, count))
          (each-rest kept.first history version versions kept.each);
      few = omega (arith, longer, few);
      all = inr (omega (arith, longer, long));
      none = λ many. absurd (omega (arith, many, last));
    }

pub one_more_left : (more : ℕ) (history : List Update) (versions : List (List Update)) (update : Update) → more + 1 < 16
    → AreLeft (more + 1) history versions
    → AreLeft more (history ++ update ∷ []) (with_version versions history)
one_more_left more history versions update last kept =
    entered more history versions update last kept (nat_lt (length versions + 1) 16) refl

-- where so many updates follow that none of the versions so far is left
pub none_left : (more : ℕ) (history : List Update) → 16 ≤ more → AreLeft more history []
none_left more history many = record {
  first = length history;
  count = omega arith;
  each = λ i within. absurd (omega (arith, within));
  few = omega arith;
  all = inr (omega (arith, many));
  none = λ _. refl;
}

pub still_none_left : (more : ℕ) (history : List Update) (versions : List (List Update)) (update : Update)
    → 16 ≤ more + 1 → AreLeft (more + 1) history versions
    → AreLeft more (history ++ update ∷ []) versions
still_none_left more history versions update many kept =
    let longer_history = length-append history (update ∷ []) in
    subst (AreLeft more (history ++ update ∷ [])) (sym (kept.none many)) record {
      first = length history + 1;
      count = omega (arith, longer_history);
      each = λ i within. absurd (omega (arith, within));
      few = omega arith;
      all = inr (omega (arith, many));
      none = λ _. refl;
    }

-- where fewer updates follow than versions are retained
pub left_before_few : (more : ℕ) (history : List Update) (versions : List (List Update)) → more < 16
    → AreEarlier history versions → AreLeft more history versions
left_before_few more history versions few kept = record {
  first = kept.first;
  count = kept.count;
  each = kept.each;
  few = kept.few;
  all = ⊎_elim (λ start. inl start) (λ full. inr (omega (arith, full))) kept.all;
  none = λ many. absurd (omega (arith, many, few));
}

pub one_more_retained : (history : List Update) (versions : List (List Update)) (update : Update)
    → AreEarlier history versions
    → AreEarlier (history ++ update ∷ []) (with_version versions history)
one_more_retained history versions update kept =
    one_more_left 0 history versions update (omega arith) (left_before_few 1 history versions (omega arith) kept)

-- One more of so many updates, of which the version before it is kept or is not.

pub next_kept : (left : ℕ) (history longer : List Update) (versions after : List (List Update)) (update : Update)
    → 1 ≤ left → left < 16
    → longer ≡ history ++ update ∷ [] → after ≡ with_version versions history → AreLeft left history versions
    → AreLeft (left - 1) longer after
next_kept left history longer versions after update some few is entered_is kept =
    let same : left ≡ left - 1 + 1 = omega (arith, some) in
    subst (λ (h : List Update). AreLeft (left - 1) h after) (sym is)
    (subst (AreLeft (left - 1) (history ++ update ∷ [])) (sym entered_is)
    (one_more_left (left - 1) history versions update (omega (arith, some, few))
    (subst (λ (n : ℕ). AreLeft n history versions) same kept)))

pub next_not_kept : (left : ℕ) (history longer : List Update) (versions after : List (List Update)) (update : Update)
    → 16 ≤ left
    → longer ≡ history ++ update ∷ [] → after ≡ versions → AreLeft left history versions
    → AreLeft (left - 1) longer after
next_not_kept left history longer versions after update many is same_versions kept =
    let same : left ≡ left - 1 + 1 = omega (arith, many) in
    subst (λ (h : List Update). AreLeft (left - 1) h after) (sym is)
    (subst (AreLeft (left - 1) (history ++ update ∷ [])) (sym same_versions)
    (still_none_left (left - 1) history versions update (omega (arith, many))
    (subst (λ (n : ℕ). AreLeft n history versions) same kept)))
