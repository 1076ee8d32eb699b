-- The live credentials of valid histories, and what an update makes of them.
use Rattle.std.proofs.Common.{◌≡◌, ◌↔◌, nat_le, nat_lt, ℕ, ◌+◌, ◌<◌, ◌≤◌, Bool, true, false, cond, not, ◌==◌, List, []}
use Rattle.std.proofs.Common.{◌∷◌, ◌++◌}
use Rattle.std.proofs.Common.{length, take, drop, filter, Some, None, is_none, refl, sym, ap, ◌∙◌, subst, arith}
use Rattle.std.proofs.Common.{append_assoc, append-nil, take-append-drop}
use Rattle.std.specs.List.{AllByRecursion}
use Rattle.std.proofs.lemmas.Bool.{and_parts, leb-true, ltb-true, le-leb, lt-ltb}
use Rattle.std.proofs.lemmas.Bool.Decides.{Decides-eqb}
use Rattle.std.proofs.lemmas.Option.{same_Some}
use Rattle.std.proofs.lemmas.List.Sums.{sum_by_push}
use Rattle.kn_history.specs.declared.update.Change.{Change}
use Rattle.kn_history.specs.declared.update.Change.TheVariants.{Add, Remove}
use Rattle.kn_history.specs.declared.update.Numbered.{Numbered}
use Rattle.kn_history.specs.declared.update.Update.{Update}
use Rattle.kn_history.specs.History.{NumberedText, all_changes, added_count, additions, live, credentials_of}
use Rattle.kn_history.specs.History.{refusal_of, is_well_numbered, may_follow, all_may_follow, update_may_follow}
use Rattle.kn_history.specs.History.{updates_may_follow, is_valid_history}
use Rattle.kn_history.specs.Ids.{IdsAscend}
use Rattle.kn_history.specs.Retained.{is_retained, retained_version}
use Rattle.kn_history.specs.Changed.{after_change, after_changes}
use Rattle.kn_history.proofs.Histories.{live-addition, live-removal, valid-before, changes-push}
use Rattle.kn_history.proofs.Ids.{ascend-weaker}

-- What changes make of the credentials.

live-change : (past : List Numbered) (change : Change) (id : ℕ)
    → live (past ++ record { change = change; id = id } ∷ []) ≡ after_change (live past) change id
live-change past (Add text) id = live-addition past text id
live-change past Remove id = live-removal past id

pub live-changes : (past changes : List Numbered) → live (past ++ changes) ≡ after_changes (live past) changes
live-changes past [] = ap live (append-nil past)
live-changes past (c ∷ changes) =
    ap live (sym (append_assoc past (c ∷ []) changes))
    ∙ live-changes (past ++ c ∷ []) changes
    ∙ ap (λ l. after_changes l changes) (live-change past c.change c.id)

pub credentials-by_update : (history : List Update) (u : Update)
    → credentials_of (history ++ u ∷ []) ≡ after_changes (credentials_of history) u.changes
credentials-by_update history u = ap live (changes-push history u) ∙ live-changes (all_changes history) u.changes

-- Their ids ascend.

abbrev AreUpTo : ℕ → List NumberedText → Type 0
AreUpTo n credentials = AllByRecursion (λ (c : NumberedText). c.id ≤ n) credentials

up_to-more : (n m : ℕ) (xs : List NumberedText) → n ≤ m → AreUpTo n xs → AreUpTo m xs
up_to-more n m [] le h = tt
up_to-more n m (x ∷ xs) le h = (let first = h.0 in omega (arith, le, first), up_to-more n m xs le h.1)

up_to-push : (n m : ℕ) (xs : List NumberedText) (y : NumberedText) → n ≤ m → AreUpTo n xs → y.id ≤ m
    → AreUpTo m (xs ++ y ∷ [])
up_to-push n m [] y le h last = (last, tt)
up_to-push n m (x ∷ xs) y le h last = (let first = h.0 in omega (arith, le, first), up_to-push n m xs y le h.1 last)

up_to-filter : (p : NumberedText → Bool) (n : ℕ) (xs : List NumberedText) → AreUpTo n xs → AreUpTo n (filter p xs)
up_to-filter p n [] h = tt
up_to-filter p n (x ∷ xs) h = by (p x) (up_to-filter p n xs h.1)
  where
    by : (t : Bool) → AreUpTo n (filter p xs) → AreUpTo n (cond t (x ∷ filter p xs) (filter p xs))
    by true rest = (h.0, rest)
    by false rest = rest

ascend-push : (low n : ℕ) (xs : List NumberedText) (y : NumberedText) → IdsAscend low xs → AreUpTo n xs → n < y.id
    → low < y.id → IdsAscend low (xs ++ y ∷ [])
ascend-push low n [] y h up above first = (first, tt)
ascend-push low n (x ∷ xs) y h up above first =
    (h.0, ascend-push x.id n xs y h.1 up.1 above (let here = up.0 in omega (arith, here, above)))

ascend-filter : (p : NumberedText → Bool) (low : ℕ) (xs : List NumberedText) → IdsAscend low xs
    → IdsAscend low (filter p xs)
ascend-filter p low [] h = tt
ascend-filter p low (x ∷ xs) h = by (p x) (ascend-filter p x.id xs h.1)
  where
    by : (t : Bool) → IdsAscend x.id (filter p xs) → IdsAscend low (cond t (x ∷ filter p xs) (filter p xs))
    by true rest = (h.0, rest)
    by false rest = let first = h.0 in ascend-weaker low x.id (filter p xs) (omega (arith, first)) rest

-- the credentials are in order, and no id is above the number of additions
record AreOrdered (past : List Numbered) : Type 0 where
  ids : IdsAscend 0 (live past)
  newest : AreUpTo (additions past) (live past)

ordered-change : (past : List Numbered) (change : Change) (id : ℕ) → AreOrdered past
    → is_well_numbered past change id ≡ true → AreOrdered (past ++ record { change = change; id = id } ∷ [])
ordered-change past (Add text) id o well =
    let number : (id == additions past + 1) ≡ true = (and_parts _ _ well).0 in
    let same : id ≡ additions past + 1 = (Decides-eqb id (additions past + 1)).0 number in
    let added : additions (past ++ record { change = Add text; id = id } ∷ []) ≡ additions past + 1 =
    sum_by_push (λ (c : Numbered). added_count c.change) past (record { change = Add text; id = id }) in
    let one : NumberedText = record { id = id; text = text } in
    record {
      ids = subst (IdsAscend 0) (sym (live-addition past text id))
          (ascend-push 0 (additions past) (live past) one o.ids o.newest (omega (arith, same)) (omega (arith, same)));
      newest = subst (AreUpTo (additions (past ++ record { change = Add text; id = id } ∷ [])))
          (sym (live-addition past text id))
          (up_to-push (additions past) (additions (past ++ record { change = Add text; id = id } ∷ [])) (live past) one
          (omega (arith, added)) o.newest (omega (arith, added, same)));
    }
ordered-change past Remove id o well =
    let added : additions (past ++ record { change = Remove; id = id } ∷ []) ≡ additions past + 0 =
    sum_by_push (λ (c : Numbered). added_count c.change) past (record { change = Remove; id = id }) in
    record {
      ids = subst (IdsAscend 0) (sym (live-removal past id))
          (ascend-filter (λ c. not (c.id == id)) 0 (live past) o.ids);
      newest = subst (AreUpTo (additions (past ++ record { change = Remove; id = id } ∷ [])))
          (sym (live-removal past id))
          (up_to-more (additions past) (additions (past ++ record { change = Remove; id = id } ∷ []))
          (filter (λ c. not (c.id == id)) (live past)) (omega (arith, added))
          (up_to-filter (λ c. not (c.id == id)) (additions past) (live past) o.newest));
    }

ordered-changes : (past changes : List Numbered) → AreOrdered past → all_may_follow past changes ≡ true
    → AreOrdered (past ++ changes)
ordered-changes past [] o follow = subst AreOrdered (sym (append-nil past)) o
ordered-changes past (c ∷ changes) o follow =
    let parts = and_parts (may_follow past c) (all_may_follow (past ++ c ∷ []) changes) follow in
    let well = (and_parts (is_none (refusal_of past c.change c.id)) (is_well_numbered past c.change c.id) parts.0).1 in
    subst AreOrdered (append_assoc past (c ∷ []) changes)
    (ordered-changes (past ++ c ∷ []) changes (ordered-change past c.change c.id o well) parts.1)

ordered-updates : (past : List Numbered) (history : List Update) → AreOrdered past
    → updates_may_follow past history ≡ true → AreOrdered (past ++ all_changes history)
ordered-updates past [] o follow = subst AreOrdered (sym (append-nil past)) o
ordered-updates past (u ∷ history) o follow =
    let parts = and_parts (update_may_follow past u) (updates_may_follow (past ++ u.changes) history) follow in
    let changes = (and_parts _ (all_may_follow past u.changes) parts.0).1 in
    subst AreOrdered (append_assoc past u.changes (all_changes history))
    (ordered-updates (past ++ u.changes) history (ordered-changes past u.changes o changes) parts.1)

pub valid-ids_ascend : (history : List Update) → is_valid_history history ≡ true → IdsAscend 0 (credentials_of history)
valid-ids_ascend history valid = (ordered-updates [] history (record { ids = tt; newest = tt }) valid).ids

-- A retained version.

pub retained-is_valid : (history kept : List Update) (number : ℕ) → is_valid_history history ≡ true
    → retained_version history number ≡ Some kept → is_valid_history kept ≡ true
retained-is_valid history kept number valid e = by (is_retained (length history) number) e
  where
    by : (t : Bool) → cond t (Some (take number history)) None ≡ Some kept → is_valid_history kept ≡ true
    by true e =
        subst (λ l. is_valid_history l ≡ true) (same_Some (take number history) kept e)
        (valid-before (take number history) (drop number history)
        (subst (λ l. is_valid_history l ≡ true) (sym (take-append-drop number history)) valid))
    by false e = cc

pub retained-are_newest : (history kept : List Update) (number : ℕ)
    → (retained_version history number ≡ Some kept) ↔ ((number ≤ length history) × (length history ≤ number + 15)
    × (kept ≡ take number history))
retained-are_newest history kept number = (there, back)
  where
    there : retained_version history number ≡ Some kept → (number ≤ length history) × (length history ≤ number + 15)
        × (kept ≡ take number history)
    there e = by (is_retained (length history) number) refl e
      where
        by : (t : Bool) → is_retained (length history) number ≡ t → cond t (Some (take number history)) None ≡ Some kept
            → (number ≤ length history) × (length history ≤ number + 15) × (kept ≡ take number history)
        by true is e =
            let parts = and_parts (nat_le number (length history)) (nat_lt (length history) (number + 16)) is in
            let low : number ≤ length history = leb-true number (length history) parts.0 in
            let high : length history < number + 16 = ltb-true (length history) (number + 16) parts.1 in
            (low, omega arith, sym (same_Some (take number history) kept e))
        by false is e = cc

    back : (number ≤ length history) × (length history ≤ number + 15) × (kept ≡ take number history)
        → retained_version history number ≡ Some kept
    back (low, high, same) =
        rw (le-leb number (length history) low, lt-ltb (length history) (number + 16) (omega arith))
        (ap Some (sym same))
