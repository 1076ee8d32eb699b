-- Names with which there is no fault are those of compliance values.
use Rattle.std.proofs.Common.{◌≡◌, ◌≢◌, ℕ, ◌<◌, ◌≤◌, Bool, true, false, not, nat_lt, List, [], ◌∷◌, length, take}
use Rattle.std.proofs.Common.{get_or, Option, Some, None, refl, sym, ap, ◌∙◌, zero-add, arith, suc, if◌then◌else◌}
use Rattle.std.specs.List.{AllByRecursion, IsDistinct, AllPairs, position, position_or_len, range_with_len}
use Rattle.std.specs.Str.{bytes_eq}
use Rattle.std.proofs.lemmas.Bool.{ltb-false}
use Rattle.std.proofs.lemmas.List.{get_or-take, get_or_default, length-take-le}
use Rattle.std.proofs.lemmas.List.Folds.{list_any_at}
use Rattle.std.proofs.lemmas.List.FromFn.{length-range_with_len, get_or-range_with_len}
use Rattle.std.proofs.lemmas.List.Sums.{prefix_len_passes}
use Rattle.std.proofs.lemmas.Map.Made.{IsDistinct-from_AllPairs}
use Rattle.std.proofs.lemmas.Slice.Eq.{bytes_eq-Decides}
use Rattle.kn_base.specs.declared.limits.TheConstants.{FEWEST_COMPLIANCE_VALUES, MOST_COMPLIANCE_VALUES}
use Rattle.kn_env.specs.Values.{is_value_name, stood_before, bad_place, twice_place, twice_fault, name_fault}
use Rattle.kn_env.specs.Values.{AreValueNames}

-- an item doesn't pass where no place is found
nowhere : {X : Type 0} (p : X → Bool) (xs : List X) → position p xs ≡ None → (k : ℕ) (d : X) → k < length xs
    → p (get_or xs k d) ≡ false
nowhere p xs none k d within =
    let past : nat_lt (position_or_len p xs) (length xs) ≡ false =
    no_place (nat_lt (position_or_len p xs) (length xs)) (position_or_len p xs) none in
    let whole : length xs ≤ position_or_len p xs = ltb-false (position_or_len p xs) (length xs) past in
    not_true (p (get_or xs k d)) (prefix_len_passes (λ x. not (p x)) xs k d (omega arith))
  where
    no_place : (b : Bool) (n : ℕ) → (if b then Some n else None) ≡ None → b ≡ false
    no_place true n e = cc
    no_place false n e = refl

    not_true : (b : Bool) → not b ≡ true → b ≡ false
    not_true true e = cc
    not_true false e = refl

all_right : (names : List (List ℕ))
    → ((k : ℕ) (d : List ℕ) → k < length names → not (is_value_name (get_or names k d)) ≡ false)
    → AllByRecursion (λ name. is_value_name name ≡ true) names
all_right [] none = tt
all_right (name ∷ names) none = (
  not_false (is_value_name name) (none 0 [] (omega arith)),
  all_right names (λ k d within. none (suc k) d (omega arith)),
)
  where
    not_false : (b : Bool) → not b ≡ false → b ≡ true
    not_false true e = refl
    not_false false e = cc

differ : (b : Bool) → b ≡ true → b ≡ false → ⊥
differ true e f = cc
differ false e f = cc

-- where no name stood before, no two are equal
all_different : (names : List (List ℕ)) → twice_place names ≡ None → IsDistinct bytes_eq names
all_different names none = IsDistinct-from_AllPairs bytes_eq-Decides names apart
  where
    apart : AllPairs (λ x y. x ≢ y) names
    apart i j d before within same =
        let count : length (range_with_len 0 (length names)) ≡ length names = length-range_with_len 0 (length names) in
        let place : get_or (range_with_len 0 (length names)) j 0 ≡ j = get_or-range_with_len 0 (length names) j 0 within
        ∙ zero-add j in
        let new : stood_before names j ≡ false = sym (ap (stood_before names) place)
        ∙ nowhere (stood_before names) (range_with_len 0 (length names)) none j 0 (omega arith) in
        let front : length (take j names) ≡ j = length-take-le j names (omega arith) in
        let here : bytes_eq (get_or names j []) (get_or (take j names) i d) ≡ true =
        (bytes_eq-Decides (get_or names j []) (get_or (take j names) i d)).1 (get_or_default names j [] d within
        ∙ sym same ∙ sym (get_or-take j names i d before)) in
        let old : stood_before names j ≡ true =
        list_any_at (bytes_eq (get_or names j [])) (take j names) i d (omega arith) here in
        absurd (differ (stood_before names j) old new)

pub value_names : (names : List (List ℕ)) → FEWEST_COMPLIANCE_VALUES ≤ length names
    → length names ≤ MOST_COMPLIANCE_VALUES → name_fault (bad_place names) names ≡ None → AreValueNames names
value_names names least most none = record {
  at_least = least;
  at_most = most;
  form = all_right names (nowhere (λ name. not (is_value_name name)) names (no_bad (bad_place names) none).0);
  different = all_different names (no_bad (bad_place names) none).1;
}
  where
    no_twice : (twice : Option ℕ) → twice_fault twice ≡ None → twice ≡ None
    no_twice None e = refl
    no_twice (Some at) e = cc

    no_bad : (bad : Option ℕ) → name_fault bad names ≡ None → (bad ≡ None) × (twice_place names ≡ None)
    no_bad None e = (refl, no_twice (twice_place names) e)
    no_bad (Some at) e = cc
