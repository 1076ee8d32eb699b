-- The first item that passes a test, where no other one passes it.
use Rattle.std.proofs.Common.{◌≡◌, ℕ, zero, suc, ◌<◌, Bool, true, false, not, cond, ◌||◌, List, [], ◌∷◌, length, map}
use Rattle.std.proofs.Common.{filter, find, position, get_or, set, Some, None, refl, sym, ap, ◌∙◌, arith, nat_eq}
use Rattle.std.proofs.Common.{nat_lt, eqb-true}
use Rattle.std.specs.List.{AllByRecursion, IsDistinct, list_any, remove, position_or_len}
use Rattle.std.proofs.lemmas.List.Quantifiers.{position-Some}
use Rattle.std.proofs.lemmas.Bool.{cond-true, cond-false}
use Rattle.std.proofs.lemmas.Bool.Decides.{nat_tests}
use Rattle.std.proofs.lemmas.Grind.{common_steps}
use Rattle.kn_session.specs.OnePlace.{IsOneAt}

-- at most one item passes the test
unfoldable pub AtMostOne : {X : Type 0} → (X → Bool) → List X → Type 0
AtMostOne p [] = Unit {0}
AtMostOne p (x ∷ xs) = (p x ≡ true → list_any p xs ≡ false) × AtMostOne p xs

-- the item at this place is the first that passes
IsFirst : {X : Type 0} → (X → Bool) → List X → ℕ → Type 0
IsFirst p [] i = ⊥
IsFirst p (x ∷ xs) zero = p x ≡ true
IsFirst p (x ∷ xs) (suc i) = (p x ≡ false) × IsFirst p xs i

-- where neither holds
pub or_left : (b d : Bool) → (b || d) ≡ false → b ≡ false
or_left true d h = h
or_left false d h = refl

pub or_right : (b d : Bool) → (b || d) ≡ false → d ≡ false
or_right true d h = cc
or_right false d h = h

-- a change of what passes, and what doesn't pass, where nothing does
map-none : {X : Type 0} (p : X → Bool) (f : X → X) (xs : List X) → list_any p xs ≡ false
    → map (λ x. cond (p x) (f x) x) xs ≡ xs
map-none p f [] none = refl
map-none p f (x ∷ xs) none =
    let no : p x ≡ false = or_left (p x) (list_any p xs) none in
    let rest : map (λ y. cond (p y) (f y) y) xs ≡ xs = map-none p f xs (or_right (p x) (list_any p xs) none) in
    rw (no, rest) refl

filter-none : {X : Type 0} (p : X → Bool) (xs : List X) → list_any p xs ≡ false → filter (λ x. not (p x)) xs ≡ xs
filter-none p [] none = refl
filter-none p (x ∷ xs) none =
    let no : p x ≡ false = or_left (p x) (list_any p xs) none in
    let rest : filter (λ y. not (p y)) xs ≡ xs = filter-none p xs (or_right (p x) (list_any p xs) none) in
    rw (no, rest) refl

pub none_found : {X : Type 0} (p : X → Bool) (xs : List X) → list_any p xs ≡ false → find p xs ≡ None
none_found p [] none = refl
none_found p (x ∷ xs) none =
    let no : p x ≡ false = or_left (p x) (list_any p xs) none in
    rw no (none_found p xs (or_right (p x) (list_any p xs) none))

first_of : {X : Type 0} (p : X → Bool) (xs : List X) (i : ℕ) → i < length xs → ((d : X) → p (get_or xs i d) ≡ true)
    → ((d : X) (k : ℕ) → k < i → p (get_or xs k d) ≡ false) → IsFirst p xs i
unfolding IsFirst
first_of p [] i within passes before = absurd (omega (arith, within))
first_of p (x ∷ xs) zero within passes before = passes x
first_of p (x ∷ xs) (suc i) within passes before = (
  before x 0 (omega arith),
  first_of p xs i (omega (arith, within)) passes (λ d k h. before d (suc k) (omega (arith, h))),
)

within : {X : Type 0} (p : X → Bool) (xs : List X) (i : ℕ) → IsFirst p xs i → i < length xs
unfolding IsFirst
within p [] i first = absurd first
within p (x ∷ xs) zero first = omega arith
within p (x ∷ xs) (suc i) first = let rest : i < length xs = within p xs i first.1 in omega arith

passes : {X : Type 0} (p : X → Bool) (xs : List X) (i : ℕ) → IsFirst p xs i → (d : X) → p (get_or xs i d) ≡ true
unfolding IsFirst
passes p [] i first d = absurd first
passes p (x ∷ xs) zero first d = first
passes p (x ∷ xs) (suc i) first d = passes p xs i first.1 d

found : {X : Type 0} (p : X → Bool) (xs : List X) (i : ℕ) → IsFirst p xs i → (d : X) → find p xs ≡ Some (get_or xs i d)
unfolding IsFirst
found p [] i first d = absurd first
found p (x ∷ xs) zero first d = ap (λ b. cond b (Some x) (find p xs)) first
found p (x ∷ xs) (suc i) first d = ap (λ b. cond b (Some x) (find p xs)) first.0 ∙ found p xs i first.1 d

same : {X : Type 0} (xs : List X) (i : ℕ) → i < length xs → (d : X) → set xs i (get_or xs i d) ≡ xs
same [] i within d = refl
same (x ∷ xs) zero within d = refl
same (x ∷ xs) (suc i) within d = ap (λ ys. x ∷ ys) (same xs i (omega (arith, within)) d)

changed : {X : Type 0} (p : X → Bool) (xs : List X) (i : ℕ) → IsFirst p xs i → AtMostOne p xs → (f : X → X) (d : X)
    → set xs i (f (get_or xs i d)) ≡ map (λ x. cond (p x) (f x) x) xs
unfolding IsFirst AtMostOne
changed p [] i first one f d = absurd first
changed p (x ∷ xs) zero first one f d =
    let rest : map (λ y. cond (p y) (f y) y) xs ≡ xs = map-none p f xs (one.0 first) in
    rw (first, rest) refl
changed p (x ∷ xs) (suc i) first one f d =
    let no : p x ≡ false = first.0 in
    rw no (ap (λ ys. x ∷ ys) (changed p xs i first.1 one.1 f d))

others : {X : Type 0} (p : X → Bool) (xs : List X) (i : ℕ) → IsFirst p xs i → AtMostOne p xs
    → remove xs i ≡ filter (λ x. not (p x)) xs
unfolding IsFirst AtMostOne
others p [] i first one = absurd first
others p (x ∷ xs) zero first one =
    let rest : filter (λ y. not (p y)) xs ≡ xs = filter-none p xs (one.0 first) in
    rw (first, rest) refl
others p (x ∷ xs) (suc i) first one =
    let no : p x ≡ false = first.0 in
    rw no (ap (λ ys. x ∷ ys) (others p xs i first.1 one.1))

one_first : {X : Type 0} (p : X → Bool) (xs : List X) (i : ℕ) → AtMostOne p xs → IsFirst p xs i → IsOneAt p xs i
one_first p xs i one first = record {
  within = within p xs i first;
  passes = passes p xs i first;
  found = found p xs i first;
  same = same xs i (within p xs i first);
  changed = changed p xs i first one;
  others = others p xs i first one;
}

place_within : {X : Type 0} (p : X → Bool) (xs : List X) (i : ℕ) → position p xs ≡ Some i → i < length xs
place_within p [] i there = cc
place_within p (x ∷ xs) i there = (position-Some p (x ∷ xs) i x there).0

-- the place that a search finds
pub one_at : {X : Type 0} (p : X → Bool) (xs : List X) (i : ℕ) → AtMostOne p xs → position p xs ≡ Some i
    → IsOneAt p xs i
one_at p xs i one there =
    one_first p xs i one
    (first_of p xs i (place_within p xs i there) (λ d. (position-Some p xs i d there).1)
    (λ d. (position-Some p xs i d there).2))

-- a place is found exactly where an item passes
place_found : {X : Type 0} (p : X → Bool) (xs : List X) → nat_lt (position_or_len p xs) (length xs) ≡ list_any p xs
place_found p [] = refl
place_found p (x ∷ xs) = grind (arith, common_steps, place_found p xs)

-- where no place is found, no item passes
pub none_passes : {X : Type 0} (p : X → Bool) (xs : List X) → position p xs ≡ None → list_any p xs ≡ false
none_passes p xs none = by (nat_lt (position_or_len p xs) (length xs)) refl
  where
    by : (b : Bool) → nat_lt (position_or_len p xs) (length xs) ≡ b → list_any p xs ≡ false
    by true e = let some : position p xs ≡ Some (position_or_len p xs) =
        cond-true (nat_lt (position_or_len p xs) (length xs)) _ _ e in cc
    by false e = sym (place_found p xs) ∙ e

-- where a place is found, an item passes
pub some_passes : {X : Type 0} (p : X → Bool) (xs : List X) (i : ℕ) → position p xs ≡ Some i → list_any p xs ≡ true
some_passes p xs i there = by (nat_lt (position_or_len p xs) (length xs)) refl
  where
    by : (b : Bool) → nat_lt (position_or_len p xs) (length xs) ≡ b → list_any p xs ≡ true
    by true e = sym (place_found p xs) ∙ e
    by false e = let none : position p xs ≡ None = cond-false (nat_lt (position_or_len p xs) (length xs)) _ _ e in cc

number_absent : {X : Type 0} (key : X → ℕ) (k j : ℕ) (xs : List X) → j ≡ k
    → AllByRecursion (λ y. nat_eq j y ≡ false) (map key xs) → list_any (λ x. nat_eq (key x) k) xs ≡ false
number_absent key k j [] e all = refl
number_absent key k j (x ∷ xs) e all =
    let first : nat_eq j (key x) ≡ false = all.0 in
    let no : nat_eq (key x) k ≡ false = grind (arith, nat_tests, first, e) in
    rw no (number_absent key k j xs e all.1)

-- where keys are different numbers, at most one of them is a given one
pub one_number : {X : Type 0} (key : X → ℕ) (k : ℕ) (xs : List X) → IsDistinct nat_eq (map key xs)
    → AtMostOne (λ x. nat_eq (key x) k) xs
unfolding AtMostOne IsDistinct
one_number key k [] different = tt
one_number key k (x ∷ xs) different =
    (λ e. number_absent key k (key x) xs (eqb-true (key x) k e) different.0, one_number key k xs different.1)
