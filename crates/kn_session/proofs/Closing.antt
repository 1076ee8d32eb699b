-- What holds of all items holds of them with one more, and without one.
use Rattle.std.proofs.Common.{◌≡◌, ℕ, zero, suc, ◌+◌, ◌≤◌, Bool, false, List, [], ◌∷◌, ◌++◌, map, get_or, set, refl, ap}
use Rattle.std.proofs.Common.{arith, nat_eq}
use Rattle.std.specs.List.{AllByRecursion, IsDistinct, remove}
use Rattle.std.proofs.lemmas.Bool.Decides.{nat_tests}
use Rattle.kn_env.proofs.Requesters.{AllByRecursion-push}

pub AllByRecursion-remove : {X : Type 0} (P : X → Type 0) (xs : List X) (i : ℕ) → AllByRecursion P xs
    → AllByRecursion P (remove xs i)
AllByRecursion-remove P [] zero all = tt
AllByRecursion-remove P [] (suc i) all = tt
AllByRecursion-remove P (x ∷ xs) zero all = all.1
AllByRecursion-remove P (x ∷ xs) (suc i) all = (all.0, AllByRecursion-remove P xs i all.1)

pub AllByRecursion-weaker : {X : Type 0} (P Q : X → Type 0) → ((x : X) → P x → Q x) → (xs : List X)
    → AllByRecursion P xs → AllByRecursion Q xs
AllByRecursion-weaker P Q h [] all = tt
AllByRecursion-weaker P Q h (x ∷ xs) all = (h x all.0, AllByRecursion-weaker P Q h xs all.1)

pub IsDistinct-remove : {X : Type 0} (e : X → X → Bool) (xs : List X) (i : ℕ) → IsDistinct e xs
    → IsDistinct e (remove xs i)
unfolding IsDistinct
IsDistinct-remove e [] zero different = tt
IsDistinct-remove e [] (suc i) different = tt
IsDistinct-remove e (x ∷ xs) zero different = different.1
IsDistinct-remove e (x ∷ xs) (suc i) different =
    (AllByRecursion-remove (λ y. e x y ≡ false) xs i different.0, IsDistinct-remove e xs i different.1)

pub IsDistinct-push : {X : Type 0} (e : X → X → Bool) (xs : List X) (x : X) → AllByRecursion (λ y. e y x ≡ false) xs
    → IsDistinct e xs → IsDistinct e (xs ++ x ∷ [])
unfolding IsDistinct
IsDistinct-push e [] x all different = (tt, tt)
IsDistinct-push e (y ∷ xs) x all different =
    (AllByRecursion-push (λ z. e y z ≡ false) xs x different.0 all.0, IsDistinct-push e xs x all.1 different.1)

pub map-set_same : {X Y : Type 0} (f : X → Y) (xs : List X) (i : ℕ) (y d : X) → f y ≡ f (get_or xs i d)
    → map f (set xs i y) ≡ map f xs
map-set_same f [] i y d e = refl
map-set_same f (x ∷ xs) zero y d e = ap (λ z. z ∷ map f xs) e
map-set_same f (x ∷ xs) (suc i) y d e = ap (λ ys. f x ∷ ys) (map-set_same f xs i y d e)

pub map-remove : {X Y : Type 0} (f : X → Y) (xs : List X) (i : ℕ) → map f (remove xs i) ≡ remove (map f xs) i
map-remove f [] zero = refl
map-remove f [] (suc i) = refl
map-remove f (x ∷ xs) zero = refl
map-remove f (x ∷ xs) (suc i) = ap (λ ys. f x ∷ ys) (map-remove f xs i)

-- a number that is above others is a new one
pub next_is_new : (n k : ℕ) → k ≤ n → nat_eq k (n + 1) ≡ false
next_is_new n k h = grind (arith, nat_tests, h)
