-- Names that are entered behind others where they have no number yet.
use Rattle.std.proofs.Common.{◌≡◌, ℕ, zero, suc, ◌+◌, ◌<◌, ◌≤◌, ◌^◌, Bool, true, false, cond, List, [], ◌∷◌, ◌++◌}
use Rattle.std.proofs.Common.{length, get_or, take, drop, refl, sym, ap, ◌∙◌, arith}
use Rattle.std.specs.List.{list_any, AllByRecursion}
use Rattle.std.specs.Str.{bytes_eq}
use Rattle.std.proofs.lemmas.List.{length-append, take_more}
use Rattle.std.proofs.lemmas.List.Folds.{list_any-append}
use Rattle.kn_rows.specs.Numbering.{IsNumber, IsAbsent, with_name, with_names}
use Rattle.kn_rows.proofs.Names.{absent-among, bytes_eq-same, number-among, or_as_true, true_or}

-- a name that is known
known-same : (names : List (List ℕ)) (name : List ℕ) → list_any (bytes_eq name) names ≡ true
    → with_name names name ≡ names
known-same names name known = ap (λ b. cond b names (names ++ name ∷ [])) known

pub with_name-known : (names : List (List ℕ)) (name : List ℕ) (p : ℕ) → IsNumber names name p
    → with_name names name ≡ names
with_name-known names name p here = known-same names name (number-among names name p here)

pub with_name-absent : (names : List (List ℕ)) (name : List ℕ) → IsAbsent names name
    → with_name names name ≡ names ++ name ∷ []
with_name-absent names name none = ap (λ b. cond b names (names ++ name ∷ [])) (absent-among names name none)

-- at most one more
pub length-with_name : (names : List (List ℕ)) (name : List ℕ) → length (with_name names name) ≤ length names + 1
length-with_name names name = by (list_any (bytes_eq name) names)
  where
    by : (b : Bool) → length (cond b names (names ++ name ∷ [])) ≤ length names + 1
    by true = omega arith
    by false = simp length-append (omega arith)

pub length-with_names : (names others : List (List ℕ)) → length (with_names names others) ≤ length names + length others
length-with_names names [] = omega arith
length-with_names names (name ∷ others) =
    let one = length-with_name names name in
    let rest = length-with_names (with_name names name) others in
    omega (arith, one, rest)

-- and no fewer
name-grows : (names : List (List ℕ)) (name : List ℕ) → length names ≤ length (with_name names name)
name-grows names name = by (list_any (bytes_eq name) names)
  where
    by : (b : Bool) → length names ≤ length (cond b names (names ++ name ∷ []))
    by true = omega arith
    by false = simp length-append (omega arith)

names-grow : (names others : List (List ℕ)) → length names ≤ length (with_names names others)
names-grow names [] = omega arith
names-grow names (name ∷ others) =
    let one = name-grows names name in
    let rest = names-grow (with_name names name) others in
    omega (arith, one, rest)

length-front : (names : List (List ℕ)) (i : ℕ) (others : List (List ℕ))
    → length (with_names names (take i others)) ≤ length (with_names names others)
length-front names zero others = names-grow names others
length-front names (suc i) [] = omega arith
length-front names (suc i) (name ∷ others) = length-front (with_name names name) i others

with_names-append : (names xs ys : List (List ℕ)) → with_names names (xs ++ ys) ≡ with_names (with_names names xs) ys
with_names-append names [] ys = refl
with_names-append names (x ∷ xs) ys = with_names-append (with_name names x) xs ys

-- one more of them
pub with_names-more : (names others : List (List ℕ)) (i : ℕ) (name : List ℕ) → i < length others
    → name ≡ get_or others i name
    → with_name (with_names names (take i others)) name ≡ with_names names (take (i + 1) others)
with_names-more names others i name within here =
    let longer : take i others ++ name ∷ [] ≡ take (i + 1) others = ap (λ n. take i others ++ n ∷ []) here
    ∙ sym (take_more others i name within) in
    sym (with_names-append names (take i others) (name ∷ [])) ∙ ap (with_names names) longer

-- where there is room for all of them, there is room for the next
pub room_for_next : (names others : List (List ℕ)) (i : ℕ) (name : List ℕ) → i < length others
    → name ≡ get_or others i name
    → length (with_names names others) ≤ 2 ^ 24 → length (with_name (with_names names (take i others)) name) ≤ 2 ^ 24
room_for_next names others i name within here room =
    let next = ap length (with_names-more names others i name within here) in
    let front = length-front names (i + 1) others in
    omega (arith, next, front, room)

-- these are among the names
abbrev AreKnown : List (List ℕ) → List (List ℕ) → Type 0
AreKnown names others = AllByRecursion (λ name. list_any (bytes_eq name) names ≡ true) others

name-kept : (names : List (List ℕ)) (name other : List ℕ) → list_any (bytes_eq other) names ≡ true
    → list_any (bytes_eq other) (with_name names name) ≡ true
name-kept names name other known = by (list_any (bytes_eq name) names)
  where
    by : (b : Bool) → list_any (bytes_eq other) (cond b names (names ++ name ∷ [])) ≡ true
    by true = known
    by false = list_any-append (bytes_eq other) names (name ∷ [])
        ∙ true_or (list_any (bytes_eq other) names) (list_any (bytes_eq other) (name ∷ [])) known

names-kept : (names others : List (List ℕ)) (other : List ℕ) → list_any (bytes_eq other) names ≡ true
    → list_any (bytes_eq other) (with_names names others) ≡ true
names-kept names [] other known = known
names-kept names (name ∷ others) other known =
    names-kept (with_name names name) others other (name-kept names name other known)

name-entered : (names : List (List ℕ)) (name : List ℕ) → list_any (bytes_eq name) (with_name names name) ≡ true
name-entered names name = by (list_any (bytes_eq name) names) refl
  where
    by : (b : Bool) → list_any (bytes_eq name) names ≡ b → list_any (bytes_eq name) (cond b names (names ++ name ∷ []))
        ≡ true
    by true known = known
    by false new =
        list_any-append (bytes_eq name) names (name ∷ [])
        ∙ or_as_true (list_any (bytes_eq name) names) (list_any (bytes_eq name) (name ∷ []))
        (true_or (bytes_eq name name) false (bytes_eq-same name name refl))

names-entered : (names others : List (List ℕ)) → AreKnown (with_names names others) others
names-entered names [] = tt
names-entered names (name ∷ others) = (
  names-kept (with_name names name) others name (name-entered names name),
  names-entered (with_name names name) others,
)

known-skipped : (names : List (List ℕ)) (i : ℕ) (others : List (List ℕ)) → AreKnown names (take i others)
    → with_names names others ≡ with_names names (drop i others)
known-skipped names zero others known = refl
known-skipped names (suc i) [] known = refl
known-skipped names (suc i) (name ∷ others) known = ap (λ ns. with_names ns others) (known-same names name known.0)
    ∙ known-skipped names i others known.1

rest-entered : (names : List (List ℕ)) (i : ℕ) (others : List (List ℕ))
    → with_names (with_names names (take i others)) (drop i others) ≡ with_names names others
rest-entered names zero others = refl
rest-entered names (suc i) [] = refl
rest-entered names (suc i) (name ∷ others) = rest-entered (with_name names name) i others

-- to enter some of them before, or all, makes no difference
pub with_names-again : (names others : List (List ℕ)) (i : ℕ)
    → with_names (with_names names (take i others)) others ≡ with_names names others
with_names-again names others i =
    known-skipped (with_names names (take i others)) i others (names-entered names (take i others))
    ∙ rest-entered names i others
