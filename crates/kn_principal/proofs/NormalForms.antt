-- Normal forms of principals by their first colon, and that a normal form is its own.
use Rattle.std.proofs.Common.{◌≡◌, ℕ, ◌+◌, ◌≤◌, ◌<◌, Bool, true, false, not, ◌&&◌, nat_eq, nat_lt, List, [], ◌∷◌, ◌++◌}
use Rattle.std.proofs.Common.{length, map, take, drop, get_or, codes, bytes_eq, Some, None, cond, position, refl, ap}
use Rattle.std.proofs.Common.{sym, ◌∙◌, arith, one-add, eqb-true, take_all, take-append-drop, append-nil}
use Rattle.std.specs.List.{list_any, position_or_len, before_first, after_first, ends_with}
use Rattle.std.proofs.Math.Bool.{and_assoc}
use Rattle.std.proofs.lemmas.Bool.{cond-true, cond-false, or_from}
use Rattle.std.proofs.lemmas.Bool.Decides.{nat_tests}
use Rattle.std.proofs.lemmas.Grind.{common_steps}
use Rattle.std.proofs.lemmas.List.{take_at, drop_at, drop_all, drop_more, map-append, append_assoc, length_push}
use Rattle.std.proofs.lemmas.List.Sums.{passes_at_first}
use Rattle.kn_principal.specs.Principals.{lower_case, is_colon, normal_form, normal_rest, with_algorithm}

-- a place is found exactly where there is a colon
found : (text : List ℕ) → nat_lt (position_or_len is_colon text) (length text) ≡ list_any is_colon text
found [] = refl
found (b ∷ text) = grind (arith, common_steps, found text)

record ColonAt (text : List ℕ) (at : ℕ) : Type 0 where
  some : list_any is_colon text ≡ true
  place : position_or_len is_colon text ≡ at
  rest : drop at text ≡ 58 ∷ drop (at + 1) text

colon_at : (text : List ℕ) (at : ℕ) → position is_colon text ≡ Some at → ColonAt text at
colon_at text at h = by (list_any is_colon text) refl
  where
    by : (c : Bool) → list_any is_colon text ≡ c → ColonAt text at
    by true some =
        let within : nat_lt (position_or_len is_colon text) (length text) ≡ true = found text ∙ some in
        let place : position_or_len is_colon text ≡ at = grind (arith, common_steps, within, h) in
        let less : position_or_len is_colon text < length text = grind (arith, nat_tests, within) in
        let colon : get_or text at 0 ≡ 58 = eqb-true _ _ (ap (λ n. is_colon (get_or text n 0)) (sym place)
        ∙ passes_at_first is_colon text 0 less) in
        record {
          some = some;
          place = place;
          rest = drop_more text at 0 (omega (arith, less, place)) ∙ ap (λ b. b ∷ drop (at + 1) text) colon;
        }
    by false none = grind (arith, common_steps, found text, none, h)

-- a principal without a colon is in normal form
pub no_colon : (text : List ℕ) → position is_colon text ≡ None → normal_form text ≡ text
no_colon text h = by (list_any is_colon text) refl
  where
    by : (c : Bool) → list_any is_colon text ≡ c → normal_form text ≡ text
    by true some = grind (arith, common_steps, found text, some, h)
    by false none = cond-false _ _ _ none

form_at : (text : List ℕ) (at : ℕ) → ColonAt text at
    → normal_form text ≡ with_algorithm (map lower_case (take at text)) (drop (at + 1) text)
form_at text at c =
    cond-true (list_any is_colon text) _ _ c.some
    ∙ ap (λ n. with_algorithm (map lower_case (take n text)) (drop (n + 1) text)) c.place

-- hexadecimal digits have no case
pub hexadecimal_form : (text : List ℕ) (at : ℕ) → position is_colon text ≡ Some at
    → ends_with nat_eq (map lower_case (take at text)) (codes "-hex") ≡ true
    → normal_form text ≡ map lower_case (take (length text) text) ++ drop (length text) text
hexadecimal_form text at h hex =
    let c = colon_at text at h in
    form_at text at c
    ∙ ap (λ rest. map lower_case (take at text) ++ 58 ∷ rest) (cond-true _ _ _ hex)
    ∙ ap (λ rest. map lower_case (take at text) ++ map lower_case rest) (sym c.rest)
    ∙ sym (map-append lower_case (take at text) (drop at text))
    ∙ ap (map lower_case) (take-append-drop at text ∙ sym (take_all (length text) text (omega arith)))
    ∙ sym (append-nil _)
    ∙ ap (λ rest. map lower_case (take (length text) text) ++ rest) (sym (drop_all (length text) text (omega arith)))

-- other algorithms alone have no case
pub other_form : (text : List ℕ) (at : ℕ) → position is_colon text ≡ Some at
    → ends_with nat_eq (map lower_case (take at text)) (codes "-hex") ≡ false
    → normal_form text ≡ map lower_case (take at text) ++ drop at text
other_form text at h other =
    let c = colon_at text at h in
    form_at text at c
    ∙ ap (λ rest. map lower_case (take at text) ++ 58 ∷ rest) (cond-false _ _ _ other)
    ∙ ap (λ rest. map lower_case (take at text) ++ rest) (sym c.rest)

eq_parts : (xs ys zs : List ℕ) → length xs ≤ length zs
    → bytes_eq (xs ++ ys) zs ≡ (bytes_eq xs (take (length xs) zs) && bytes_eq ys (drop (length xs) zs))
eq_parts [] ys zs h = refl
eq_parts (x ∷ xs) ys [] h = absurd (omega arith)
eq_parts (x ∷ xs) ys (z ∷ zs) h = ap (λ b. nat_eq x z && b) (eq_parts xs ys zs (omega (arith, h)))
    ∙ sym (and_assoc (nat_eq x z) (bytes_eq xs (take (length xs) zs)) (bytes_eq ys (drop (length xs) zs)))

-- a comparison by the bytes without case and the others
pub eq_form : (text other : List ℕ) (n : ℕ) → n ≤ length text → n ≤ length other
    → normal_form text ≡ map lower_case (take n text) ++ drop n text
    → bytes_eq (normal_form text) other
    ≡ (bytes_eq (map lower_case (take n text)) (take n other) && bytes_eq (drop n text) (drop n other))
eq_form text other n within enough form =
    let size : length (map lower_case (take n text)) ≡ n = grind (arith, common_steps) in
    ap (λ l. bytes_eq l other) form
    ∙ eq_parts (map lower_case (take n text)) (drop n text) other (omega (arith, size))
    ∙ ap (λ k. bytes_eq (map lower_case (take n text)) (take k other) && bytes_eq (drop n text) (drop k other)) size

lower_twice : (b : ℕ) → lower_case (lower_case b) ≡ lower_case b
lower_twice b = grind (arith, nat_tests)

all_lower_twice : (text : List ℕ) → map lower_case (map lower_case text) ≡ map lower_case text
all_lower_twice [] = refl
all_lower_twice (b ∷ text) = ap (λ c. c ∷ map lower_case (map lower_case text)) (lower_twice b)
    ∙ ap (λ l. lower_case b ∷ l) (all_lower_twice text)

colon_lower : (b : ℕ) → is_colon b ≡ false → is_colon (lower_case b) ≡ false
colon_lower b h = grind (arith, nat_tests)

before_more : (b : ℕ) (text : List ℕ) (c : Bool) → is_colon b ≡ c
    → list_any is_colon (map lower_case (before_first is_colon text)) ≡ false
    → list_any is_colon (map lower_case (before_first is_colon (b ∷ text))) ≡ false
before_more b text true h rest =
    ap (λ c. list_any is_colon (map lower_case (take (cond (not c) (1 + position_or_len is_colon text) 0) (b ∷ text))))
    h
before_more b text false h rest =
    ap (λ c. list_any is_colon (map lower_case (take (cond (not c) (1 + position_or_len is_colon text) 0) (b ∷ text))))
    h
    ∙ ap (λ n. list_any is_colon (map lower_case (take n (b ∷ text)))) (one-add (position_or_len is_colon text))
    ∙ or_from (is_colon (lower_case b)) (list_any is_colon (map lower_case (before_first is_colon text)))
    (colon_lower b h) rest

-- what stands before the first colon has none in lower case either
before_lacks : (text : List ℕ) → list_any is_colon (map lower_case (before_first is_colon text)) ≡ false
before_lacks [] = refl
before_lacks (b ∷ text) = before_more b text (is_colon b) refl (before_lacks text)

place_at : (front rest : List ℕ) → list_any is_colon front ≡ false
    → position_or_len is_colon (front ++ 58 ∷ rest) ≡ length front
place_at [] rest none = refl
place_at (b ∷ front) rest none = grind (arith, common_steps, place_at front rest)

colon_there : (front rest : List ℕ) → list_any is_colon (front ++ 58 ∷ rest) ≡ true
colon_there [] rest = refl
colon_there (b ∷ front) rest = grind (arith, common_steps, colon_there front rest)

algorithm_form : (algorithm rest : List ℕ) → list_any is_colon algorithm ≡ false
    → normal_form (algorithm ++ 58 ∷ rest) ≡ with_algorithm (map lower_case algorithm) rest
algorithm_form algorithm rest none =
    let all : List ℕ = algorithm ++ 58 ∷ rest in
    let behind : drop (length algorithm + 1) all ≡ rest =
    ap (drop (length algorithm + 1)) (sym (append_assoc algorithm (58 ∷ []) rest))
    ∙ drop_at (algorithm ++ 58 ∷ []) rest (length algorithm + 1) (length_push algorithm 58) in
    cond-true _ _ _ (colon_there algorithm rest)
    ∙ ap (λ n. with_algorithm (map lower_case (take n all)) (drop (n + 1) all)) (place_at algorithm rest none)
    ∙ ap (λ front. with_algorithm (map lower_case front) (drop (length algorithm + 1) all))
    (take_at algorithm (58 ∷ rest) (length algorithm) refl)
    ∙ ap (with_algorithm (map lower_case algorithm)) behind

rest_twice : (algorithm rest : List ℕ) → normal_rest algorithm (normal_rest algorithm rest) ≡ normal_rest algorithm rest
rest_twice algorithm rest = by (ends_with nat_eq algorithm (codes "-hex")) refl
  where
    by : (c : Bool) → ends_with nat_eq algorithm (codes "-hex") ≡ c
        → normal_rest algorithm (normal_rest algorithm rest) ≡ normal_rest algorithm rest
    by true h = cond-true _ _ _ h ∙ ap (map lower_case) (cond-true _ _ _ h) ∙ all_lower_twice rest
        ∙ sym (cond-true _ _ _ h)
    by false h = cond-false _ _ _ h

-- a normal form is its own
pub form_twice : (text : List ℕ) → normal_form (normal_form text) ≡ normal_form text
form_twice text = by (list_any is_colon text) refl
  where
    by : (c : Bool) → list_any is_colon text ≡ c → normal_form (normal_form text) ≡ normal_form text
    by false none = ap normal_form (cond-false _ _ _ none)
    by true some =
        let algorithm : List ℕ = map lower_case (before_first is_colon text) in
        let rest : List ℕ = after_first is_colon text in
        let form : normal_form text ≡ with_algorithm algorithm rest = cond-true _ _ _ some in
        ap normal_form form
        ∙ algorithm_form algorithm (normal_rest algorithm rest) (before_lacks text)
        ∙ ap (λ l. with_algorithm l (normal_rest algorithm rest)) (all_lower_twice (before_first is_colon text))
        ∙ ap (λ l. algorithm ++ 58 ∷ l) (rest_twice algorithm rest)
        ∙ sym form
