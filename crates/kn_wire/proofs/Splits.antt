-- Where a text is cut.
use Rattle.std.proofs.Common.{◌≡◌, ◌≢◌, ◌≤◌, ◌<◌, ◌+◌, ◌==◌, ℕ, suc, Bool, true, false, not, cond, Some, None}
use Rattle.std.proofs.Common.{List, [], ◌∷◌, ◌++◌, length, get_or, take, drop, refl, sym}
use Rattle.std.proofs.Common.{ap, ◌∙◌, arith, eq-eqb, ltb-true, ltb-false, lt-ltb, nat_lt, ◌&&◌}
use Rattle.std.specs.Prelude.{if◌then◌else◌}
use Rattle.std.specs.List.{list_all, before_first, after_first, position_or_len}
use Rattle.std.proofs.lemmas.List.{drop_all}
use Rattle.std.proofs.lemmas.Bool.Decides.{Decides-eqb}
use Rattle.std.proofs.lemmas.List.Sums.{prefix_len-le-length, passes_at_first, fails_before_first}
use Rattle.kn_wire.specs.Requests.{behind_space, is_space, is_return, is_word, name_and_rest, without_return}

-- the place of a byte is behind the bytes that are none
pub place_further : (text : List ℕ) (wanted at : ℕ) → at ≤ position_or_len (λ byte. byte == wanted) text
    → at < length text → get_or text at 0 ≢ wanted
    → at + 1 ≤ position_or_len (λ byte. byte == wanted) text
place_further text wanted at below within other = by (nat_lt at (position_or_len (λ byte. byte == wanted) text)) refl
  where
    by : (t : Bool) → nat_lt at (position_or_len (λ byte. byte == wanted) text) ≡ t
        → at + 1 ≤ position_or_len (λ byte. byte == wanted) text
    by true e = let l = ltb-true at (position_or_len (λ byte. byte == wanted) text) e in omega arith
    by false e =
        let l = ltb-false at (position_or_len (λ byte. byte == wanted) text) e in
        let same : position_or_len (λ byte. byte == wanted) text ≡ at = omega arith in
        let pass = passes_at_first (λ byte. byte == wanted) text 0 (omega arith) in
        absurd (other ((Decides-eqb (get_or text at 0) wanted).0 (ap (λ k. get_or text k 0 == wanted) (sym same)
        ∙ pass)))

pub place_found : (text : List ℕ) (wanted at : ℕ) → at ≤ position_or_len (λ byte. byte == wanted) text
    → at < length text → get_or text at 0 ≡ wanted
    → at ≡ position_or_len (λ byte. byte == wanted) text
place_found text wanted at below within here = by (nat_lt at (position_or_len (λ byte. byte == wanted) text)) refl
  where
    by : (t : Bool) → nat_lt at (position_or_len (λ byte. byte == wanted) text) ≡ t
        → at ≡ position_or_len (λ byte. byte == wanted) text
    by true e =
        let before = ltb-true at (position_or_len (λ byte. byte == wanted) text) e in
        let fails = fails_before_first (λ byte. byte == wanted) text at 0 before in
        let passes = eq-eqb (get_or text at 0) wanted here in
        cc
    by false e = let l = ltb-false at (position_or_len (λ byte. byte == wanted) text) e in omega arith

pub place_none : (text : List ℕ) (wanted at : ℕ) → at ≤ position_or_len (λ byte. byte == wanted) text → length text ≤ at
    → at ≡ position_or_len (λ byte. byte == wanted) text
place_none text wanted at below all = let within = prefix_len-le-length (λ byte. not (byte == wanted)) text in
    omega arith

-- what follows the first space
pub behind_first : (text : List ℕ) → position_or_len is_space text < length text
    → behind_space text ≡ Some (after_first is_space text)
behind_first [] within = absurd (omega (arith, within))
behind_first (b ∷ bs) within = by (is_space b) within (behind_first bs)
  where
    by : (t : Bool) → cond (not t) (1 + position_or_len is_space bs) 0 < length (b ∷ bs)
        → (position_or_len is_space bs < length bs → behind_space bs ≡ Some (after_first is_space bs))
        → (if t then Some bs else behind_space bs)
        ≡ Some (drop (cond (not t) (1 + position_or_len is_space bs) 0 + 1) (b ∷ bs))
    by true within more = refl
    by false within more =
        let place : suc (position_or_len is_space bs + 1) ≡ 1 + position_or_len is_space bs + 1 = omega arith in
        more (omega (arith, within)) ∙ ap (λ n. Some (drop n (b ∷ bs))) place

pub behind_none : (text : List ℕ) → length text ≤ position_or_len is_space text → behind_space text ≡ None
behind_none [] all = refl
behind_none (b ∷ bs) all = by (is_space b) all (behind_none bs)
  where
    by : (t : Bool) → length (b ∷ bs) ≤ cond (not t) (1 + position_or_len is_space bs) 0
        → (length bs ≤ position_or_len is_space bs → behind_space bs ≡ None)
        → (if t then Some bs else behind_space bs) ≡ None
    by true all more = absurd (omega (arith, all))
    by false all more = more (omega (arith, all))

-- a text that doesn't end with a carriage return
pub without_return-kept : (xs : List ℕ) → ((front : List ℕ) → xs ≢ front ++ 13 ∷ []) → without_return xs ≡ xs
without_return-kept [] other = refl
without_return-kept (b ∷ []) other = last (is_return b) refl
  where
    last : (t : Bool) → is_return b ≡ t → (if t then [] else b ∷ []) ≡ b ∷ []
    last true e = absurd (other [] (ap (λ (n : ℕ). n ∷ []) ((Decides-eqb b 13).0 e)))
    last false e = refl
without_return-kept (b ∷ c ∷ xs) other =
    ap (λ (l : List ℕ). b ∷ l)
    (without_return-kept (c ∷ xs) (λ front e. other (b ∷ front) (ap (λ (l : List ℕ). b ∷ l) e)))

-- a line without its carriage return is its front
pub bare_front : (xs : List ℕ) → take (length (without_return xs)) xs ≡ without_return xs
bare_front [] = refl
bare_front (b ∷ []) = by (is_return b)
  where
    by : (t : Bool) → take (length (if t then [] else b ∷ [])) (b ∷ []) ≡ (if t then [] else b ∷ [])
    by true = refl
    by false = refl
bare_front (b ∷ c ∷ xs) = ap (λ (l : List ℕ). b ∷ l) (bare_front (c ∷ xs))

pub bare_short : (xs : List ℕ) → length (without_return xs) ≤ length xs
bare_short [] = omega arith
bare_short (b ∷ []) = by (is_return b)
  where
    by : (t : Bool) → length (if t then [] else b ∷ []) ≤ 1
    by true = omega arith
    by false = omega arith
bare_short (b ∷ c ∷ xs) = let more = bare_short (c ∷ xs) in omega arith

pub place_within : (text : List ℕ) (wanted : ℕ) → position_or_len (λ byte. byte == wanted) text ≤ length text
place_within text wanted = prefix_len-le-length (λ byte. not (byte == wanted)) text

-- the bytes before the first space have none
before_clean : (text : List ℕ) → list_all (λ byte. not (is_space byte)) (before_first is_space text) ≡ true
before_clean [] = refl
before_clean (b ∷ bs) = by (is_space b) refl (before_clean bs)
  where
    by : (t : Bool) → is_space b ≡ t → list_all (λ byte. not (is_space byte)) (before_first is_space bs) ≡ true
        → list_all (λ byte. not (is_space byte)) (take (cond (not t) (1 + position_or_len is_space bs) 0) (b ∷ bs))
        ≡ true
    by true e more = refl
    by false e more =
        let place : 1 + position_or_len is_space bs ≡ suc (position_or_len is_space bs) = omega arith in
        ap (λ n. list_all (λ byte. not (is_space byte)) (take n (b ∷ bs))) place
        ∙ ap (λ t. not t && list_all (λ byte. not (is_space byte)) (before_first is_space bs)) e ∙ more

behind_is : (text rest : List ℕ) → behind_space text ≡ Some rest → after_first is_space text ≡ rest
behind_is text rest e = by (nat_lt (position_or_len is_space text) (length text)) refl
  where
    by : (t : Bool) → nat_lt (position_or_len is_space text) (length text) ≡ t → after_first is_space text ≡ rest
    by true within =
        let is = behind_first text (ltb-true (position_or_len is_space text) (length text) within) in
        cc
    by false beyond =
        let is = behind_none text (ltb-false (position_or_len is_space text) (length text) beyond) in
        cc

nothing_behind : (text : List ℕ) → behind_space text ≡ None → after_first is_space text ≡ []
nothing_behind text e = by (nat_lt (position_or_len is_space text) (length text)) refl
  where
    by : (t : Bool) → nat_lt (position_or_len is_space text) (length text) ≡ t → after_first is_space text ≡ []
    by true within =
        let is = behind_first text (ltb-true (position_or_len is_space text) (length text) within) in
        cc
    by false beyond =
        let l = ltb-false (position_or_len is_space text) (length text) beyond in
        drop_all (position_or_len is_space text + 1) text (omega arith)

is_name : (text : List ℕ) → 0 < length (before_first is_space text) → is_word (before_first is_space text) ≡ true
is_name text some = rw (lt-ltb 0 (length (before_first is_space text)) some) (before_clean text)

name_and_rest_is : (text : List ℕ) → 0 < length (before_first is_space text)
    → name_and_rest text ≡ Some (before_first is_space text, after_first is_space text)
name_and_rest_is text some = ap (λ t. if t then Some (before_first is_space text, after_first is_space text) else None)
    (is_name text some)

-- a name, and what follows it
pub name_first : (text name rest : List ℕ) → name ≡ before_first is_space text → Some rest ≡ behind_space text
    → 0 < length name → name_and_rest text ≡ Some (name, rest)
name_first text name rest e behind some =
    let size : length name ≡ length (before_first is_space text) = ap length e in
    name_and_rest_is text (omega arith) ∙ ap (λ n. Some (n, after_first is_space text)) (sym e)
    ∙ ap (λ r. Some (name, r)) (behind_is text rest (sym behind))

pub name_alone : (text name : List ℕ) → name ≡ before_first is_space text → None ≡ behind_space text → 0 < length name
    → name_and_rest text ≡ Some (name, [])
name_alone text name e behind some =
    let size : length name ≡ length (before_first is_space text) = ap length e in
    name_and_rest_is text (omega arith) ∙ ap (λ n. Some (n, after_first is_space text)) (sym e)
    ∙ ap (λ r. Some (name, r)) (nothing_behind text (sym behind))

-- a line is its first word, a space and what follows
pub split_line : (line rest : List ℕ) → behind_space line ≡ Some rest → line ≡ before_first is_space line ++ 32 ∷ rest
split_line [] rest e = cc
split_line (b ∷ bs) rest e = by (is_space b) refl e (split_line bs rest)
  where
    by : (t : Bool) → is_space b ≡ t → (if t then Some bs else behind_space bs) ≡ Some rest
        → (behind_space bs ≡ Some rest → bs ≡ before_first is_space bs ++ 32 ∷ rest)
        → b ∷ bs ≡ take (cond (not t) (1 + position_or_len is_space bs) 0) (b ∷ bs) ++ 32 ∷ rest
    by true is e more =
        let space : b ≡ 32 = (Decides-eqb b 32).0 is in
        let left : bs ≡ rest = cc in
        ap (λ n. n ∷ bs) space ∙ ap (λ (l : List ℕ). 32 ∷ l) left
    by false is e more =
        let place : suc (position_or_len is_space bs) ≡ 1 + position_or_len is_space bs = omega arith in
        ap (λ (l : List ℕ). b ∷ l) (more e) ∙ ap (λ n. take n (b ∷ bs) ++ 32 ∷ rest) place
