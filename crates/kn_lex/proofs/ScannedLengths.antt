-- What the scanner's lengths mean: the front of that length is spelled, and no longer front is.
use Rattle.std.proofs.Common.{◌⊎◌, inl, inr, ap, cond, ◌≡◌, ◌+◌, ℕ, zero, suc, true, false, Bool, ◌<◌, ◌≤◌, List, []}
use Rattle.std.proofs.Common.{◌∷◌, Option, Some, None, length, take, arith, refl, if◌then◌else◌}
use Rattle.std.specs.Prelude.{◌&&◌, ◌==◌}
use Rattle.std.proofs.Math.Numerals.{one-add}
use Rattle.std.specs.List.{prefix_len, list_all}
use Rattle.std.proofs.lemmas.Bool.Decides.{nat_tests, Decides-eqb}
use Rattle.kn_lex.specs.Bytes.{is_gap, is_white, continues_name, continues_label}
use Rattle.kn_lex.specs.Spelling.{is_white_space, is_label_tail, is_blank, is_continuation, is_body, SpellsPlain}
use Rattle.kn_lex.specs.Spelling.{SpellsBody}
use Rattle.kn_lex.specs.Scanning.{white_len, colon_len, body_len, more_len}
use Rattle.kn_lex.specs.declared.token.Sort.TheVariants.{Body}
use Rattle.kn_lex.specs.declared.lexeme.Lexeme.{Lexeme}
use Rattle.kn_lex.specs.declared.lexeme.Lexeme.TheVariants.{Token}
use Rattle.kn_lex.proofs.Scans.{is_blank-cons, take_next, colon_ends}

-- both parts of a conjunction
pub both : (a b : Bool) → (a && b) ≡ true → (a ≡ true) × (b ≡ true)
both a b e = grind arith

pub same_byte : (c d : ℕ) → (c == d) ≡ true → c ≡ d
same_byte c d e = (Decides-eqb c d).0 e

-- a fact of each branch is one of the choice
pub choice : {X : Type 0} (P : X → Type 0) (b : Bool) (x y : X) → (b ≡ true → P x) → (b ≡ false → P y)
    → P (if b then x else y)
choice P b x y first second = grind arith

-- a front that passes isn't longer than the one that is counted
pub run_longest : (p : ℕ → Bool) (xs : List ℕ) (m : ℕ) → m ≤ length xs → list_all p (take m xs) ≡ true
    → m ≤ prefix_len p xs
run_longest p [] m le e = omega arith
run_longest p (x ∷ xs) zero le e = omega arith
run_longest p (x ∷ xs) (suc m) le e = grind (arith, run_longest p xs m)

-- the front that is counted passes
pub run_passes : (p : ℕ → Bool) (xs : List ℕ) → list_all p (take (prefix_len p xs) xs) ≡ true
run_passes p [] = refl
run_passes p (x ∷ xs) = grind (arith, run_passes p xs, take_next)

pub gap_white : (c : ℕ) → is_gap c ≡ true → is_white c ≡ true
gap_white c e = grind (arith, nat_tests)

pub white_within : (xs : List ℕ) → white_len xs ≤ length xs
unfolding white_len
white_within [] = omega arith
white_within (c ∷ cs) = grind (arith, white_within cs)

pub white_some : (c : ℕ) (cs : List ℕ) → is_white c ≡ true → 0 < white_len (c ∷ cs)
unfolding white_len
white_some c cs w = grind (arith, nat_tests)

pub white_longest : (xs : List ℕ) (m : ℕ) → m ≤ length xs → is_white_space (take m xs) ≡ true → m ≤ white_len xs
unfolding white_len
white_longest [] m le e = omega arith
white_longest (c ∷ cs) zero le e = omega arith
white_longest (c ∷ []) (suc m) le e = grind (arith, nat_tests)
white_longest (c ∷ d ∷ ds) (suc zero) le e = grind (arith, nat_tests)
white_longest (c ∷ d ∷ ds) (suc (suc m)) le e = grind (arith, nat_tests, white_longest (d ∷ ds) (suc m))

pub white_spelled : (xs : List ℕ) → 0 < white_len xs → is_white_space (take (white_len xs) xs) ≡ true
unfolding white_len
white_spelled [] some = absurd (omega arith)
white_spelled (c ∷ []) some = grind (arith, nat_tests)
white_spelled (c ∷ d ∷ ds) some = grind (arith, white_spelled (d ∷ ds), take_next)

label_more : (c : ℕ) (bytes : List ℕ) → continues_label c ≡ true → is_label_tail bytes ≡ true
    → is_label_tail (c ∷ bytes) ≡ true
label_more c bytes g e = grind arith

-- where the length is that of a colon, or of one byte more
colon_split : (b g : Bool) (k : Option ℕ) (n : ℕ) → (if b then Some 1 else if g then more_len 1 k else None) ≡ Some n
    → ((b ≡ true) × (n ≡ 1)) ⊎ ((g ≡ true) × ((m : ℕ) × (k ≡ Some m) × (n ≡ 1 + m)))
colon_split b g k n e = grind arith

pub colon_within : (xs : List ℕ) (n : ℕ) → colon_len xs ≡ Some n → (0 < n) × (n ≤ length xs)
    × (is_label_tail (take n xs) ≡ true)
unfolding colon_len
colon_within [] n e = absurd (cc)
colon_within (c ∷ cs) n e =
    elim (colon_split (c == 58) (continues_label c) (colon_len cs) n e) [
      | inl h ↦ (omega arith, omega arith, rw h.1 h.0)
      | inr h ↦
          let rest = colon_within cs h.1.0 h.1.1 in (
            omega arith,
            omega (arith, rest.1),
            rw (h.1.2, take_next c cs h.1.0) (label_more c (take h.1.0 cs) h.0 rest.2),
          )
    ]

pub colon_found : (xs : List ℕ) (m : ℕ) → m ≤ length xs → is_label_tail (take m xs) ≡ true → colon_len xs ≡ Some m
unfolding colon_len
colon_found xs zero le e = absurd (cc)
colon_found [] (suc m) le e = absurd (omega arith)
colon_found (c ∷ []) (suc m) le e = grind (arith, nat_tests)
colon_found (c ∷ d ∷ ds) (suc zero) le e = rw e refl
colon_found (c ∷ d ∷ ds) (suc (suc m)) le e =
    let parts = both (continues_label c) (is_label_tail (d ∷ take m ds)) e in
    rw (colon_ends c parts.0, parts.0, colon_found (d ∷ ds) (suc m) (omega arith) parts.1) (ap Some (one-add (suc m)))

-- a label is longer than the name that it begins with
pub name_in_label : (xs : List ℕ) (n : ℕ) → colon_len xs ≡ Some n → prefix_len continues_name xs < n
unfolding colon_len
name_in_label [] n e = absurd (cc)
name_in_label (c ∷ cs) n e =
    by (c == 58) (continues_label c) (continues_name c) (colon_len cs) (λ p. (colon_ends c (rw p refl), rw p refl)) e
    (name_in_label cs)
  where
    by : (b g p : Bool) (k : Option ℕ) → (p ≡ true → (b ≡ false) × (g ≡ true))
        → (if b then Some 1 else if g then more_len 1 k else None) ≡ Some n
        → ((m : ℕ) → k ≡ Some m → prefix_len continues_name cs < m) → cond p (1 + prefix_len continues_name cs) 0 < n
    by b g p k name e rest = grind arith

pub body_within : (xs : List ℕ) → body_len xs ≤ length xs
unfolding body_len
body_within [] = omega arith
body_within (c ∷ cs) = grind (arith, body_within cs)

-- a front of a blank line is blank
pub blank_front : (xs : List ℕ) (k : ℕ) → is_blank xs ≡ true → is_blank (take k xs) ≡ true
blank_front xs zero e = refl
blank_front [] (suc k) e = refl
blank_front (c ∷ cs) (suc k) e = grind (arith, blank_front cs k, is_blank-cons c cs, is_blank-cons c (take k cs))

-- the body of a comment holds the whole of its first line
pub blank_body : (xs : List ℕ) (n : ℕ) → n ≡ body_len xs → is_blank (take n xs) ≡ is_blank xs
unfolding body_len
blank_body [] n e = rw e refl
blank_body (c ∷ cs) zero e = grind (arith, is_blank-cons c cs)
blank_body (c ∷ cs) (suc n) e = grind (arith, blank_body cs n, is_blank-cons c cs, is_blank-cons c (take n cs))

pub continuation_front : (xs : List ℕ) (k : ℕ) → is_continuation (take k xs) ≡ true → is_continuation xs ≡ true
continuation_front xs zero e = absurd (cc)
continuation_front [] (suc k) e = absurd (cc)
continuation_front (c ∷ cs) (suc k) e = grind (arith, blank_front (c ∷ cs) (suc k))

pub continuation_body : (xs : List ℕ) (n : ℕ) → n ≡ body_len xs → is_continuation xs ≡ true
    → is_continuation (take n xs) ≡ true
unfolding body_len
continuation_body [] n z e = absurd (cc)
continuation_body (c ∷ cs) zero z e = grind (arith, nat_tests)
continuation_body (c ∷ cs) (suc n) z e = grind (arith, blank_body (c ∷ cs) (suc n))

pub body_spelled : (xs : List ℕ) → is_body (take (body_len xs) xs) ≡ true
unfolding body_len
body_spelled [] = refl
body_spelled (c ∷ cs) = grind (arith, take_next, body_spelled cs, continuation_body cs (body_len cs))

pub body_longest : (xs : List ℕ) (m : ℕ) → m ≤ length xs → is_body (take m xs) ≡ true → m ≤ body_len xs
unfolding body_len
body_longest xs zero le e = omega arith
body_longest [] (suc m) le e = absurd (omega arith)
body_longest (c ∷ cs) (suc m) le e = grind (arith, continuation_front cs m, body_longest cs m)

-- behind the label of a comment nothing but a body is spelled
pub only_body : (lexeme : Lexeme) (bytes : List ℕ) → SpellsBody lexeme bytes → (lexeme ≡ Token Body)
    × (is_body bytes ≡ true)
only_body lexeme bytes s = grind arith

-- any other lexeme has a byte
pub lexeme_some : (first : Bool) (lexeme : Lexeme) → SpellsPlain first lexeme [] → ⊥
lexeme_some first lexeme s = grind arith
