-- The value of a literal, item by item.
use Rattle.std.proofs.Common.{append-nil, eq-eqb, ◌≡◌, ℕ, zero, suc, ◌+◌, ◌<◌, ◌≤◌, List, [], ◌∷◌, ◌++◌, None, length}
use Rattle.std.proofs.Common.{drop, get_or, arith, refl, sym, ◌∙◌, ap}
use Rattle.std.specs.Prelude.{not, ◌==◌}
use Rattle.std.specs.List.{prefix_len}
use Rattle.std.proofs.lemmas.Bool.{ne_eqb}
use Rattle.std.proofs.lemmas.Bool.Decides.{nat_tests}
use Rattle.std.proofs.lemmas.List.{drop_all}
use Rattle.std.proofs.Math.Numerals.{add-one}
use Rattle.memchr.specs.Find.{IsFirstByte, is_byte}
use Rattle.kn_lex.specs.Literal.{escape, with_front, value_behind}
use Rattle.kn_lex.proofs.Firsts.{run_by_first}

-- what belongs to an escape gives nothing more
pub skipped : (k : ℕ) (xs : List ℕ) → value_behind k xs ≡ value_behind 0 (drop k xs)
unfolding value_behind
skipped zero xs = grind arith
skipped (suc k) [] = refl
skipped (suc k) (x ∷ xs) = skipped k xs

pub value_plain : (xs : List ℕ) → 0 < length xs → (get_or xs 0 0 ≡ 92 → ⊥)
    → value_behind 0 xs ≡ get_or xs 0 0 ∷ value_behind 0 (drop 1 xs)
unfolding value_behind
value_plain xs h n = grind (arith, ne_eqb)

pub value_escaped : (xs : List ℕ) → 0 < length xs → get_or xs 0 0 ≡ 92
    → value_behind 0 xs ≡ with_front (escape (drop 1 xs)).0 (value_behind 0 (drop ((escape (drop 1 xs)).1 + 1) xs))
unfolding value_behind
value_escaped [] h e = absurd (omega arith)
value_escaped (x ∷ xs) h e =
    rw (eq-eqb x 92 e)
    (ap (with_front (escape xs).0) (skipped (escape xs).1 xs
    ∙ ap (λ n. value_behind 0 (drop n (x ∷ xs))) (sym (add-one (escape xs).1))))

pub value_end : (xs : List ℕ) (at : ℕ) → length xs ≤ at → value_behind 0 (drop at xs) ≡ []
unfolding value_behind
value_end xs at h = ap (value_behind 0) (drop_all at xs h)

pub value_whole : (value xs : List ℕ) (at : ℕ) → length xs ≤ at
    → value ++ value_behind 0 (drop at xs) ≡ value_behind 0 xs
    → value ≡ value_behind 0 xs
value_whole value xs at h e = sym (append-nil value) ∙ ap (λ zs. value ++ zs) (sym (value_end xs at h)) ∙ e

none_escaped : (ys : List ℕ) → prefix_len (λ byte. not (byte == 92)) ys ≡ length ys → value_behind 0 ys ≡ ys
unfolding value_behind
none_escaped [] e = refl
none_escaped (y ∷ ys) e = grind (arith, nat_tests, none_escaped ys)

-- without a backslash the value is what stands there
pub value_same : (xs : List ℕ) → IsFirstByte (is_byte 92) xs None → value_behind 0 xs ≡ xs
value_same xs none = none_escaped xs (run_by_first (is_byte 92) xs None none)
