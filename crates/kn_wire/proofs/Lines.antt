-- The first line of a text.
use Rattle.std.proofs.Common.{◌≡◌, ℕ, ◌+◌, ◌≤◌, ◌<◌, true, false, cond, suc, List, [], ◌∷◌, ◌++◌, length, take, drop}
use Rattle.std.proofs.Common.{refl, ap, ◌∙◌, ⊎_elim, arith, length-append}
use Rattle.std.specs.Prelude.{nat_lt}
use Rattle.std.specs.List.{before_first, after_first}
use Rattle.std.proofs.lemmas.Bool.{cases_Bool, cond-true, cond-false, le-ltb, lt-ltb}
use Rattle.std.proofs.Math.Seq.{take-append_seam, drop-append-add}
use Rattle.kn_wire.specs.Requests.{is_newline, is_return, line_length, without_return, first_of, first_of_line, line_of}

-- a byte at the end of a line, if it is a carriage return or not
pub without_return-last : (xs : List ℕ) (b : ℕ) → without_return (xs ++ b ∷ []) ≡ xs ++ cond (is_return b) [] (b ∷ [])
without_return-last [] b = refl
without_return-last (x ∷ []) b = refl
without_return-last (x ∷ y ∷ xs) b = ap (λ (l : List ℕ). x ∷ l) (without_return-last (y ∷ xs) b)

pub line_length-newline : (line rest : List ℕ) → line_length line ≡ length line
    → line_length (line ++ 10 ∷ rest) ≡ length line
line_length-newline [] rest h = refl
line_length-newline (b ∷ line) rest h =
    ⊎_elim
    (λ (e : is_newline b ≡ true). let bad : 0 ≡ suc (length line) = rw e at h in absurd (omega arith))
    (λ (e : is_newline b ≡ false).
    let same : 1 + line_length line ≡ suc (length line) = rw e at h in
    let more : line_length (line ++ 10 ∷ rest) ≡ length line = line_length-newline line rest (omega arith) in
    rw (e, more) (omega arith))
    (cases_Bool (is_newline b))

-- the request of a text that has a line of this length
first_at : (text : List ℕ) → line_length text ≤ 8192 → line_length text < length text
    → first_of text ≡ first_of_line (line_of (without_return (before_first is_newline text)))
    (after_first is_newline text)
first_at text short there =
    let enough : nat_lt 8192 (line_length text) ≡ false = le-ltb 8192 (line_length text) short in
    let within : nat_lt (line_length text) (length text) ≡ true = lt-ltb (line_length text) (length text) there in
    cond-false (nat_lt 8192 (line_length text)) _ _ enough
    ∙ cond-true (nat_lt (line_length text) (length text)) _ _ within

pub line_is_first : (line rest : List ℕ) → line_length line ≡ length line → length line ≤ 8192
    → first_of (line ++ 10 ∷ rest) ≡ first_of_line (line_of (without_return line)) rest
line_is_first line rest clean short =
    let at : line_length (line ++ 10 ∷ rest) ≡ length line = line_length-newline line rest clean in
    let long : length (line ++ 10 ∷ rest) ≡ length line + suc (length rest) = length-append line (10 ∷ rest) in
    let front : before_first is_newline (line ++ 10 ∷ rest) ≡ line = ap (λ n. take n (line ++ 10 ∷ rest)) at
    ∙ take-append_seam line (10 ∷ rest) in
    let back : after_first is_newline (line ++ 10 ∷ rest) ≡ rest = ap (λ n. drop (n + 1) (line ++ 10 ∷ rest)) at
    ∙ drop-append-add line (10 ∷ rest) 1 in
    first_at (line ++ 10 ∷ rest) (omega arith) (omega arith)
    ∙ ap (λ l. first_of_line (line_of (without_return l)) (after_first is_newline (line ++ 10 ∷ rest))) front
    ∙ ap (first_of_line (line_of (without_return line))) back
