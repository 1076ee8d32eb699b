-- Where the first newline stands.
use Rattle.std.proofs.Common.{◌≡◌, ◌≤◌, ◌<◌, ◌+◌, ℕ, nat_lt, true, List, [], ◌∷◌, ◌++◌, false, length, take, drop, refl}
use Rattle.std.proofs.Common.{ap, ◌∙◌, sym, arith}
use Rattle.std.proofs.lemmas.List.{take_at, drop_at, drop_all, append_assoc, length_push}
use Rattle.std.proofs.lemmas.Bool.Decides.{nat_tests}
use Rattle.std.proofs.lemmas.Grind.{common_steps}
use Rattle.std.specs.List.{list_any, before_first, after_first}
use Rattle.kn_wire.specs.Requests.{is_newline, line_length}

pub line_length_at : (line rest : List ℕ) → list_any is_newline line ≡ false
    → line_length (line ++ 10 ∷ rest) ≡ length line
line_length_at [] rest none = refl
line_length_at (b ∷ line) rest none = grind (arith, common_steps, line_length_at line rest)

pub line_length_all : (line : List ℕ) → list_any is_newline line ≡ false → line_length line ≡ length line
line_length_all [] none = refl
line_length_all (b ∷ line) none = grind (arith, common_steps, line_length_all line)

pub before_at : (line rest : List ℕ) → list_any is_newline line ≡ false
    → before_first is_newline (line ++ 10 ∷ rest) ≡ line
before_at line rest none = ap (λ n. take n (line ++ 10 ∷ rest)) (line_length_at line rest none)
    ∙ take_at line (10 ∷ rest) (length line) refl

pub after_at : (line rest : List ℕ) → list_any is_newline line ≡ false
    → after_first is_newline (line ++ 10 ∷ rest) ≡ rest
after_at line rest none =
    ap (λ n. drop (n + 1) (line ++ 10 ∷ rest)) (line_length_at line rest none)
    ∙ ap (drop (length line + 1)) (sym (append_assoc line (10 ∷ []) rest))
    ∙ drop_at (line ++ 10 ∷ []) rest (length line + 1) (length_push line 10)

pub after_all : (line : List ℕ) → list_any is_newline line ≡ false → after_first is_newline line ≡ []
after_all line none = ap (λ n. drop (n + 1) line) (line_length_all line none)
    ∙ drop_all (length line + 1) line (omega arith)

pub is_more : (m n : ℕ) → m < n → nat_lt m n ≡ true
is_more m n h = grind (arith, nat_tests)

pub is_not_more : (m n : ℕ) → n ≤ m → nat_lt m n ≡ false
is_not_more m n h = grind (arith, nat_tests)
