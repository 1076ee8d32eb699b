-- A search for the first byte of a kind, and what is counted up to it.
use Rattle.std.proofs.Common.{◌≡◌, ℕ, true, zero, suc, Bool, List, [], ◌∷◌, Option, Some, None, length, take, drop}
use Rattle.std.proofs.Common.{arith, refl}
use Rattle.std.specs.Prelude.{not, if◌then◌else◌, ◌==◌}
use Rattle.std.specs.List.{prefix_len}
use Rattle.std.proofs.lemmas.Bool.Decides.{nat_tests}
use Rattle.std.proofs.lemmas.List.Sums.{prefix_len_is}
use Rattle.memchr.specs.Find.{IsFirstByte, is_byte}
use Rattle.kn_lex.specs.Scanning.{zero_place}

fails : (b : Bool) → (b ≡ true → ⊥) → not b ≡ true
fails b n = grind arith

-- the place that a search gave, or the end
abbrev pub End : List ℕ → Option ℕ → ℕ
End bytes None = length bytes
End bytes (Some k) = k

-- the bytes before the first one of a kind
pub run_by_first : (test : ℕ → Bool) (bytes : List ℕ) (r : Option ℕ) → IsFirstByte test bytes r
    → prefix_len (λ byte. not (test byte)) bytes ≡ End bytes r
run_by_first test bytes None h =
    prefix_len_is _ bytes (length bytes) 0 (omega arith) (λ k within. fails _ (h k (omega arith) within))
    (λ over. absurd (omega arith))
run_by_first test bytes (Some k) h = grind (arith, prefix_len_is)

zero_by_run : (bytes : List ℕ)
    → zero_place bytes
    ≡ (if prefix_len (λ byte. not (byte == 0)) bytes
    == length bytes then None else Some (prefix_len (λ byte. not (byte == 0)) bytes))
unfolding zero_place
zero_by_run [] = refl
zero_by_run (c ∷ cs) = grind (arith, nat_tests, zero_by_run cs)

pub zero_by_first : (bytes : List ℕ) (r : Option ℕ) → IsFirstByte (is_byte 0) bytes r → zero_place bytes ≡ r
zero_by_first bytes r h = grind (arith, run_by_first, zero_by_run)

-- bytes without a 0 have none behind a place, and none before it

pub zero_dropped : (n : ℕ) (bytes : List ℕ) → zero_place bytes ≡ None → zero_place (drop n bytes) ≡ None
unfolding zero_place
zero_dropped zero bytes e = e
zero_dropped (suc n) [] e = refl
zero_dropped (suc n) (c ∷ cs) e = zero_dropped n cs (grind arith)

pub zero_taken : (n : ℕ) (bytes : List ℕ) → zero_place bytes ≡ None → zero_place (take n bytes) ≡ None
unfolding zero_place
zero_taken zero bytes e = refl
zero_taken (suc n) [] e = refl
zero_taken (suc n) (c ∷ cs) e = let rest = zero_taken n cs (grind arith) in grind arith
