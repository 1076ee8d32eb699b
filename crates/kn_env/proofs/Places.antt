-- The first place at which a test passes, counted on from any place.
use Rattle.std.proofs.Common.{◌≡◌, ℕ, suc, ◌+◌, ◌-◌, ◌<◌, ◌≤◌, Bool, true, false, cond, List, [], ◌∷◌, length, Option}
use Rattle.std.proofs.Common.{◌++◌, append-nil, Some, None, take, get_or, sym, ap, ◌∙◌, arith}
use Rattle.std.proofs.lemmas.List.{get_or_read}
use Rattle.std.specs.Str.{bytes_eq}
use Rattle.std.specs.List.{list_any, join_with_byte, position, position_from, range_with_len}
use Rattle.std.proofs.lemmas.Iterator.Adapters.{position_from-zero}
use Rattle.kn_env.specs.Values.{stood_before}

-- the first place from a on and below n
abbrev pub place_from : (ℕ → Bool) → ℕ → ℕ → Option ℕ
place_from p a n = position_from p a (range_with_len a (n - a))

pub place_first : (p : ℕ → Bool) (n : ℕ) → place_from p 0 n ≡ position p (range_with_len 0 n)
place_first p n = let e : n - 0 ≡ n = omega arith in ap (λ m. position_from p 0 (range_with_len 0 m)) e
    ∙ sym (position_from-zero p (range_with_len 0 n))

place_next : (p : ℕ → Bool) (a n : ℕ) → a < n → place_from p a n ≡ cond (p a) (Some a) (place_from p (a + 1) n)
place_next p a n within = let e : n - a ≡ suc (n - (a + 1)) = omega arith in
    ap (λ m. position_from p a (range_with_len a m)) e

pub place_here : (p : ℕ → Bool) (a n : ℕ) → a < n → p a ≡ true → place_from p a n ≡ Some a
place_here p a n within here = place_next p a n within ∙ ap (λ b. cond b (Some a) (place_from p (a + 1) n)) here

pub place_behind : (p : ℕ → Bool) (a n : ℕ) → a < n → p a ≡ false → place_from p (a + 1) n ≡ place_from p a n
place_behind p a n within here = sym (place_next p a n within ∙ ap (λ b. cond b (Some a) (place_from p (a + 1) n)) here)

pub place_nowhere : (p : ℕ → Bool) (a n : ℕ) → n ≤ a → place_from p a n ≡ None
place_nowhere p a n past = let e : n - a ≡ 0 = omega arith in ap (λ m. position_from p a (range_with_len a m)) e

-- what is asked of the name at a place
pub asked_at : (names : List (List ℕ)) (at : ℕ) (item name : List ℕ) (told : Bool) → at < length names
    → item ≡ get_or names at item → name ≡ item → told ≡ list_any (bytes_eq name) (take at names)
    → stood_before names at ≡ told
asked_at names at item name told within is same says =
    ap (λ n. list_any (bytes_eq n) (take at names)) (sym (same ∙ get_or_read names at item within is [])) ∙ sym says

-- texts, each behind this byte
abbrev pub each_behind : ℕ → List (List ℕ) → List ℕ
each_behind byte [] = []
each_behind byte (text ∷ texts) = (byte ∷ text) ++ each_behind byte texts

pub join_with_byte-each_behind : (byte : ℕ) (first : List ℕ) (texts : List (List ℕ))
    → first ++ each_behind byte texts ≡ join_with_byte byte (first ∷ texts)
join_with_byte-each_behind byte first [] = append-nil first
join_with_byte-each_behind byte first (text ∷ texts) =
    ap (λ rest. first ++ (byte ∷ rest)) (join_with_byte-each_behind byte text texts)
