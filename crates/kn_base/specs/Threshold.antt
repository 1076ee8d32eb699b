-- The greatest level that so many of some levels reach (RFC 2704, section 5; said by counting, which is keynoted's
-- own).
use Rattle.std.specs.Prelude.{ℕ, suc, zero, Bool, List, [], ◌∷◌, ◌+◌, nat_le, if◌then◌else◌}

-- the greatest number up to n that passes, and 0 where there is none
abbrev pub greatest : ℕ → (ℕ → Bool) → ℕ
greatest zero p = 0
greatest (suc n) p = if p (suc n) then suc n else greatest n p

-- how many of the levels reach v
abbrev pub reaching : ℕ → List ℕ → ℕ
reaching v [] = 0
reaching v (x ∷ xs) = (if nat_le v x then 1 else 0) + reaching v xs

-- whether at least k of the levels reach v
abbrev pub is_reached : ℕ → List ℕ → ℕ → Bool
is_reached k xs v = nat_le k (reaching v xs)

-- the greatest level that at least k of these reach, and 0 where there is none
abbrev pub threshold : ℕ → ℕ → List ℕ → ℕ
threshold top k xs = greatest top (is_reached k xs)
