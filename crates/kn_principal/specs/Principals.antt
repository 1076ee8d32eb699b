-- Principals as bytes.
use Rattle.std.specs.Prelude.{ℕ, ◌+◌, ◌==◌, Bool, ◌&&◌, nat_le, nat_eq, List, ◌∷◌, ◌++◌, map, codes, if◌then◌else◌}
use Rattle.std.specs.List.{list_any, before_first, after_first, ends_with}

-- the local policy, the one authorizer that needs no signature (RFC 2704, section 4, the Authorizer field)
abbrev pub policy : List ℕ
policy = codes "POLICY"

-- an ASCII letter in lower case, and each other byte as it is
abbrev pub lower_case : ℕ → ℕ
lower_case b = if nat_le 65 b && nat_le b 90 then b + 32 else b

abbrev pub is_colon : ℕ → Bool
is_colon b = b == 58

-- what stands behind an algorithm in lower case: hexadecimal digits have no case
abbrev pub normal_rest : List ℕ → List ℕ → List ℕ
normal_rest algorithm rest = if ends_with nat_eq algorithm (codes "-hex") then map lower_case rest else rest

abbrev pub with_algorithm : List ℕ → List ℕ → List ℕ
with_algorithm algorithm rest = algorithm ++ 58 ∷ normal_rest algorithm rest

-- The form by which principals are compared (RFC 2704, section 5; which letters have no case is keynoted's own choice).
-- The part before the first colon is in lower case, and the rest too where that part then ends in `-hex`.
abbrev pub normal_form : List ℕ → List ℕ
normal_form text =
    if list_any is_colon text
    then with_algorithm (map lower_case (before_first is_colon text)) (after_first is_colon text)
    else text
