-- Accepting the connections of a listener (accept(2) of Linux).
use Rattle.std.specs.Prelude.{ℕ, ℤ, pos, negsuc, ◌==◌, Bool, true, false, List, [], ◌∷◌, Option, Some, None}
use Rattle.std.specs.List.{list_any}
use Rattle.kn_tcp.specs.declared.accepting.Again.{Again}
use Rattle.kn_tcp.specs.declared.accepting.Again.TheVariants.{AtOnce, Later, Never}

-- whether an error number is one of these
abbrev pub is_among : List ℕ → Option ℤ → Bool
is_among numbers None = false
is_among numbers (Some (pos n)) = list_any (λ m. n == m) numbers
is_among numbers (Some (negsuc n)) = false

-- whether no later call can succeed: EBADF, EFAULT, EINVAL, ENOTSOCK, EOPNOTSUPP
abbrev pub is_incurable : Option ℤ → Bool
is_incurable number = is_among (9 ∷ 14 ∷ 22 ∷ 88 ∷ 95 ∷ []) number

-- whether a call is made again
abbrev pub is_never : Again → Bool
is_never AtOnce = false
is_never Later = false
is_never Never = true
