-- Bytes by hexadecimal digits of either case (keynoted's own).
use Rattle.std.specs.Prelude.{ℕ, ◌≡◌, ◌≤◌, length, true, ⊤, ◌+◌, ◌-◌, ◌*◌, nat_le, List, [], ◌∷◌, if◌then◌else◌}
use Rattle.kn_base.specs.declared.limits.TheConstants.{ASSERTION_BYTES}
use Rattle.kn_wire.specs.Requests.{Request, Content, BlockOf, HexOf, Plain, FaultOf, content_of, is_hex}

-- the value of a digit
abbrev pub digit_value : ℕ → ℕ
digit_value digit = if nat_le 97 digit then digit - 87 else if nat_le 65 digit then digit - 55 else digit - 48

-- the bytes of an even number of digits, of each two the higher first
abbrev pub bytes_of_hex : List ℕ → List ℕ
bytes_of_hex [] = []
bytes_of_hex (digit ∷ []) = []
bytes_of_hex (high ∷ low ∷ digits) = (digit_value high * 16 + digit_value low) ∷ bytes_of_hex digits

-- the parts of a request are of their form: its digits are hexadecimal digits, an even number of them, and its block
-- isn't too long
abbrev pub IsFormedContent : Content → Type 0
IsFormedContent (BlockOf block) = length block ≤ ASSERTION_BYTES
IsFormedContent (HexOf digits) = is_hex digits ≡ true
IsFormedContent Plain = ⊤
IsFormedContent (FaultOf fault) = ⊤

abbrev pub IsWellFormed : Request → Type 0
IsWellFormed request = IsFormedContent (content_of request)
