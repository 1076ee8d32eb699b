-- The quoted bytes of a principal (keynoted's own line protocol).
use Rattle.std.specs.Prelude.{ℕ, ◌≡◌, ◌≢◌, ◌⊎◌, ◌+◌, ◌/◌, ◌%◌, ◌<◌, ◌≤◌, List, [], ◌∷◌, ◌++◌, flat_map}
use Rattle.kn_proof.specs.Texts.{quoted_byte}
use Rattle.kn_proof.specs.Lines.{AreBytes}

-- no quoted byte stands there
abbrev pub HasNoByte : List ℕ → Type 0
HasNoByte text = (byte : ℕ) (rest : List ℕ) → byte < 256 → text ≢ quoted_byte byte ++ rest

-- quoted bytes stand there, and this behind them
pub record IsQuotedTo (text rest : List ℕ) : Type 0 where
  pub principal : List ℕ
  pub spelled : text ≡ flat_map quoted_byte principal ++ rest
  pub bytes : AreBytes principal

-- a byte that stands for itself
pub record IsPlain (byte : ℕ) : Type 0 where
  pub low : 32 ≤ byte
  pub high : byte ≤ 126
  pub no_quote : byte ≢ 34
  pub no_backslash : byte ≢ 92

-- a byte that is quoted by its octal digits
abbrev pub IsUnprinted : ℕ → Type 0
IsUnprinted byte = (byte < 32) ⊎ (126 < byte)

-- the three octal digits of a byte
abbrev pub octal_digits : ℕ → List ℕ
octal_digits byte = (48 + byte / 64) ∷ (48 + byte / 8 % 8) ∷ (48 + byte % 8) ∷ []

pub record AreOctal (byte high middle low : ℕ) : Type 0 where
  pub is_high : high ≡ 48 + byte / 64
  pub is_middle : middle ≡ 48 + byte / 8 % 8
  pub is_low : low ≡ 48 + byte % 8
