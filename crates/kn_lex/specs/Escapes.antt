-- The table of escapes, row by row. The table is keynoted's own.
use Rattle.std.specs.Prelude.{◌≡◌, ◌≢◌, ℕ, ◌+◌, ◌*◌, ◌≤◌, true, false, ◌==◌, List, [], ◌∷◌, ◌++◌, codes}
use Rattle.std.specs.List.{list_all, list_any}
use Rattle.kn_lex.specs.Bytes.{is_white, is_octal_digit, begins_with}

-- the number of three octal digits
abbrev pub octal : ℕ → ℕ → ℕ → ℕ
octal high mid low = high * 64 + mid * 8 + low

-- three octal digits of value 1 to 255 stand in front
pub record BeginsOctal (bytes : List ℕ) : Type 0 where
  pub high : ℕ
  pub mid : ℕ
  pub low : ℕ
  pub rest : List ℕ
  pub digits : (high ≤ 7) × (mid ≤ 7) × (low ≤ 7)
  pub least : 1 ≤ octal high mid low
  pub most : octal high mid low ≤ 255
  pub here : bytes ≡ (48 + high) ∷ (48 + mid) ∷ (48 + low) ∷ rest

-- `0` and one digit 1 to 7 stand in front, which no octal digit follows
pub record BeginsLow (bytes : List ℕ) : Type 0 where
  pub digit : ℕ
  pub rest : List ℕ
  pub least : 1 ≤ digit
  pub most : digit ≤ 7
  pub alone : begins_with is_octal_digit rest ≡ false
  pub here : bytes ≡ 48 ∷ (48 + digit) ∷ rest

-- behind a backslash stands a character of no other row, and no carriage return
pub record BeginsOther (byte : ℕ) (rest : List ℕ) : Type 0 where
  pub letter : list_any (λ letter. byte == letter) (codes "nrtf") ≡ false
  pub newline : byte ≢ 10
  pub carriage_return : byte ≢ 13
  pub octal : BeginsOctal (byte ∷ rest) → ⊥
  pub low : BeginsLow (byte ∷ rest) → ⊥

-- The value of what stands between the quotes of a literal has these rows; 92 is the backslash.
pub record EscapeTable (value : List ℕ → List ℕ) : Type 0 where
  pub empty : value [] ≡ []
  -- a byte that is no backslash is itself
  pub plain : (byte : ℕ) (rest : List ℕ) → byte ≢ 92 → value (byte ∷ rest) ≡ byte ∷ value rest
  pub newline : (rest : List ℕ) → value (codes "\\n" ++ rest) ≡ 10 ∷ value rest
  pub carriage_return : (rest : List ℕ) → value (codes "\\r" ++ rest) ≡ 13 ∷ value rest
  pub tab : (rest : List ℕ) → value (codes "\\t" ++ rest) ≡ 9 ∷ value rest
  pub form_feed : (rest : List ℕ) → value (codes "\\f" ++ rest) ≡ 12 ∷ value rest
  -- a backslash and a newline give nothing, nor does the white space behind them up to the next other character
  pub joined : (white rest : List ℕ) → list_all is_white white ≡ true → begins_with is_white rest ≡ false
      → value (92 ∷ 10 ∷ white ++ rest) ≡ value rest
  -- so do a backslash, a carriage return and a newline
  pub returned : (white rest : List ℕ) → list_all is_white white ≡ true → begins_with is_white rest ≡ false
      → value (92 ∷ 13 ∷ 10 ∷ white ++ rest) ≡ value rest
  pub octal : (bytes : List ℕ) (o : BeginsOctal bytes) → value (92 ∷ bytes) ≡ octal o.high o.mid o.low ∷ value o.rest
  pub low : (bytes : List ℕ) (l : BeginsLow bytes) → value (92 ∷ bytes) ≡ l.digit ∷ value l.rest
  pub other : (byte : ℕ) (rest : List ℕ) → BeginsOther byte rest → value (92 ∷ byte ∷ rest) ≡ byte ∷ value rest
