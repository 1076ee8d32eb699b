-- How deep the tokens of a field go. Both bounds are keynoted's own.
use Rattle.std.specs.Prelude.{◌≡◌, ℕ, ◌+◌, ◌-◌, ◌<◌, ◌⊎◌, ◌==◌, Bool, true, false, ◌&&◌, ◌||◌, List, [], ◌∷◌, ◌++◌, All}
use Rattle.std.specs.Prelude.{fold, length, codes, if◌then◌else◌}
use Rattle.std.specs.List.{filter}
use Rattle.std.specs.Str.{bytes_eq}
use Rattle.kn_base.specs.declared.limits.TheConstants.{OPEN_BRACKETS, PREFIX_SIGNS}
use Rattle.kn_lex.specs.Cutting.{TokenView}
use Rattle.kn_fields.specs.Constants.{is_sign_sort}

-- the token is this sign
abbrev pub is_sign : List ℕ → TokenView → Bool
is_sign text token = is_sign_sort token.sort && bytes_eq token.text text

-- the token is the sign of this byte alone
abbrev pub IsSignOfByte : ℕ → TokenView → Type 0
IsSignOfByte byte token = (other : ℕ) → is_sign (other ∷ []) token ≡ (byte == other)

-- the token is no sign of one byte
abbrev pub IsNoSignOfOneByte : TokenView → Type 0
IsNoSignOfOneByte token = (byte : ℕ) → is_sign (byte ∷ []) token ≡ false

abbrev pub is_opening : TokenView → Bool
is_opening token = is_sign (codes "(") token || is_sign (codes "{") token

abbrev pub is_closing : TokenView → Bool
is_closing token = is_sign (codes ")") token || is_sign (codes "}") token

abbrev pub is_prefix : TokenView → Bool
is_prefix token = is_sign (codes "!") token || is_sign (codes "-") token || is_sign (codes "@") token
    || is_sign (codes "$") token

-- the brackets that are open behind a token; a closing one lowers the count, not below 0
unfoldable pub depth_behind : ℕ → TokenView → ℕ
depth_behind depth token = if is_opening token then depth + 1 else if is_closing token then depth - 1 else depth

-- the prefix signs that stand in a row up to a token
unfoldable pub run_behind : ℕ → TokenView → ℕ
run_behind run token = if is_prefix token then run + 1 else 0

-- behind some of these tokens more brackets are open than may be, or more prefix signs stand in a row
pub record IsTooDeep (tokens : List TokenView) : Type 0 where
  pub front : List TokenView
  pub rest : List TokenView
  pub split : tokens ≡ front ++ rest
  pub deep : (OPEN_BRACKETS < fold depth_behind 0 front) ⊎ (PREFIX_SIGNS < fold run_behind 0 front)

-- some of these tokens in a row have so many opening brackets more than closing ones
pub record HasOpenBrackets (tokens : List TokenView) : Type 0 where
  pub before : List TokenView
  pub stretch : List TokenView
  pub behind : List TokenView
  pub split : tokens ≡ before ++ stretch ++ behind
  pub unclosed : length (filter is_closing stretch) + OPEN_BRACKETS < length (filter is_opening stretch)

-- more of these tokens in a row are prefix signs than may be
pub record HasPrefixRun (tokens : List TokenView) : Type 0 where
  pub before : List TokenView
  pub run : List TokenView
  pub behind : List TokenView
  pub split : tokens ≡ before ++ run ++ behind
  pub long : PREFIX_SIGNS < length run
  pub signs : All (λ token. is_prefix token ≡ true) run
