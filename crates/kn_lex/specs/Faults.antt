-- The lexical faults of a text, each with its place. The faults and their numbers are keynoted's own.
use Rattle.std.specs.Prelude.{◌≡◌, ℕ, ◌+◌, ◌<◌, ◌⊎◌, Bool, true, false, not, ◌&&◌, ◌||◌, ◌==◌, nat_le, List, [], ◌∷◌}
use Rattle.std.specs.Prelude.{take, drop, slice_get, Option, Some, None}
use Rattle.kn_base.specs.declared.limits.TheConstants.{WHOLE_NUMBER}
use Rattle.kn_base.specs.Decimal.{is_digit, digits_value}
use Rattle.kn_lex.specs.Bytes.{is_white}
use Rattle.kn_lex.specs.Spelling.{is_blank}
use Rattle.kn_lex.specs.Cutting.{start, IsLexeme, BeginsNone, Reaches, lexeme_bytes}
use Rattle.kn_lex.specs.declared.token.Sort.TheVariants.{Number as NumberSort}
use Rattle.kn_lex.specs.declared.lexeme.Lexeme.{Lexeme}
use Rattle.kn_lex.specs.declared.lexeme.Lexeme.TheVariants.{Token}
use Rattle.kn_lex.specs.declared.lexeme.Place.{Place}
use Rattle.kn_lex.specs.declared.lexeme.Context.{Context}
use Rattle.kn_lex.specs.declared.lexeme.Context.TheVariants.{LineStart}
use Rattle.kn_lex.specs.declared.fault.LexFault.{LexFault}
use Rattle.kn_lex.specs.declared.fault.LexFault.TheVariants.{NotText, BadString, BadToken, Float, Regex, Number, Blank}
use Rattle.kn_lex.specs.declared.fault.LexFault.TheVariants.{NoMemory}

-- what stands at the front of the bytes where no lexeme begins

-- byte 0, or a byte above 127
abbrev pub begins_foreign : List ℕ → Bool
begins_foreign [] = false
begins_foreign (byte ∷ bytes) = byte == 0 || nat_le 128 byte

abbrev pub begins_quote : List ℕ → Bool
begins_quote [] = false
begins_quote (byte ∷ bytes) = byte == 34

-- `&`, which no second one follows where no lexeme begins
abbrev pub begins_ampersand : List ℕ → Bool
begins_ampersand [] = false
begins_ampersand (byte ∷ bytes) = byte == 38

-- `~=`
abbrev pub begins_match : List ℕ → Bool
begins_match [] = false
begins_match (byte ∷ []) = false
begins_match (byte ∷ next ∷ bytes) = byte == 126 && next == 61

-- any other byte
abbrev pub begins_other : List ℕ → Bool
begins_other [] = false
begins_other (byte ∷ bytes) =
    not (begins_foreign (byte ∷ bytes) || begins_quote (byte ∷ bytes) || begins_ampersand (byte ∷ bytes)
    || begins_match (byte ∷ bytes))

-- `.` and a digit
abbrev pub begins_fraction : List ℕ → Bool
begins_fraction [] = false
begins_fraction (byte ∷ []) = false
begins_fraction (byte ∷ next ∷ bytes) = byte == 46 && is_digit next

-- whether a byte stands there that is neither white space nor in a comment; `commented` tells that the
-- first one is in a comment
abbrev pub goes_on : Bool → List ℕ → Bool
goes_on commented [] = false
goes_on true (byte ∷ bytes) = goes_on (not (byte == 10)) bytes
goes_on false (byte ∷ bytes) = not (is_white byte || byte == 35) || goes_on (byte == 35) bytes

-- a lexeme begins here whose byte k is byte 0
pub record HoldsZero (context : Context) (left : List ℕ) (k : ℕ) : Type 0 where
  pub lexeme : Lexeme
  pub n : ℕ
  pub cut : IsLexeme context left lexeme n
  pub here : slice_get (take n left) k ≡ Some 0

-- a run of digits begins here, and what follows it is this
pub record HasNumber (context : Context) (left : List ℕ) (Is : List ℕ → List ℕ → Type 0) : Type 0 where
  pub n : ℕ
  pub cut : IsLexeme context left (Token NumberSort) n
  pub shown : Is (take n left) (drop n left)

-- what is left at a place has this fault there, or in the lexeme that begins there
abbrev pub Shows : Place → ℕ → List ℕ → LexFault → Type 0
Shows place at left (NotText p) =
    ((k : ℕ) × (p ≡ at + k) × HoldsZero place.context left k)
    ⊎ ((p ≡ at) × BeginsNone place.context left × (begins_foreign left ≡ true))
Shows place at left (BadString p) = (p ≡ at) × BeginsNone place.context left × (begins_quote left ≡ true)
Shows place at left (BadToken p) = (p ≡ at) × BeginsNone place.context left × (begins_other left ≡ true)
Shows place at left (Float p) =
    (p ≡ at)
    × ((BeginsNone place.context left × (begins_ampersand left ≡ true))
    ⊎ HasNumber place.context left (λ digits rest. begins_fraction rest ≡ true))
Shows place at left (Regex p) = (p ≡ at) × BeginsNone place.context left × (begins_match left ≡ true)
Shows place at left (Number p) =
    (p ≡ at)
    × HasNumber place.context left (λ digits rest. (begins_fraction rest ≡ false)
    × (WHOLE_NUMBER < digits_value digits))
Shows place at left (Blank p) =
    (p ≡ at) × (place.context ≡ LineStart) × (place.has_token ≡ true) × (is_blank left ≡ true)
    × (goes_on false left ≡ true)
Shows place at left NoMemory = ⊥

-- the text has this fault: lexemes reach a place that shows it
pub record HasFault (text : List ℕ) (fault : LexFault) : Type 0 where
  pub lexemes : List (Lexeme × ℕ)
  pub place : Place
  pub left : List ℕ
  pub reached : Reaches start text lexemes place left
  pub shown : Shows place (lexeme_bytes lexemes) left fault

abbrev pub IsFaultless : List ℕ → Type 0
IsFaultless text = (fault : LexFault) → HasFault text fault → ⊥

-- the place of a fault
abbrev pub fault_place : LexFault → ℕ
fault_place (NotText p) = p
fault_place (BadString p) = p
fault_place (BadToken p) = p
fault_place (Float p) = p
fault_place (Regex p) = p
fault_place (Number p) = p
fault_place (Blank p) = p
fault_place NoMemory = 0

-- the text has this fault, and any other one at a greater place
pub record IsFirstLexicalFault (text : List ℕ) (fault : LexFault) : Type 0 where
  pub has : HasFault text fault
  pub least : (other : LexFault) → HasFault text other → (fault_place fault < fault_place other) ⊎ (fault ≡ other)

-- the number of a fault
abbrev pub fault_number : LexFault → Option ℕ
fault_number (NotText p) = Some 1
fault_number (BadString p) = Some 2
fault_number (BadToken p) = Some 3
fault_number (Float p) = Some 4
fault_number (Regex p) = Some 5
fault_number (Number p) = Some 6
fault_number (Blank p) = Some 7
fault_number NoMemory = None
