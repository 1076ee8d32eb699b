-- The lines of a key file, and what each states by itself (keynoted's own format).
use Rattle.std.specs.Prelude.{ℕ, ◌≡◌, ◌≤◌, ◌==◌, ◌*◌, ◌%◌, Bool, true, List, [], ◌∷◌, ◌++◌, ◌⊎◌, length, codes, Ok}
use Rattle.std.specs.Prelude.{Option, MatchOption}
use Rattle.hex.specs.Hex.{decode_of, decode_sized}
use Rattle.kn_base.specs.declared.limits.TheConstants.{PRINCIPAL_BYTES}
use Rattle.kn_principal.specs.Principals.{normal_form}
use Rattle.kn_auth.specs.declared.entry.TheConstants.{KEY_BYTES}
use Rattle.kn_auth.specs.declared.entry.MacKey.{MacKey}
use Rattle.kn_auth.specs.declared.entry.Entry.{Entry}
use Rattle.kn_auth.specs.declared.entry.Entry.TheVariants.{Comment, Mac, Digest, Secret}

-- a line that states nothing is empty or begins with `#`
abbrev pub is_comment : List ℕ → Bool
is_comment [] = true
is_comment (byte ∷ bytes) = byte == 35

-- hexadecimal digits of either case that spell 1 to 128 bytes
pub record SpellsKey (digits key : List ℕ) : Type 0 where
  pub decoded : decode_of digits ≡ Ok key
  pub some : 1 ≤ length key
  pub few : length key ≤ KEY_BYTES

-- hexadecimal digits of either case that spell the 32 bytes of a SHA-256
abbrev pub SpellsDigest : List ℕ → List ℕ → Type 0
SpellsDigest digits digest = decode_sized digits 32 ≡ Ok digest

-- the normal form of a principal, which has 1 to 4,096 bytes as it is written
pub record NamesPrincipal (name principal : List ℕ) : Type 0 where
  pub some : 1 ≤ length name
  pub few : length name ≤ PRINCIPAL_BYTES
  pub normal : principal ≡ normal_form name

-- a key's digits, a space, and the principal, which is all that is left
pub record StatesKey (text : List ℕ) (mac : MacKey) : Type 0 where
  pub digits : List ℕ
  pub name : List ℕ
  pub spelled : text ≡ digits ++ 32 ∷ name
  pub key : SpellsKey digits mac.key
  pub principal : NamesPrincipal name mac.principal

-- the line states this
abbrev pub States : List ℕ → Entry → Type 0
States line Comment = is_comment line ≡ true
States line (Mac mac) = (text : List ℕ) × (line ≡ codes "mac " ++ text) × StatesKey text mac
States line (Digest digest) = (digits : List ℕ) × (line ≡ codes "digest " ++ digits) × SpellsDigest digits digest
States line (Secret secret) = (digits : List ℕ) × (line ≡ codes "secret " ++ digits) × SpellsKey digits secret

-- as many digits as a key may have
pub record HasKeySize (digits : List ℕ) : Type 0 where
  pub even : ¬ (length digits % 2 ≡ 1)
  pub some : 1 ≤ length digits
  pub few : length digits ≤ 2 * KEY_BYTES

-- they stand in front of a space
pub record BeginsWithKey (text : List ℕ) : Type 0 where
  pub digits : List ℕ
  pub name : List ℕ
  pub spelled : text ≡ digits ++ 32 ∷ name
  pub size : HasKeySize digits

-- the line begins with one of the three words
abbrev pub HasWord : List ℕ → Type 0
HasWord line = (rest : List ℕ)
    × ((line ≡ codes "mac " ++ rest) ⊎ ((line ≡ codes "digest " ++ rest) ⊎ (line ≡ codes "secret " ++ rest)))

-- the line is of no form
abbrev pub StatesNothing : List ℕ → Type 0
StatesNothing line = (entry : Entry) → ¬ States line entry

-- the line reads as this entry, or as none where it is of no form
abbrev pub ReadsAs : List ℕ → Option Entry → Type 0
ReadsAs line read = MatchOption read (StatesNothing line) (λ entry. States line entry)
