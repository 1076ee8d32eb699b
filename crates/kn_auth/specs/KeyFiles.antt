-- What a key file reads as: its keys, its digests and its secret, or its first malformed line (keynoted's own format).
use Rattle.std.specs.Prelude.{ℕ, ◌≡◌, ◌≤◌, ◌+◌, List, [], ◌∷◌, ◌++◌, length, map, filter_map, Option, Some, None}
use Rattle.std.specs.List.{AllZip, IsDistinct, concat}
use Rattle.std.specs.Str.{bytes_eq}
use Rattle.std.specs.Str.Lines.{lines}
use Rattle.kn_auth.specs.KeyLines.{States}
use Rattle.kn_auth.specs.declared.entry.MacKey.{MacKey}
use Rattle.kn_auth.specs.declared.entry.Entry.{Entry}
use Rattle.kn_auth.specs.declared.entry.Entry.TheVariants.{Mac, Digest, Secret}
use Rattle.kn_auth.specs.declared.key_file.KeyFile.{KeyFile}

abbrev pub key_in : Entry → Option MacKey
key_in (Mac mac) = Some mac
key_in entry = None

abbrev pub digest_in : Entry → Option (List ℕ)
digest_in (Digest digest) = Some digest
digest_in entry = None

abbrev pub secret_in : Entry → Option (List ℕ)
secret_in (Secret secret) = Some secret
secret_in entry = None

-- the keys that lines state, in their order
abbrev pub keys_in : List Entry → List MacKey
keys_in entries = filter_map key_in entries

abbrev pub principals_of : List MacKey → List (List ℕ)
principals_of keys = map (λ mac. mac.principal) keys

-- Each line states an entry. No principal has two keys, by normal forms, and there is one secret at most.
pub record AreWellFormed (texts : List (List ℕ)) (entries : List Entry) : Type 0 where
  pub stated : AllZip States texts entries
  pub one_key_each : IsDistinct bytes_eq (principals_of (keys_in entries))
  pub one_secret : length (filter_map secret_in entries) ≤ 1

-- the file has what these entries are; without a secret its secret is empty
pub record IsOfEntries (entries : List Entry) (file : KeyFile) : Type 0 where
  pub keys : file.auth.keys ≡ keys_in entries
  pub digests : file.auth.digests ≡ filter_map digest_in entries
  pub secret : file.secret ≡ concat (filter_map secret_in entries)

-- The text is a key file with these keys, digests and secret. A line ends with a newline or the end of the text, and
-- one carriage return before the newline isn't part of it.
pub record IsKeyFile (text : List ℕ) (file : KeyFile) : Type 0 where
  pub entries : List Entry
  pub well_formed : AreWellFormed (lines text) entries
  pub stated : IsOfEntries entries file

-- The line of this number, counted from 1, is the first malformed one: the lines before it are well formed, and with it
-- they aren't.
pub record IsFirstMalformed (text : List ℕ) (number : ℕ) : Type 0 where
  pub before : List (List ℕ)
  pub malformed : List ℕ
  pub behind : List (List ℕ)
  pub split : lines text ≡ before ++ malformed ∷ behind
  pub place : number ≡ length before + 1
  pub entries : List Entry
  pub well_formed : AreWellFormed before entries
  pub ill_formed : (more : List Entry) → ¬ AreWellFormed (before ++ malformed ∷ []) more
