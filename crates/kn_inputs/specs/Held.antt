-- What files hold.
use Rattle.std.specs.Prelude.{ℕ, ◌≡◌, ◌<◌, ◌≤◌, List, [], ◌∷◌, length, Option, Some, None, IfSome, IsSomeAnd}
use Rattle.kn_base.specs.declared.limits.TheConstants.{FILE_BYTES}
use Rattle.kn_outside.specs.Seen.{FilesSeen}
use Rattle.kn_outside.specs.Asked.{HasAsked}
use Rattle.kn_files.specs.Pieces.{pieces_of}
use Rattle.kn_history.specs.Loading.{IsLoadable}
use Rattle.kn_auth.specs.KeyFiles.{IsKeyFile}
use Rattle.kn_auth.specs.declared.key_file.KeyFile.{KeyFile}

-- these bytes were read from the file of this name: its content, if contents are seen, and not too large
pub record HasContent (files : FilesSeen) (name bytes : List ℕ) : Type 0 where
  pub content : IfSome files.content (λ content_of. content_of name ≡ Some bytes)
  pub within : length bytes ≤ FILE_BYTES

-- the file of this name is larger than any that is read, if contents are seen
abbrev pub IsTooLarge : FilesSeen → List ℕ → Type 0
IsTooLarge files name =
    IfSome files.content (λ content_of. IsSomeAnd (content_of name) (λ bytes. FILE_BYTES < length bytes))

-- a policy file whose assertions make a history
pub record IsPolicy (files : FilesSeen) (name bytes : List ℕ) : Type 0 where
  pub content : HasContent files name bytes
  pub loadable : IsLoadable (pieces_of bytes)

-- what is known where no key file is named: no key, no digest, and an empty secret
abbrev pub no_keys : KeyFile
no_keys = record { auth = record { keys = []; digests = [] }; secret = [] }

-- the keys are those of the key file, where one is named
abbrev pub AreKeys : FilesSeen → Option (List ℕ) → KeyFile → Type 0
AreKeys files None keys = keys ≡ no_keys
AreKeys files (Some name) keys = (text : List ℕ) × HasContent files name text × IsKeyFile text keys

-- the file of this name was asked for, and holds these bytes
pub record IsFileRead (name : List ℕ) (f f' : FilesSeen) (bytes : List ℕ) : Type 0 where
  pub asked : HasAsked (name ∷ []) f f'
  pub content : HasContent f name bytes
