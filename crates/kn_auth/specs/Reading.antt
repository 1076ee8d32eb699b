-- What one line more changes of what a key file's lines say so far.
use Rattle.std.specs.Prelude.{ℕ, ◌≡◌, Bool, List, [], ◌∷◌, ◌++◌, Option, Some, None, if◌then◌else◌}
use Rattle.std.specs.Bool.{MatchBool}
use Rattle.kn_auth.specs.KeyLines.{States}
use Rattle.kn_auth.specs.Verdicts.{has_key}
use Rattle.kn_auth.specs.declared.entry.Entry.{Entry}
use Rattle.kn_auth.specs.declared.entry.Entry.TheVariants.{Comment, Mac, Digest, Secret}
use Rattle.kn_auth.specs.declared.key_file.KeyFile.{KeyFile}

abbrev pub with_secret : KeyFile → List ℕ → List ℕ → Option KeyFile
with_secret file [] secret = Some (record file { secret = secret })
with_secret file (byte ∷ bytes) secret = None

-- the file with an entry more, where it may stand behind those before
abbrev pub with_entry : KeyFile → Entry → Option KeyFile
with_entry file Comment = Some file
with_entry file (Mac mac) =
    if has_key mac.principal file.auth.keys
    then None
    else Some (record file { auth = record file.auth { keys = file.auth.keys ++ mac ∷ [] } })
with_entry file (Digest digest) =
    Some (record file { auth = record file.auth { digests = file.auth.digests ++ digest ∷ [] } })
with_entry file (Secret secret) = with_secret file file.secret secret

-- the file with an entry more is this, or the entry may not stand behind those before
abbrev pub IsAdded : KeyFile → Entry → Bool → KeyFile → Type 0
IsAdded old entry added new = MatchBool added (with_entry old entry ≡ Some new) (with_entry old entry ≡ None)

-- the line states an entry with which this is the file
pub record IsTaken (old : KeyFile) (line : List ℕ) (new : KeyFile) : Type 0 where
  pub entry : Entry
  pub stated : States line entry
  pub added : with_entry old entry ≡ Some new

-- no entry that the line states may stand behind those before
abbrev pub IsLineRefused : KeyFile → List ℕ → Type 0
IsLineRefused old line = (entry : Entry) → States line entry → with_entry old entry ≡ None
