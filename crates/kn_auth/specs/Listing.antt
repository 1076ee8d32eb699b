-- The set in which listed digests are found.
use Rattle.std.specs.Prelude.{◌≡◌, ℕ, List}
use Rattle.std.specs.HashSet.{HashSet, contains_by}
use Rattle.std.specs.List.{list_any}
use Rattle.std.specs.Str.{bytes_eq}

-- the set has these digests, and nothing else
abbrev pub HasDigests : {S : Type 0} → HashSet (List ℕ) S → List (List ℕ) → Type 0
HasDigests index digests = (digest : List ℕ) → contains_by (bytes_eq digest) index ≡ list_any (bytes_eq digest) digests
