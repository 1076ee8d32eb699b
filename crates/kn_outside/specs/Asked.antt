-- What reading files changes.
use Rattle.std.specs.Prelude.{ℕ, ◌≡◌, ◌<◌, List, [], ◌∷◌, ◌++◌, length, IfSome, IsSomeAnd, Some, Result, Ok, Err}
use Rattle.kn_base.specs.declared.limits.TheConstants.{FILE_BYTES}
use Rattle.kn_outside.specs.Faults.{Rose}
use Rattle.kn_outside.specs.Seen.{FilesSeen}
use Rattle.kn_outside.specs.declared.files.FileFault.{FileFault}
use Rattle.kn_outside.specs.declared.files.FileFault.TheVariants.{Failed, TooLarge, NoMemory}

-- the file of this name has these bytes, where contents are specified
abbrev pub TellsContent : List ℕ → FilesSeen → List ℕ → Type 0
TellsContent name f bytes = IfSome f.content (λ content_of. content_of name ≡ Some bytes)

-- the file of this name has more than FILE_BYTES, where contents are specified
abbrev pub TellsTooLarge : List ℕ → FilesSeen → Type 0
TellsTooLarge name f = IfSome f.content (λ content_of. IsSomeAnd (content_of name) (λ bytes. FILE_BYTES < length bytes))

-- files of these names were asked for, and nothing else changed
abbrev pub HasAsked : List (List ℕ) → FilesSeen → FilesSeen → Type 0
HasAsked names f f' = f' ≡ record f { asked = f.asked ++ names }

-- files of these names were asked for, the last of which couldn't be read, and nothing else changed
pub record HasFailed (names : List (List ℕ)) (f f' : FilesSeen) : Type 0 where
  pub asked : f' ≡ record f { asked = f.asked ++ names; faults = f'.faults }
  pub rose : Rose f.faults f'.faults

-- what a read of this name changes where it gives this answer
abbrev pub Leaves : Result (List ℕ) FileFault → List ℕ → FilesSeen → FilesSeen → Type 0
Leaves (Ok bytes) name f f' = HasAsked (name ∷ []) f f'
Leaves (Err Failed) name f f' = HasFailed (name ∷ []) f f'
Leaves (Err TooLarge) name f f' = HasAsked (name ∷ []) f f'
Leaves (Err NoMemory) name f f' = f' ≡ f
