-- When a fault of a key file may come.
use Rattle.std.specs.Prelude.{ℕ, ◌≡◌, List, ◌∷◌, ◌++◌}
use Rattle.std.specs.Str.Lines.{lines}
use Rattle.kn_auth.specs.KeyLines.{HasWord}
use Rattle.kn_auth.specs.KeyFiles.{AreWellFormed, IsFirstMalformed}
use Rattle.kn_auth.specs.declared.entry.Entry.{Entry}
use Rattle.kn_auth.specs.declared.fault.KeyFault.{KeyFault}
use Rattle.kn_auth.specs.declared.fault.KeyFault.TheVariants.{Line, NoMemory}

-- A line takes memory: it begins with a word, and the lines before it are well formed.
pub record TakesMemory (text : List ℕ) : Type 0 where
  pub before : List (List ℕ)
  pub line : List ℕ
  pub behind : List (List ℕ)
  pub split : lines text ≡ before ++ line ∷ behind
  pub entries : List Entry
  pub well_formed : AreWellFormed before entries
  pub word : HasWord line

-- the text has this fault; memory may run out where a line takes some
abbrev pub IsCause : List ℕ → KeyFault → Type 0
IsCause text (Line line) = IsFirstMalformed text line
IsCause text NoMemory = TakesMemory text
