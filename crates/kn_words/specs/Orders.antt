-- What a service is asked to do (keynoted's own).
use Rattle.std.specs.Prelude.{ℕ, List}
use Rattle.kn_words.specs.Names.{AskNames}

-- what a service is asked to do: the files that it is given by, its address, how many workers it has, and how many
-- connections they serve together
pub record Order : Type 0 where
  pub files : AskNames
  pub address : List ℕ
  pub workers : ℕ
  pub connections : ℕ
