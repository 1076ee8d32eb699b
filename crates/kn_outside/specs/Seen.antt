-- What is seen of sinks, links and files.
use Rattle.std.specs.Prelude.{ℕ, List, Option}

-- what is seen of a link or of a sink: what was written to it, what was taken of its input and what is left of it, each
-- where it is specified, and how many calls failed; a sink that is no link tells nothing of an input
pub record LinkSeen : Type 0 where
  pub written : Option (List ℕ)
  pub taken : Option (List ℕ)
  pub left : Option (List ℕ)
  pub faults : ℕ

-- what is seen of files: the content of each name that is there, where it is specified, the names that were asked for,
-- and how many reads failed
pub record FilesSeen : Type 0 where
  pub content : Option (List ℕ → Option (List ℕ))
  pub asked : List (List ℕ)
  pub faults : ℕ
