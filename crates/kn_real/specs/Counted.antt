-- Adapters that tell of nothing but their faults (keynoted's own).
use Rattle.std.specs.Prelude.{ℕ, List, None}
use Rattle.kn_outside.specs.Seen.{FilesSeen, LinkSeen}

-- a link of which the count of failed calls alone is seen
pub record CountedLink : Type 0 where
  pub faults : ℕ

abbrev pub counted_link_seen : CountedLink → LinkSeen
counted_link_seen l = record { written = None; taken = None; left = None; faults = l.faults }

-- what is seen of files of which the names that were asked for and the count of failed reads alone are known
abbrev pub counted_files_seen : List (List ℕ) → ℕ → FilesSeen
counted_files_seen asked faults = record { content = None; asked = asked; faults = faults }
