-- What `gen` tells (keynoted's own).
use Rattle.std.specs.Prelude.{ℕ, ◌≡◌, List, slice_get, Some}
use Rattle.kn_generate.specs.declared.query.Measured.{Measured}
use Rattle.kn_generate.specs.Generated.{generated_query, generated_values}
use Rattle.kn_generate.specs.Measured.{IsMeasured}
use Rattle.kn_endings.specs.GenLine.{gen_line}
use Rattle.kn_words.specs.declared.gen_words.GenNumbers.{GenNumbers}

-- The line is that of what was measured of the query that these numbers give: the level is the policy's in the least
-- fixed point over the generated credentials, and the name is that level's.
pub record IsGenLine (numbers : GenNumbers) (line : List ℕ) : Type 0 where
  pub measured : Measured
  pub is_measured : IsMeasured (generated_query numbers.start numbers.count) measured
  pub name : List ℕ
  pub named : slice_get generated_values measured.level ≡ Some name
  pub exact : line ≡ gen_line numbers.count name measured
