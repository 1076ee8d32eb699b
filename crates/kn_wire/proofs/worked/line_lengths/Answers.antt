use Rattle.std.proofs.Common.{◌∷◌, ◌++◌, length, arith}
use Rattle.std.proofs.lemmas.Grind.{common_steps}
use Rattle.kn_wire.proofs.LineLengths.{line_length_at, line_length_all, before_at, after_at, after_all, is_more}
use Rattle.kn_wire.proofs.LineLengths.{is_not_more}
use Rattle.kn_wire.proofs.worked.line_lengths.Goals as goal

pub returns-clause-long : goal.returns-clause-long
returns-clause-long c line rest none long =
    rw (after_at line rest none, line_length_at line rest none, is_more 8192 (length line) long)

pub returns-clause-long_underway : goal.returns-clause-long_underway
returns-clause-long_underway c line none long =
    rw (after_all line none, line_length_all line none, is_more 8192 (length line) long)

pub returns-clause-read : goal.returns-clause-read
returns-clause-read c line rest none short =
    rw (
      before_at line rest none,
      after_at line rest none,
      line_length_at line rest none,
      is_not_more 8192 (length line) short,
      is_more (length line) (length (line ++ 10 ∷ rest)) (grind (arith, common_steps)),
    )

pub returns-clause-underway : goal.returns-clause-underway
returns-clause-underway c line none short =
    rw (
      line_length_all line none,
      is_not_more 8192 (length line) short,
      is_not_more (length line) (length line) (omega arith),
    )
