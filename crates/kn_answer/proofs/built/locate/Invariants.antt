use Rattle.std.proofs.Common.{take}
use Rattle.kn_answer.specs.Located.{AreLocated}
use Rattle.kn_answer.proofs.built.locate.Given as goal

abbrev pub invariant-loop-row : goal.invariant-loop-row
invariant-loop-row l = AreLocated l.built (take l.row-index l.reply.rows) l.rows
