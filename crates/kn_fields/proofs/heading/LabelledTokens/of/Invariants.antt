use Rattle.std.proofs.Common.{◌-◌, length}
use Rattle.kn_fields.proofs.Headings.{IsSeen}
use Rattle.kn_fields.proofs.heading.LabelledTokens.of.Given as goal

abbrev pub invariant-loop-label : goal.invariant-loop-label
invariant-loop-label l = IsSeen l.fn.tokens l.label l.headings.items l.has_stray

abbrev pub decreases-loop-label : goal.decreases-loop-label
decreases-loop-label l = length l.fn.tokens - l.label
