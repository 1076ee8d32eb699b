use Rattle.kn_critical.specs.Searching.{AreUncritical, IsWhole}
use Rattle.kn_critical.proofs.CriticalSoFar.{AreFound}
use Rattle.kn_critical.proofs.search.critical_ids.Given as goal

abbrev pub invariant-loop-row : goal.invariant-loop-row
invariant-loop-row g l = record {
  whole : IsWhole l.question.query.now l.question.list.now l.base;
  cleared : AreUncritical l.question.query.now l.question.list.now l.row l.gallop.cleared;
  found : AreFound l.question.query.now l.question.list.now l.row l.ids;
}
