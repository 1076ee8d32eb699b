use Rattle.kn_watch.specs.Raising.{room}
use Rattle.kn_watch.proofs.RaisedLevels.{IsRaising}
use Rattle.kn_watch.proofs.raising.raise_all.Given as goal

abbrev pub invariant-loop : goal.invariant-loop
invariant-loop g l = IsRaising l.system l.affected l.fn.levels l.levels l.fn.steps l.steps

abbrev pub decreases-loop : goal.decreases-loop
decreases-loop g l = room l.system l.affected l.levels
