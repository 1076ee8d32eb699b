use Rattle.kn_watch.proofs.FormerLevels.{watched-now}
use Rattle.kn_watch.proofs.watched.Watched.begin.Goals as goal

pub returns-clause-of : goal.returns-clause-of
returns-clause-of g c =
    watched-now c.in_ok-levels.levels c.in_ok-ceilings.ceilings c.args.system.now c.in_ok-levels.ensures.least
    c.in_ok-ceilings.ensures
