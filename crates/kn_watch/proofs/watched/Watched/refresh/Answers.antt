use Rattle.std.proofs.Common.{◌<◌, All, length, sym, ap, ◌∙◌, subst, arith}
use Rattle.kn_system.specs.Equations.{SystemEquations}
use Rattle.kn_system.specs.Least.{least_levels}
use Rattle.kn_watch.specs.declared.changed.Changed.{Changed}
use Rattle.kn_watch.specs.Changes.{system_before}
use Rattle.kn_watch.specs.Watched.{IsWatchedOf, WatchedLevels, former_system}
use Rattle.kn_watch.proofs.FormerLevels.{changes-before, changes-within, watched-now}
use Rattle.kn_watch.proofs.watched.Watched.refresh.Goals as goal

pub refresh-requires-clause-in_range : goal.refresh-requires-clause-in_range
refresh-requires-clause-in_range g c =
    let s : SystemEquations = c.args.system.now in
    subst (All (λ (change : Changed). change.row < length s.rows)) (sym c.in_ok-changed.ensures)
    (changes-within c.as_slice.result.now 0 (length s.rows) s.rows (omega arith))

pub refresh-requires-clause-before : goal.refresh-requires-clause-before
refresh-requires-clause-before g c =
    let s : SystemEquations = c.args.system.now in
    let of : IsWatchedOf (record { levels = c.self.inside.levels; ceilings = c.self.inside.ceilings }) s =
    subst (λ (w : WatchedLevels). IsWatchedOf w s) (sym c.self.view_is) c.requires.of in
    of.before ∙ ap least_levels (ap (λ cs. former_system cs s) (sym c.as_slice.ensures)
    ∙ sym (changes-before c.as_slice.result.now s) ∙ ap (system_before s) (sym c.in_ok-changed.ensures))

pub returns-clause-of : goal.returns-clause-of
returns-clause-of g c =
    watched-now c.refresh.new.values c.in_ok-ceilings.ceilings c.args.system.now c.in-Ok.ensures.least
    c.in_ok-ceilings.ensures
