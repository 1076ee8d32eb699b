use Rattle.std.proofs.Common.{ℕ, Bool, List, sym, subst}
use Rattle.kn_system.specs.Equations.{SystemEquations}
use Rattle.kn_watch.specs.declared.changed.Changed.{Changed}
use Rattle.kn_watch.specs.Affected.{AreAffected}
use Rattle.kn_watch.specs.Raising.{AreStarted, IsStart}
use Rattle.kn_watch.proofs.RefreshSteps.{found-ticks, refreshed-ticks}
use Rattle.kn_watch.proofs.StartLevels.{started}
use Rattle.kn_watch.proofs.refreshing.refresh.Goals as goal

pub returns-in_err-affected-clause-ticks : goal.returns-in_err-affected-clause-ticks
returns-in_err-affected-clause-ticks g c = λ affected are.
    found-ticks c.args.system.now affected c.args.steps.now c.affected_by.new.steps
    (c.affected_by.ensures.ticks affected are.changed_rows are.users)

pub returns-in_err-levels-clause-ticks : goal.returns-in_err-levels-clause-ticks
returns-in_err-levels-clause-ticks g c = λ affected are.
    found-ticks c.args.system.now affected c.args.steps.now c.affected_by.new.steps
    (c.affected_by.ensures.ticks affected are.changed_rows are.users)

pub raise_all-requires-clause-start : goal.raise_all-requires-clause-start
raise_all-requires-clause-start g c =
    let s : SystemEquations = c.args.system.now in
    let changed : List Changed = c.args.changed.now in
    let flags : List Bool = c.as_slice-affected.result.now in
    let levels : List ℕ = c.in_ok-levels.levels.items in
    let are : AreAffected s changed flags =
    subst (AreAffected s changed) (sym c.as_slice-affected.ensures.value) c.in_ok-affected.ensures.affected in
    let made : AreStarted s flags c.args.values.now levels =
    subst (λ vs. AreStarted s flags vs levels) c.as_slice.ensures c.in_ok-levels.ensures in
    subst (IsStart s flags) (sym c.deref_mut.ensures.value)
    (started s changed flags c.args.values.now levels c.levels-levels.ensures.well_formed are c.requires.before
    made)

pub returns-in_err-values-clause-ticks : goal.returns-in_err-values-clause-ticks
returns-in_err-values-clause-ticks g c = λ affected are.
    let s : SystemEquations = c.args.system.now in
    let changed : List Changed = c.args.changed.now in
    let found : AreAffected s changed c.as_slice-affected.result.now =
    subst (AreAffected s changed) (sym c.as_slice-affected.ensures.value) c.in_ok-affected.ensures.affected in
    refreshed-ticks s changed c.as_slice-affected.result.now affected c.args.steps.now c.affected_by.new.steps
    c.raise_all.new.steps found are
    (c.affected_by.ensures.ticks affected are.changed_rows are.users) c.raise_all.ensures.ticks

pub returns-clause-ticks : goal.returns-clause-ticks
returns-clause-ticks g c = λ affected are.
    let s : SystemEquations = c.args.system.now in
    let changed : List Changed = c.args.changed.now in
    let found : AreAffected s changed c.as_slice-affected.result.now =
    subst (AreAffected s changed) (sym c.as_slice-affected.ensures.value) c.in_ok-affected.ensures.affected in
    refreshed-ticks s changed c.as_slice-affected.result.now affected c.args.steps.now c.affected_by.new.steps
    c.raise_all.new.steps found are
    (c.affected_by.ensures.ticks affected are.changed_rows are.users) c.raise_all.ensures.ticks
