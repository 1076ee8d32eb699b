use Rattle.std.proofs.Common.{◌+◌, ◌<◌, ◌||◌, ℕ, Bool, List, length, take, cond, sym, ap, ◌∙◌, subst, arith}
use Rattle.kn_system.specs.Equations.{SystemEquations, row_at}
use Rattle.kn_settle.proofs.GateClimbs.{within-further, within-more}
use Rattle.kn_watch.specs.Affected.{affected_nodes, is_affected}
use Rattle.kn_watch.specs.Raising.{HasRisen}
use Rattle.kn_watch.proofs.RaisedLevels.{raised-next, risen-next}
use Rattle.kn_watch.proofs.AffectedSpread.{nodes-next}
use Rattle.kn_watch.proofs.raising.raise_each.Goals.{then-raise, else-raise}
use Rattle.kn_watch.proofs.raising.raise_each.Goals as goal

pub loop-row-preserved : goal.loop-row-preserved
loop-row-preserved g c =
    let s : SystemEquations = c.args.system.now in
    let affected : List Bool = c.args.affected.now in
    let k : ℕ = c.loop-row.row in
    let old : List ℕ = c.args.levels.now in
    let mid : List ℕ = c.loop-row.levels in
    let new : List ℕ = c.raise.new.levels in
    let within : k < length s.rows = omega (arith, c.loop-row-test.true, c.rows-row-end.ensures) in
    let next : HasRisen s affected (k + 1) old new (c.raise.result || c.loop-row.risen) =
    risen-next s affected k old mid new c.raise.result c.loop-row.risen c.requires.well_formed within
    c.loop-row.invariant.fit c.loop-row.invariant.risen c.raise.ensures.raise in
    let nodes = nodes-next affected s.rows k within in
    let before : ℕ = affected_nodes affected (take k s.rows) in
    let here : ℕ = cond (is_affected affected (row_at s.rows k).authorizer) (length (row_at s.rows k).formula) 0 in
    record {
      fit = c.raise.ensures.fit;
      risen =
          elim c.if-raise.branch [
            | then-raise w ↦ subst (HasRisen s affected (k + 1) old new)
                (ap (λ b. b || c.loop-row.risen) w.if-raise.true ∙ sym w.if-raise.true ∙ sym w.risen-is) next
            | else-raise w ↦ subst (HasRisen s affected (k + 1) old new)
                (ap (λ b. b || c.loop-row.risen) w.if-raise.false ∙ sym w.risen-is) next
          ];
      raised = λ start h. raised-next s affected start k mid new c.raise.result c.requires.well_formed within
          c.raise.ensures.fit c.raise.ensures.raise (c.loop-row.invariant.raised start h);
      ticks = within-more (before + here) (affected_nodes affected (take (k + 1) s.rows)) c.args.steps.now
          c.raise.new.steps (omega (arith, nodes))
          (within-further before here c.args.steps.now c.loop-row.steps c.raise.new.steps c.loop-row.invariant.ticks
          c.raise.ensures.ticks);
    }
