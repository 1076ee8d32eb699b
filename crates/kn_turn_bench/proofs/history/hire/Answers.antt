use Rattle.std.proofs.Common.{◌≢◌, ◌∙◌, All, arith, ap, sym, subst}
use Rattle.std.proofs.lemmas.List.Elements.{All-push}
use Rattle.kn_registry.specs.Passes.{IsReady}
use Rattle.kn_turn_bench.specs.declared.worker.Worker.{Worker}
use Rattle.kn_turn_bench.proofs.history.hire.Goals as goal

-- src/history.rt:83:5
pub loop-preserved : goal.loop-preserved
loop-preserved c =
    let CanWork : Worker → Type 0 = λ w. IsReady c.args.registry.now w.pass × (w.pass.number ≢ 0) in
    let number = ap (λ p. p.number) c.in-Ok.ensures.new in
    let all = All-push CanWork c.loop.workers.items _ c.loop.invariant.3 (
      c.in-Ok.ensures.new_ready,
      λ zero. omega (arith, number, zero),
    ) in (
      c.in-Ok.ensures.ready,
      ap (λ p. p.number) c.in-Ok.ensures.root ∙ c.loop.invariant.1,
      (let splits = ap (λ p. p.splits) c.in-Ok.ensures.root in omega (arith, splits, c.loop.invariant.2)),
      subst (All CanWork) (sym c.in-Ok-push.ensures.items) all,
    )
