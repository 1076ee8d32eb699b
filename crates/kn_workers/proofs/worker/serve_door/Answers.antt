use Rattle.std.proofs.Common.{Option, sym, subst, take, arith}
use Rattle.std.specs.Prelude.{IfSome}
use Rattle.kn_query.specs.declared.shared_base.SharedBase.{SharedBase}
use Rattle.kn_query.specs.SharedBases.{IsOfVersion}
use Rattle.kn_workers.proofs.WorkLaws.{works_nothing, works_more, works_until, works_closed, works_calmly, calm_nothing}
use Rattle.kn_workers.proofs.WorkLaws.{gave_less, gave_all, count_fits}
use Rattle.kn_workers.proofs.worker.serve_door.Goals as goal

pub connections-init : goal.connections-init
connections-init g c =
    let none = c.new-kept.ensures in
    let recent = subst (λ (o : Option SharedBase).
    IfSome o (λ shared. IsOfVersion (take shared.number c.args.pass.now.seen) shared)) (sym none.recent) tt in
    let other = subst (λ (o : Option SharedBase).
    IfSome o (λ shared. IsOfVersion (take shared.number c.args.pass.now.seen) shared)) (sym none.other) tt in
    (c.requires.ready, works_nothing _ _ _ _, calm_nothing _, (recent, other))

pub returns-in-Closed-clause-works : goal.returns-in-Closed-clause-works
returns-in-Closed-clause-works g c = works_closed _ _ _ _ _ _ _ _ c.connections.invariant.1 c.in-Closed.ensures.answer.1

pub returns-in-Closed-clause-failed : goal.returns-in-Closed-clause-failed
returns-in-Closed-clause-failed g c =
    gave_all _ _ _ c.in-Closed.ensures.answer.0 c.in-Closed.ensures.answer.1 c.connections.invariant.2

pub returns-in-Failed-clause-works : goal.returns-in-Failed-clause-works
returns-in-Failed-clause-works g c =
    works_until _ _ _ _ _ _ _ _ c.connections.invariant.1 c.in-Failed.ensures.answer.2 c.in-Failed.ensures.later

pub returns-in-Failed-clause-failed : goal.returns-in-Failed-clause-failed
returns-in-Failed-clause-failed g c =
    gave_less _ _ _ _ _ _ _ _ c.connections.invariant.1 c.in-Failed.ensures.answer.2 c.in-Failed.ensures.answer.0
    c.in-Failed.ensures.answer.1

pub overflow_add-finished : goal.overflow_add-finished
overflow_add-finished g c =
    let few = count_fits _ _ _ _ _ _ _ c.connections.invariant.1 c.in-Conn.ensures.answer.1 c.requires.quota in
    omega (arith, few)

pub connections-preserved : goal.connections-preserved
connections-preserved g c =
    let one = c.serve_link-served.ensures in (
      one.ready,
      works_more _ _ c.served_longer.ensures _ _ _ _ _ _ _ _ _ c.connections.invariant.1
          c.in-Conn.ensures.answer.2 c.finish.ensures one.connection one.from one.to one.moves one.ready.valid,
      works_calmly _ _ _ _ _ c.connections.invariant.2 c.in-Conn.ensures.answer.2 c.finish.ensures,
      one.of_history,
    )
