use Rattle.std.proofs.Common.{List, ap, sym, ◌∙◌, subst}
use Rattle.std.specs.List.{AllByRecursion}
use Rattle.kn_registry.specs.Passes.{PassSeen}
use Rattle.kn_workers.specs.Workers.{after_joins}
use Rattle.kn_workers.specs.Posts.{IsSplit}
use Rattle.kn_workers.proofs.HiringLaws.{joins_one_more, rest_holds}
use Rattle.kn_workers.proofs.hiring.join_all.Goals as goal

pub joins-preserved : goal.joins-preserved
joins-preserved c =
    let i = c.joins.invariant in
    let first = c.remove-pass.ensures in
    let rest = rest_holds _ _ _ first.item i.2 in (
      c.join.ensures.ready,
      ap (λ (x : PassSeen × List PassSeen). after_joins x.0 x.1) (λ j. (c.join.ensures.joined j, first.rest j))
          ∙ sym (joins_one_more _ _ _ first.item) ∙ i.1,
      subst (AllByRecursion (IsSplit c.args.reg.now)) (sym first.rest) rest.1,
    )

pub join-requires-clause-ready : goal.join-requires-clause-ready
join-requires-clause-ready c =
    let rest = rest_holds _ _ _ c.remove-pass.ensures.item c.joins.invariant.2 in
    (c.joins.invariant.0, rest.0.0)

pub join-requires-clause-split : goal.join-requires-clause-split
join-requires-clause-split c = (rest_holds _ _ _ c.remove-pass.ensures.item c.joins.invariant.2).0.1
