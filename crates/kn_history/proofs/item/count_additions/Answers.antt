use Rattle.std.proofs.Common.{rules, ◌≤◌, length, take_all, sym, ap, ◌∙◌}
use Rattle.std.specs.Prelude.{sum_by}
use Rattle.kn_history.proofs.Batches.{added_by, additions-numbered}
use Rattle.kn_history.proofs.item.count_additions.Goals as goal

pub returns : goal.returns
returns c = λ next.
    let all : length c.as_slice-all.result.now ≤ c.loop-i.i = search rules in
    c.loop-i.invariant.count
    ∙ ap (sum_by added_by) (take_all c.loop-i.i c.as_slice-all.result.now all ∙ c.as_slice-all.ensures)
    ∙ sym (additions-numbered next c.args.items.now)
