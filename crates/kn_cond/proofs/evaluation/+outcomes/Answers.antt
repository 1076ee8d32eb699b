use Rattle.std.proofs.Common.{arith}
use Rattle.std.proofs.lemmas.Grind.{common_steps}
use Rattle.kn_trees.specs.Forms.{link}
use Rattle.kn_cond.proofs.ExprDepths.{drop_here}
use Rattle.kn_cond.proofs.JoinLaws.{or_right}
use Rattle.kn_cond.proofs.evaluation.+outcomes.Goals as goal

pub value_of_parts-loop-k-preserved : goal.value_of_parts-loop-k-preserved
value_of_parts-loop-k-preserved t c =
    let here = drop_here c.args.parts c.loop-k.k c.get.result c.get.ensures in
    record {
      value = grind (arith, common_steps);
      memory = grind (arith, common_steps, or_right);
    }

pub chain_of-loop-k-preserved : goal.chain_of-loop-k-preserved
chain_of-loop-k-preserved t c =
    let here = drop_here c.args.links c.loop-k.k (link c.get-sign.result.0 c.get-sign.result.1) c.get-sign.ensures in
    record {
      value = grind (arith, common_steps, c.in_ok-right.ensures.value, c.in_ok-left.ensures.value);
      memory = grind (arith, common_steps, or_right);
    }
