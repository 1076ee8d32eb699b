use Rattle.std.proofs.Common.{◌≡◌, ◌+◌, ◌*◌, true, map, drop}
use Rattle.std.specs.List.{list_any}
use Rattle.kn_trees.specs.Formulas.{greatest_of}
use Rattle.kn_trees.specs.Depths.{expr_depth}
use Rattle.kn_trees.proofs.ExprDepthLaws.{link_depths}
use Rattle.kn_cond.specs.Joining.{joins, link_joins}
use Rattle.kn_cond.specs.Meaning.{value_by, chain_of, links_of, meaning_of}
use Rattle.kn_cond.specs.Results.{meaning_of_outcome}
use Rattle.kn_cond.proofs.evaluation.+outcomes.Given as goal

-- twice the levels, so that the parts of an expression stand between it and each of them
abbrev pub decreases-outcome : goal.decreases-outcome
decreases-outcome l = 2 * expr_depth l.expr

abbrev pub decreases-value_of_parts : goal.decreases-value_of_parts
decreases-value_of_parts l = 1 + 2 * greatest_of (map expr_depth l.parts)

abbrev pub decreases-chain_of : goal.decreases-chain_of
decreases-chain_of l = 1 + 2 * greatest_of (link_depths l.links)

-- what is left decides
abbrev pub invariant-value_of_parts-loop-k : goal.invariant-value_of_parts-loop-k
invariant-value_of_parts-loop-k l = record {
  value : value_by l.decisive (map (meaning_of l.env) (drop l.k l.parts))
      ≡ value_by l.decisive (map (meaning_of l.env) l.parts);
  memory : list_any joins (drop l.k l.parts) ≡ true → list_any joins l.parts ≡ true;
}

abbrev pub invariant-chain_of-loop-k : goal.invariant-chain_of-loop-k
invariant-chain_of-loop-k l = record {
  value : chain_of (meaning_of_outcome l.left) (links_of l.env (drop l.k l.links))
      ≡ chain_of (meaning_of_outcome l.initial.left) (links_of l.env l.links);
  memory : list_any link_joins (drop l.k l.links) ≡ true → list_any link_joins l.links ≡ true;
}
