use Rattle.std.proofs.Common.{arith}
use Rattle.kn_query.proofs.shared_base.SharedBase.into_kept.Goals as goal

pub returns-then-is_small : goal.returns-then-is_small
returns-then-is_small c = λ version has. record {
  credentials = has;
  few_names = omega (arith, c.is_small.ensures.names c.if-is_small.true);
  few_nodes = omega (arith, c.is_small.ensures.nodes c.if-is_small.true);
}
