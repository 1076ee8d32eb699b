use Rattle.kn_cond.proofs.Orders.{before_by}
use Rattle.kn_cond.proofs.texts.is_before.Goals as goal

pub returns : goal.returns
returns c = before_by c.args.left.now c.args.right.now c.lt.result c.lt.ensures
