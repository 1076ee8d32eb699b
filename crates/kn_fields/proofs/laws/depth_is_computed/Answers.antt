use Rattle.std.proofs.Common.{sym}
use Rattle.kn_fields.proofs.DepthScan.{deep_shown, not_deep_shown}
use Rattle.kn_fields.proofs.laws.depth_is_computed.Goals as goal

pub returns-clause-deep : goal.returns-clause-deep
returns-clause-deep c tokens h = deep_shown tokens (sym h)

pub returns-clause-not_deep : goal.returns-clause-not_deep
returns-clause-not_deep c tokens h = not_deep_shown tokens (sym h)
