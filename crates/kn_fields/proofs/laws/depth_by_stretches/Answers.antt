use Rattle.kn_fields.proofs.Stretches.{deep_has_stretch, stretch_is_deep}
use Rattle.kn_fields.proofs.laws.depth_by_stretches.Goals as goal

pub returns : goal.returns
returns c tokens = (deep_has_stretch tokens, stretch_is_deep tokens)
