use Rattle.std.proofs.Common.{◌∙◌}
use Rattle.kn_play.proofs.applying.set_hex.Goals as goal

pub returns : goal.returns
returns c = λ history. rw (← (c.as_slice-value.ensures ∙ c.in_ok-bytes.ensures)) (c.apply_call.ensures history)
