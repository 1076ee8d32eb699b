use Rattle.std.proofs.Common.{length, ap, ◌∙◌}
use Rattle.std.specs.Arc.{arc_value}
use Rattle.kn_verify.proofs.NumberedReplies.{same_query}
use Rattle.kn_verify.proofs.verdict.is_reply_to.Goals as goal

pub returns : goal.returns
returns c = λ reply head.
    same_query c.number.result (length (arc_value c.args.view.now.snapshot.now)) c.args.values.now reply _ _ _
    c.tells.result (c.number.ensures.number ∙ ap length c.deref-version.ensures) head c.tells.ensures
