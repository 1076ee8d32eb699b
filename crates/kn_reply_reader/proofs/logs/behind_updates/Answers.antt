use Rattle.std.proofs.Common.{Some, None}
use Rattle.kn_reply.specs.Logs.{update_text}
use Rattle.kn_reply_reader.specs.Fronts.{TextOf}
use Rattle.kn_reply_reader.specs.Texts.{IsReadUpdate}
use Rattle.kn_reply_reader.proofs.Fronts.{items_init, many_done, many_more, many_none}
use Rattle.kn_reply_reader.proofs.LogLaws.{update_apart}
use Rattle.kn_reply_reader.proofs.logs.behind_updates.Goals as goal

pub loop-init : goal.loop-init
loop-init c = λ found is. items_init IsReadUpdate update_text c.args.count c.args.left.now found is

pub returns-in_err-rest : goal.returns-in_err-rest
returns-in_err-rest c =
    rw c.from_residual.ensures
    (c.loop.invariant None
    (many_none (TextOf IsReadUpdate update_text) c.args.count c.loop.counter c.loop.rest.now c.loop-test.true
    c.in_err-rest.ensures))

pub loop-preserved : goal.loop-preserved
loop-preserved c = λ found next.
    c.loop.invariant found
    (many_more (TextOf IsReadUpdate update_text) c.args.count c.loop.counter c.loop.rest.now c.in_ok-rest.rest.now found
    update_apart c.loop-test.true c.in_ok-rest.ensures next)

pub returns : goal.returns
returns c = c.loop.invariant (Some c.loop.rest.now)
    (many_done (TextOf IsReadUpdate update_text) c.args.count c.loop.counter c.loop.rest.now c.loop-test.false)
