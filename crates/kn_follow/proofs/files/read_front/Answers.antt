use Rattle.std.proofs.Common.{subst, arith}
use Rattle.kn_follow.specs.declared.reply.ReadStop.{ReadStop}
use Rattle.kn_follow.specs.InCode.{reply_of, Stops}
use Rattle.kn_follow.specs.Reading.{reply_at}
use Rattle.kn_follow.proofs.Fronts.{front_is, front_stops}
use Rattle.kn_follow.proofs.Replies.{read_within, stop_within}
use Rattle.kn_follow.proofs.files.read_front.Goals as goal

pub overflow_sub-window : goal.overflow_sub-window
overflow_sub-window c =
    let within = read_within c.first_bytes-window.result.now (reply_of c.in-Ok.reply) c.in-Ok.behind.now
    c.in-Ok.ensures in
    omega (arith, within)

pub line_fault-requires-clause-rest : goal.line_fault-requires-clause-rest
line_fault-requires-clause-rest c =
    stop_within c.first_bytes-window.result.now c.in-Err-Departs.left.now
    (subst (λ (s : ReadStop). Stops s (reply_at c.first_bytes-window.result.now)) c.in-Err-Departs.field-0-is
    c.in-Err-Departs.ensures)

pub returns-in-Ok-clause-form : goal.returns-in-Ok-clause-form
returns-in-Ok-clause-form c =
    front_is c.args.bytes.now c.first_bytes-window.result.now (reply_of c.in-Ok.reply) c.in-Ok.behind.now _
    c.first_bytes-window.ensures.first c.in-Ok.ensures c.split_at.ensures.back

pub returns-in-Err-Departs-clause-fault : goal.returns-in-Err-Departs-clause-fault
returns-in-Err-Departs-clause-fault c =
    front_stops c.args.bytes.now c.first_bytes-window.result.now c.in-Err-Departs.left.now _ c.requires.some
    c.first_bytes-window.ensures.first
    (subst (λ (s : ReadStop). Stops s (reply_at c.first_bytes-window.result.now)) c.in-Err-Departs.field-0-is
    c.in-Err-Departs.ensures) c.line_fault.ensures
