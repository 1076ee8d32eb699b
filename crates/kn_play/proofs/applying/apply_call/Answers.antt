use Rattle.std.proofs.Common.{◌∙◌, sym}
use Rattle.kn_session.specs.Calls.{call_of}
use Rattle.kn_play.proofs.CallRefusals.{accepted, refused}
use Rattle.kn_play.proofs.applying.apply_call.Goals as goal

pub apply-requires : goal.apply-requires
apply-requires c = record { few = λ text is. c.requires.room.made c.args.s }

pub returns-in-Ok : goal.returns-in-Ok
returns-in-Ok c = λ history. accepted history c.args.sessions.now c.apply.new.self c.args.s (call_of c.args.call)
    c.in-Ok.field-0 c.in-Ok.ensures.ok

pub returns-else-lacks_memory : goal.returns-else-lacks_memory
returns-else-lacks_memory c = λ history.
    refused history c.args.sessions.now c.apply.new.self c.args.s (call_of c.args.call) c.in-Err.fault
    c.in-Err.ensures.err (sym c.lacks_memory.ensures ∙ c.if-lacks_memory.false)
