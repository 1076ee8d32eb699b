use Rattle.kn_serve.proofs.CallingLaws.{state_with, private_few, call_done, call_refused}
use Rattle.kn_serve.proofs.calling.call.Goals as goal

pub apply-requires : goal.apply-requires
apply-requires g c =
    let old = c.args.connection.now in
    record { few = λ text is. private_few (state_with old.sessions old.is_admin) c.args.s c.requires.room }

pub returns-in-Ok : goal.returns-in-Ok
returns-in-Ok g c =
    let old = c.args.connection.now in
    record {
      forgotten = c.forget.ensures;
      exact = λ g'. call_done g' old.sessions c.apply.new.self old.is_admin _ _ _ _ _ c.in-Ok.applied
          c.in-Ok.ensures.ok c.print_applied.ensures.prints;
    }

pub returns-in-Err : goal.returns-in-Err
returns-in-Err g c =
    let old = c.args.connection.now in
    record {
      forgotten = c.forget.ensures;
      exact = λ g'. call_refused g' old.sessions c.apply.new.self old.is_admin _ _ _ _ _ c.in-Err.fault _
          c.in-Err.ensures.err c.refusal_of_call_fault.ensures c.print_refusal.ensures.prints;
    }
