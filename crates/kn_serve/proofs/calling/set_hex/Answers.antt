use Rattle.std.proofs.Common.{refl, ◌∙◌}
use Rattle.kn_wire.specs.Hex.{bytes_of_hex}
use Rattle.kn_daemon.specs.Shapes.{Calls}
use Rattle.kn_session.specs.Calls as C
use Rattle.kn_serve.specs.Handling.{state_of}
use Rattle.kn_serve.proofs.HandlingLaws.{told_memory}
use Rattle.kn_serve.proofs.calling.set_hex.Goals as goal

pub returns-in-Ok : goal.returns-in-Ok
returns-in-Ok g c = record {
  forgotten = c.call.ensures.forgotten;
  exact = λ g'. rw (← (c.as_slice-value.ensures ∙ c.in-Ok.ensures)) (c.call.ensures.exact g');
}

pub returns-in-Err : goal.returns-in-Err
returns-in-Err g c = record {
  forgotten = c.forget.ensures;
  exact = λ g'. told_memory g' (Calls c.args.s (C.Set c.args.name.now (bytes_of_hex c.args.digits.now))) _
      (state_of c.args.connection.now) _ _ refl c.print.ensures;
}
