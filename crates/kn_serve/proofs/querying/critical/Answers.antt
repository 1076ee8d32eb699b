use Rattle.kn_session.specs.Views.{session_of_view}
use Rattle.kn_daemon.specs.Shapes.{WithCritical}
use Rattle.kn_serve.specs.Handling.{state_of}
use Rattle.kn_serve.proofs.QueryingLaws.{question_refused, critical_answered, critical_refused}
use Rattle.kn_serve.proofs.querying.critical.Goals as goal

pub returns-in-Err : goal.returns-in-Err
returns-in-Err g c = record {
  exact = λ g'. question_refused g' WithCritical _ (state_of c.args.connection.now) c.args.s c.args.names.now _ _ _
      c.in-Err.ensures.refused c.print_refusal.ensures.prints;
}

pub returns-in-Ok-find_critical : goal.returns-in-Ok-find_critical
returns-in-Ok-find_critical g c = record {
  exact = λ g'. critical_answered g' _ (state_of c.args.connection.now) c.args.s c.args.names.now _ _
      (session_of_view c.in-Ok.asked.0) c.in-Ok.asked.1 c.in-Ok.ensures.session c.in-Ok.ensures.named _ _
      c.in-Ok-find_critical.ensures.least c.in-Ok-find_critical.ensures.critical
      c.in-Ok-find_critical.ensures.accepted c.print.ensures;
}

pub returns : goal.returns
returns g c = record {
  exact = λ g'. critical_refused g' _ (state_of c.args.connection.now) c.args.s c.args.names.now _ _
      (session_of_view c.in-Ok.asked.0) c.in-Ok.asked.1 c.in-Ok.ensures.session c.in-Ok.ensures.named
      c.in-Err-find_critical.fault _ c.in-Err-find_critical.ensures.fault c.refusal_of_critical.ensures
      c.print_refusal-in-Err-find_critical.ensures.prints;
}
