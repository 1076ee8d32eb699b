use Rattle.kn_session.specs.Views.{session_of_view}
use Rattle.kn_serve.specs.Handling.{state_of}
use Rattle.kn_serve.proofs.QueryingLaws.{question_unknown, question_faulty}
use Rattle.kn_serve.proofs.querying.read_question.Goals as goal

pub returns-in-Err-clause-refused : goal.returns-in-Err-clause-refused
returns-in-Err-clause-refused c =
    question_unknown (state_of c.args.connection.now) c.args.s c.args.names.now _ c.in-Err.ensures.fault

pub returns-in-Err-of-clause-refused : goal.returns-in-Err-of-clause-refused
returns-in-Err-of-clause-refused c =
    question_faulty (state_of c.args.connection.now) c.args.s c.args.names.now (session_of_view c.in-Ok.view)
    c.in-Err-of.fault _ c.in-Ok.ensures.session c.in-Err-of.ensures.fault c.refusal_of_values.ensures
