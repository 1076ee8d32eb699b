use Rattle.std.proofs.Common.{List, length, ap, ◌∙◌}
use Rattle.kn_history.specs.declared.update.Update.{Update}
use Rattle.kn_session.specs.Views.{session_of_view}
use Rattle.kn_daemon.specs.Shapes.{WithProof}
use Rattle.kn_serve.specs.Handling.{state_of}
use Rattle.kn_serve.proofs.KeptLaws.{kept-after, kept-of_earlier}
use Rattle.kn_serve.proofs.LastLaws.{last-found}
use Rattle.kn_serve.proofs.QueryingLaws.{question_refused, query_answered}
use Rattle.kn_serve.proofs.querying.query.Goals as goal

pub returns-in-Some-clause-exact : goal.returns-in-Some-clause-exact
returns-in-Some-clause-exact g c = λ g'.
    let is = c.in-Some.ensures in
    query_answered g' _ (state_of c.args.connection.now) c.args.s c.args.names.now _ _ is.session c.in-Some.values.now
    is.found is.named c.in-Some.version c.in-Some.answer.now is.right is.at c.tell_answer.ensures.prints

pub returns-in-Err-clause-exact : goal.returns-in-Err-clause-exact
returns-in-Err-clause-exact g c = λ g'.
    question_refused g' WithProof _ (state_of c.args.connection.now) c.args.s c.args.names.now _ _ _
    c.in-Err.ensures.refused c.print_refusal.ensures.prints

pub answer_query-requires-clause-of_history : goal.answer_query-requires-clause-of_history
answer_query-requires-clause-of_history g c =
    let all = c.requires.one_history in
    let session = session_of_view c.in-Ok.asked.0 in
    kept-of_earlier session.pinned all.history c.args.kept.now (all.pinned c.args.s session c.in-Ok.ensures.session).pin
    all.bases

pub returns-in-Err-answer_query-clause-stays : goal.returns-in-Err-answer_query-clause-stays
returns-in-Err-answer_query-clause-stays g c = λ history pinned is.
    kept-after (session_of_view c.in-Ok.asked.0).pinned history _ _
    (pinned c.args.s (session_of_view c.in-Ok.asked.0) c.in-Ok.ensures.session).pin c.answer_query.ensures.of_version is

pub returns-clause-stays : goal.returns-clause-stays
returns-clause-stays g c = λ history pinned is.
    kept-after (session_of_view c.in-Ok.asked.0).pinned history _ _
    (pinned c.args.s (session_of_view c.in-Ok.asked.0) c.in-Ok.ensures.session).pin c.answer_query.ensures.of_version is

pub returns-clause-last : goal.returns-clause-last
returns-clause-last g c = λ history pinned before.
    last-found (state_of c.args.connection.now) c.keep.new.self c.args.s _ (session_of_view c.in-Ok.asked.0)
    c.in-Ok.asked.1 c.in-Ok-answer_query.answer c.in-Ok.ensures.session
    (c.number-version.ensures.number ∙ ap (λ (x : List Update). length x) c.deref.ensures)
    (record {
      proof = c.in-Ok-answer_query.ensures.proof;
      least = c.in-Ok-answer_query.ensures.least;
      below = c.in-Ok-answer_query.ensures.below;
    }) c.keep.ensures history pinned

pub returns-clause-exact : goal.returns-clause-exact
returns-clause-exact g c = λ g'.
    query_answered g' _ (state_of c.args.connection.now) c.args.s c.args.names.now _ _
    (session_of_view c.in-Ok.asked.0) c.in-Ok.asked.1 c.in-Ok.ensures.session c.in-Ok.ensures.named _
    c.in-Ok-answer_query.answer
    (record {
      proof = c.in-Ok-answer_query.ensures.proof;
      least = c.in-Ok-answer_query.ensures.least;
      below = c.in-Ok-answer_query.ensures.below;
    }) (c.number-version.ensures.number ∙ ap (λ (x : List Update). length x) c.deref.ensures)
    c.tell_answer-written.ensures.prints
