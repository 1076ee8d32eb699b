use Rattle.std.proofs.Common.{◌<◌, List, length, refl, sym, ap, ◌∙◌, subst}
use Rattle.kn_history.specs.declared.update.Update.{Update}
use Rattle.kn_session.specs.Sessions.{StandingQuery}
use Rattle.kn_session.specs.Views.{session_of_view}
use Rattle.kn_daemon.specs.Shapes.{Asks, ToKeep}
use Rattle.kn_serve.specs.Handling.{state_of}
use Rattle.kn_serve.proofs.HandlingLaws.{told_memory}
use Rattle.kn_serve.proofs.KeptLaws.{kept-after, kept-of_earlier}
use Rattle.kn_serve.proofs.QueryingLaws.{question_refused}
use Rattle.kn_serve.proofs.WatchingLaws.{kept_is, kept_stands, watch_unkept, watch_answered}
use Rattle.kn_serve.proofs.KnownLaws.{kept_level}
use Rattle.kn_serve.proofs.watching.watch.Goals as goal

pub returns-in-Err : goal.returns-in-Err
returns-in-Err g c = record {
  forgotten = c.forget.ensures;
  stays = λ history pinned is. is;
  exact = λ g'. question_refused g' ToKeep _ (state_of c.args.connection.now) c.args.s c.args.names.now _ _ _
      c.in-Err.ensures.refused c.print_refusal.ensures.prints;
}

pub returns-in-Err-answer_query : goal.returns-in-Err-answer_query
returns-in-Err-answer_query g c = record {
  forgotten = c.forget.ensures;
  stays = λ history pinned is.
      kept-after (session_of_view c.in-Ok.asked.0).pinned history _ _
      (pinned c.args.s (session_of_view c.in-Ok.asked.0) c.in-Ok.ensures.session).pin c.answer_query.ensures.of_version
      is;
  exact = λ g'. told_memory g' (Asks ToKeep c.args.s c.args.names.now) _ (state_of c.args.connection.now) _ _ refl
      c.print.ensures;
}

pub returns-in-Err-watch : goal.returns-in-Err-watch
returns-in-Err-watch g c = record {
  forgotten = c.forget.ensures;
  stays = λ history pinned is.
      kept-after (session_of_view c.in-Ok.asked.0).pinned history _ _
      (pinned c.args.s (session_of_view c.in-Ok.asked.0) c.in-Ok.ensures.session).pin c.answer_query.ensures.of_version
      is;
  exact = λ g'. watch_unkept g' _ c.args.connection.now.sessions c.watch.new.self c.args.connection.now.is_admin
      c.args.s c.args.names.now _ _ c.in-Err-watch.ensures.err c.print-in-Err-watch.ensures;
}

pub tell_news-requires : goal.tell_news-requires
tell_news-requires g c =
    let values = c.in-Ok.asked.1 in
    let is = kept_is c.args.connection.now.sessions c.watch.new.self c.args.s (session_of_view c.in-Ok.asked.0) values
    c.in-Ok.ensures.session c.in-Ok-watch.ensures.ok _ c.in-Ok-standing.ensures.query in
    record {
      value = subst (λ (q : StandingQuery). c.in-Ok-answer_query.answer.value < length q.values) (sym is)
          c.in-Ok-answer_query.ensures.below;
    }

pub unreachable-requires : goal.unreachable-requires
unreachable-requires g c =
    kept_stands c.args.connection.now.sessions c.watch.new.self c.args.s (session_of_view c.in-Ok.asked.0)
    c.in-Ok.asked.1 c.in-Ok.ensures.session c.in-Ok-watch.ensures.ok _ c.in-Err-standing.ensures.fault

pub returns : goal.returns
returns g c =
    let a = c.args.connection.now.sessions in
    let b = c.watch.new.self in
    let session = session_of_view c.in-Ok.asked.0 in
    let there = c.in-Ok.ensures.session in
    let after = c.in-Ok-watch.ensures.ok in
    record {
      forgotten = c.forget.ensures;
      stays = λ history pinned is.
          kept-after (session_of_view c.in-Ok.asked.0).pinned history _ _
          (pinned c.args.s (session_of_view c.in-Ok.asked.0) c.in-Ok.ensures.session).pin
          c.answer_query.ensures.of_version is;
      exact = λ g'. watch_answered g' _ a b c.args.connection.now.is_admin c.args.s c.args.names.now _ _ session
          c.in-Ok.asked.1 _ _ _ there c.in-Ok.ensures.named c.in-Ok-answer_query.ensures.least
          (c.number-version.ensures.number ∙ ap (λ (x : List Update). length x) c.deref.ensures) after
          (kept_is a b c.args.s session c.in-Ok.asked.1 there after _ c.in-Ok-standing.ensures.query)
          c.tell_news.ensures.prints;
    }

pub answer_query-requires-clause-of_history : goal.answer_query-requires-clause-of_history
answer_query-requires-clause-of_history g c =
    let all = c.requires.one_history in
    let session = session_of_view c.in-Ok.asked.0 in
    kept-of_earlier session.pinned all.history c.args.kept.now (all.pinned c.args.s session c.in-Ok.ensures.session).pin
    all.is

pub watch-requires : goal.watch-requires
watch-requires g c = record {
  level = kept_level c.args.connection.now.sessions.sessions c.args.s (session_of_view c.in-Ok.asked.0)
      c.in-Ok.asked.1 _ c.in-Ok.ensures.session c.in-Ok-answer_query.ensures.least;
}
