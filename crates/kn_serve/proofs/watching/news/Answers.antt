use Rattle.std.proofs.Common.{List, length, ap, ◌∙◌}
use Rattle.std.specs.Arc.{arc_value}
use Rattle.kn_history.specs.declared.update.Update.{Update}
use Rattle.kn_session.specs.Views.{session_of_view}
use Rattle.kn_serve.specs.Handling.{state_of}
use Rattle.kn_serve.proofs.HandlingLaws.{told_handled}
use Rattle.kn_serve.proofs.KeptLaws.{kept-after, kept-of_earlier, kept-moved, newest-first}
use Rattle.kn_serve.proofs.WatchingLaws.{news_refused, news_unpinned, news_unanswered, news_answered}
use Rattle.kn_serve.proofs.KnownLaws.{moved_level, standing_first, earlier_level}
use Rattle.kn_serve.proofs.watching.news.Goals as goal

pub returns-in-Err-clause-handled : goal.returns-in-Err-clause-handled
returns-in-Err-clause-handled g c = λ g'. told_handled g' _ _ _ _ _ _ _
    (news_refused g' _ (state_of c.args.connection.now) _ _ _ c.in-Err.fault _ c.in-Err.ensures.fault
    c.refusal_of_session.ensures c.print_refusal.ensures.prints)

pub returns-in-Err-pin-clause-handled : goal.returns-in-Err-pin-clause-handled
returns-in-Err-pin-clause-handled g c = λ g'.
    news_unpinned g' _ _ _ _ _ _ c.in-Ok.query.now (state_of c.args.connection.now) c.in-Ok.ensures.query
    c.in-Err-pin.ensures.refused c.print.ensures

pub returns-in-Err-find_level-clause-handled : goal.returns-in-Err-find_level-clause-handled
returns-in-Err-find_level-clause-handled g c = λ g'.
    news_unanswered g' _ _ _ _ _ _ c.in-Ok.query.now (state_of c.args.connection.now) c.in-Ok.ensures.query
    c.in-Ok-pin.ensures.looked c.print-in-Err-find_level.ensures

pub returns-clause-handled : goal.returns-clause-handled
returns-clause-handled g c = λ g'.
    let a = c.args.connection.now.sessions in
    news_answered g' _ _ _ _ _ _ c.in-Ok.query.now a c.move_standing.new.self c.args.connection.now.is_admin
    (arc_value c.in-Ok-pin.snapshot) (session_of_view c.view_over-view.result) c.values.result.now _ _
    c.in-Ok.ensures.query c.in-Ok-pin.ensures.looked c.in-Ok-pin.ensures.version c.view_over-view.ensures.session
    c.values.ensures c.in-Ok-find_level.ensures.least
    (c.number.ensures.number ∙ ap (λ (x : List Update). length x) c.deref.ensures)
    c.in-Ok-move_standing.ensures.ok c.tell_news-written.ensures.prints

pub find_level-requires-clause-of_history : goal.find_level-requires-clause-of_history
find_level-requires-clause-of_history g c =
    let seen = c.pin.new.pass.seen in
    let asking = session_of_view c.view_over-view.result in
    kept-of_earlier asking.pinned seen c.args.kept.now
    (newest-first asking c.in-Ok.query.now _ seen c.view_over-view.ensures.session c.in-Ok-pin.ensures.version)
    (kept-moved _ _ _ _ _ _ c.in-Ok-pin.ensures.looked.moves c.requires.of_history)

pub returns-in-Err-pin-clause-of_history : goal.returns-in-Err-pin-clause-of_history
returns-in-Err-pin-clause-of_history g c =
    kept-moved _ _ _ _ _ _ c.in-Err-pin.ensures.refused.moves c.requires.of_history

pub returns-in-Err-find_level-clause-of_history : goal.returns-in-Err-find_level-clause-of_history
returns-in-Err-find_level-clause-of_history g c =
    let seen = c.pin.new.pass.seen in
    let asking = session_of_view c.view_over-view.result in
    kept-after asking.pinned seen c.args.kept.now _
    (newest-first asking c.in-Ok.query.now _ seen c.view_over-view.ensures.session c.in-Ok-pin.ensures.version)
    c.find_level.ensures.of_version
    (kept-moved _ _ _ _ _ _ c.in-Ok-pin.ensures.looked.moves c.requires.of_history)

pub returns-clause-of_history : goal.returns-clause-of_history
returns-clause-of_history g c =
    let seen = c.pin.new.pass.seen in
    let asking = session_of_view c.view_over-view.result in
    kept-after asking.pinned seen c.args.kept.now _
    (newest-first asking c.in-Ok.query.now _ seen c.view_over-view.ensures.session c.in-Ok-pin.ensures.version)
    c.find_level.ensures.of_version
    (kept-moved _ _ _ _ _ _ c.in-Ok-pin.ensures.looked.moves c.requires.of_history)

pub find_level-requires-clause-known : goal.find_level-requires-clause-known
find_level-requires-clause-known g c =
    earlier_level c.in-Ok.query.now (arc_value c.in-Ok-pin.snapshot) (session_of_view c.view_over-view.result)
    c.values.result.now c.known_level-known.result
    (standing_first _ _ _ (state_of c.args.connection.now) c.args.s c.in-Ok.query.now c.requires.pinned
    c.in-Ok.ensures.query c.in-Ok-pin.ensures.looked c.in-Ok-pin.ensures.version) c.view_over-view.ensures.session
    c.values.ensures c.known_level-known.ensures.version c.known_level-known.ensures.level

pub move_standing-requires : goal.move_standing-requires
move_standing-requires g c = record {
  level = moved_level c.args.connection.now.sessions.sessions c.args.s c.in-Ok.query.now
      (arc_value c.in-Ok-pin.snapshot) (session_of_view c.view_over-view.result) c.values.result.now _
      c.in-Ok.ensures.query c.view_over-view.ensures.session c.values.ensures c.in-Ok-find_level.ensures.least;
}
