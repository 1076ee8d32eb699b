use Rattle.std.proofs.Common.{◌+◌, arith}
use Rattle.kn_serve.proofs.ServingLaws.{serves_nothing, serving_begun, serving_room, serving_answers, serving_reads}
use Rattle.kn_serve.proofs.ServingLaws.{serving_still, none_still, end_still, serves_bye, serves_block, serves_write}
use Rattle.kn_serve.proofs.ServingLaws.{serves_read, serves_end, serves_budget}
use Rattle.kn_serve.proofs.KeptLaws.{serving_pinned}
use Rattle.kn_serve.proofs.LastLaws.{none-last}
use Rattle.kn_serve.proofs.serving.serve_requests.Goals as goal

pub returns-in-Err-clause-serves : goal.returns-in-Err-clause-serves
returns-in-Err-clause-serves g c = serves_nothing c.serving_stops.ensures.memory _ _ _ c.requires.ready.valid

pub requests-init : goal.requests-init
requests-init g c = (
  c.requires.ready,
  omega arith,
  serving_begun c.serving_begins.ensures _ _ _ _ _ c.new-connection.ensures.state c.in-Ok.ensures,
  c.requires.of_history,
  none-last _ _ _ c.new-connection.ensures.last,
)

pub returns-then-answered-ge-REQUESTS-clause-serves : goal.returns-then-answered-ge-REQUESTS-clause-serves
returns-then-answered-ge-REQUESTS-clause-serves g c =
    let i = c.requests.invariant in
    let few = i.1 in
    let full = c.if-answered-ge-REQUESTS.true in
    let t = c.in-Answered.ensures.stepped in
    serves_budget _ _ _ _ _ (c.requests.answered + 1)
    (serving_answers _ _ _ _ _ _ i.2 c.serving_answers.ensures _ _ _ t.1 t.2 t.3)
    c.serving_stops.ensures.budget (omega arith) c.in-Answered.ensures.ready.valid

pub requests-preserved-else-answered-ge-REQUESTS : goal.requests-preserved-else-answered-ge-REQUESTS
requests-preserved-else-answered-ge-REQUESTS g c =
    let i = c.requests.invariant in
    let t = c.in-Answered.ensures.stepped in
    let short = c.if-answered-ge-REQUESTS.false in (
      c.in-Answered.ensures.ready,
      omega arith,
      serving_answers _ _ _ _ _ _ i.2 c.serving_answers.ensures _ _ _ t.1 t.2 t.3,
      c.in-Answered.ensures.of_history,
      c.in-Answered.ensures.last,
    )

pub returns-in-SaidBye-clause-serves : goal.returns-in-SaidBye-clause-serves
returns-in-SaidBye-clause-serves g c =
    let i = c.requests.invariant in
    serves_bye _ _ _ _ _ _ i.2 c.serving_ends.ensures.bye _ _ i.1 c.in-SaidBye.ensures.stepped
    c.in-SaidBye.ensures.ready.valid

pub returns-in-BlockRefused-clause-serves : goal.returns-in-BlockRefused-clause-serves
returns-in-BlockRefused-clause-serves g c =
    let i = c.requests.invariant in
    serves_block _ _ _ _ _ _ i.2 c.serving_ends.ensures.block _ _ _ i.1 c.in-BlockRefused.ensures.stepped
    c.in-BlockRefused.ensures.ready.valid

pub returns-in-WriteFailed-clause-serves : goal.returns-in-WriteFailed-clause-serves
returns-in-WriteFailed-clause-serves g c =
    let i = c.requests.invariant in
    let t = c.in-WriteFailed.ensures.stepped in
    serves_write _ _ _ _ _ _ i.2 c.serving_ends.ensures.write _ _ t.0 i.1 t.1 c.in-WriteFailed.ensures.ready.valid

pub requests-preserved : goal.requests-preserved
requests-preserved g c =
    let i = c.requests.invariant in
    let t = c.in-NoRequest.ensures.stepped in
    let f = c.in-More.ensures in
    let s = serving_still _ _ _ _ _ _ i.2 _ _ t.1 t.2 in (
      c.in-NoRequest.ensures.ready,
      i.1,
      serving_reads _ _ _ _ _ _ s c.serving_takes.ensures _ _ f.0 f.1 f.2,
      c.in-NoRequest.ensures.of_history,
      c.in-NoRequest.ensures.last,
    )

pub returns-in-Failed-clause-serves : goal.returns-in-Failed-clause-serves
returns-in-Failed-clause-serves g c =
    let i = c.requests.invariant in
    let t = c.in-NoRequest.ensures.stepped in
    let f = c.in-Failed.ensures in
    let s = serving_still _ _ _ _ _ _ i.2 _ _ t.1 t.2 in
    serves_read _ _ _ _ _ _ s c.serving_stops.ensures.dry _ i.1 (none_still _ _ t.0 t.1)
    c.in-NoRequest.ensures.ready.valid f.1 f.2

pub returns-in-End-clause-serves : goal.returns-in-End-clause-serves
returns-in-End-clause-serves g c =
    let i = c.requests.invariant in
    let t = c.in-NoRequest.ensures.stepped in
    let f = c.in-End.ensures in
    let s = serving_still _ _ _ _ _ _ i.2 _ _ t.1 t.2 in
    serves_end _ _ _ _ _ _ s c.serving_stops.ensures.dry _ i.1 (none_still _ _ t.0 t.1)
    c.in-NoRequest.ensures.ready.valid _ f.1 f.2 (end_still _ _ _ f.0 c.end_of.ensures)

pub answer_next-requires-clause-room : goal.answer_next-requires-clause-room
answer_next-requires-clause-room g c =
    let i = c.requests.invariant in
    λ κs within. serving_room _ _ _ _ _ _ i.2 c.serving_is_small.ensures i.1

pub answer_next-requires-clause-pinned : goal.answer_next-requires-clause-pinned
answer_next-requires-clause-pinned g c =
    let i = c.requests.invariant in
    λ κs within. serving_pinned _ _ _ _ _ _ i.2

pub answer_next-requires-clause-of_history : goal.answer_next-requires-clause-of_history
answer_next-requires-clause-of_history g c = λ κs within. c.requests.invariant.3

pub answer_next-requires-clause-last : goal.answer_next-requires-clause-last
answer_next-requires-clause-last g c = λ κs within. c.requests.invariant.4
