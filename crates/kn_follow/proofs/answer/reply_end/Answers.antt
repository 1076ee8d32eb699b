use Rattle.std.proofs.Common.{List, ℕ, subst}
use Rattle.kn_follow.specs.Forms.{LogReply}
use Rattle.kn_follow.specs.InCode.{Stops, reply_of}
use Rattle.kn_follow.specs.Reading.{reply_at}
use Rattle.kn_follow.specs.declared.reply.ReadStop.{ReadStop}
use Rattle.kn_follow.proofs.AnswerForms.{reply-answer, departing-answer, waits-reply}
use Rattle.kn_follow.proofs.Replies.{read_within, stop_within}
use Rattle.kn_follow.proofs.answer.reply_end.Goals as goal
use Rattle.kn_follow.proofs.answer.reply_end.Goals.{in-Ok, in-Err-Departs+then-is_empty, in-Err-Departs+else-is_empty}
use Rattle.kn_follow.proofs.answer.reply_end.Goals.{in-Err-NoMemory}

pub overflow_sub-result : goal.overflow_sub-result
overflow_sub-result c = read_within c.args.bytes.now (reply_of c.in-Ok.field-0-0) c.in-Ok.rest.now c.in-Ok.ensures

pub overflow_sub-result-else-is_empty : goal.overflow_sub-result-else-is_empty
overflow_sub-result-else-is_empty c =
    let P : ReadStop → Type 0 = λ s. Stops {A = LogReply × List ℕ} s (reply_at c.args.bytes.now) in
    stop_within c.args.bytes.now c.in-Err-Departs.rest.now
    (subst P c.in-Err-Departs.field-0-is c.in-Err-Departs.ensures)

pub returns-clause-answer : goal.returns-clause-answer
returns-clause-answer c =
    let text = c.args.bytes.now in
    let P : ReadStop → Type 0 = λ s. Stops {A = LogReply × List ℕ} s (reply_at text) in
    elim c.match-read_reply.branch [
      | in-Ok w ↦ rw w.result-is (reply-answer text (reply_of w.in-Ok.field-0-0) w.in-Ok.rest.now w.in-Ok.ensures)
      | in-Err-Departs+then-is_empty w ↦ rw w.result-is tt
      | in-Err-Departs+else-is_empty w ↦
          rw w.result-is (departing-answer text w.in-Err-Departs.rest.now
          (subst P w.in-Err-Departs.field-0-is w.in-Err-Departs.ensures) w.if-is_empty.ensures c.requires)
      | in-Err-NoMemory w ↦ rw w.result-is tt
    ]

pub returns-clause-none : goal.returns-clause-none
returns-clause-none c =
    let text = c.args.bytes.now in
    let P : ReadStop → Type 0 = λ s. Stops {A = LogReply × List ℕ} s (reply_at text) in
    elim c.match-read_reply.branch [
      | in-Ok w ↦ rw w.result-is tt
      | in-Err-Departs+then-is_empty w ↦
          rw w.result-is (waits-reply text w.in-Err-Departs.rest.now
          (subst P w.in-Err-Departs.field-0-is w.in-Err-Departs.ensures) w.if-is_empty.ensures c.requires)
      | in-Err-Departs+else-is_empty w ↦ rw w.result-is tt
      | in-Err-NoMemory w ↦ rw w.result-is tt
    ]
