use Rattle.std.proofs.Common.{◌≡◌, length, arith}
use Rattle.kn_critical.proofs.BasesWithout.{end-within, level-without, whole-again}
use Rattle.kn_critical.proofs.runs.value_without_run.Goals as goal

pub restore_run-requires-clause-in_range : goal.restore_run-requires-clause-in_range
restore_run-requires-clause-in_range g c =
    let long : length c.answer_by-answer.new.self.live ≡ length c.args.question.now.list.now =
    end-within c.args.question.now.query.now c.args.rows.now c.args.question.now.list.now c.args.start c.args.end
    c.args.base.now c.remove_run.new.base
    c.requires.whole c.remove_run.ensures c.answer_by-answer.new.self c.answer_by-answer.ensures.live in
    omega (arith, long)

pub returns-clause-least : goal.returns-clause-least
returns-clause-least g c =
    level-without c.args.question.now.query.now c.args.rows.now c.args.question.now.list.now c.args.start c.args.end
    c.args.base.now c.remove_run.new.base
    c.requires.whole c.remove_run.ensures c.in_ok-answer.field-0.value c.in_ok-answer.ensures.least

pub returns-clause-whole : goal.returns-clause-whole
returns-clause-whole g c =
    whole-again c.args.question.now.query.now c.args.rows.now c.args.question.now.list.now c.args.start c.args.end
    c.args.base.now c.remove_run.new.base
    c.requires.whole c.remove_run.ensures c.answer_by-answer.new.self c.restore_run.new.base
    c.answer_by-answer.ensures.base c.answer_by-answer.ensures.again c.answer_by-answer.ensures.live
    c.restore_run.ensures

pub returns-in_err-answer-clause-whole : goal.returns-in_err-answer-clause-whole
returns-in_err-answer-clause-whole g c =
    whole-again c.args.question.now.query.now c.args.rows.now c.args.question.now.list.now c.args.start c.args.end
    c.args.base.now c.remove_run.new.base
    c.requires.whole c.remove_run.ensures c.answer_by-answer.new.self c.restore_run.new.base
    c.answer_by-answer.ensures.base c.answer_by-answer.ensures.again c.answer_by-answer.ensures.live
    c.restore_run.ensures
