use Rattle.kn_follow.proofs.AnswerForms.{found-none, found-answer}
use Rattle.kn_follow.proofs.answer.find_answer.Goals as goal

pub returns-clause-answer : goal.returns-clause-answer
returns-clause-answer c =
    found-answer c.args.request c.args.bytes.now c.split_at.result.0.now c.min.result c.split_at.ensures.front
    c.min.ensures
    c.find_form.result c.find_form.ensures.within c.find_form.ensures.answer

pub returns-clause-none : goal.returns-clause-none
returns-clause-none c =
    found-none c.args.request c.args.bytes.now c.split_at.result.0.now c.min.result c.split_at.ensures.front
    c.min.ensures
    c.find_form.result c.find_form.ensures.none
