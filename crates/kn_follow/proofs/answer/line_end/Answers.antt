use Rattle.kn_follow.proofs.AnswerForms.{line-here, waits-line}
use Rattle.kn_follow.proofs.answer.line_end.Goals as goal

pub returns-in-Some-clause-line : goal.returns-in-Some-clause-line
returns-in-Some-clause-line c = line-here c.args.bytes.now c.in-Some.at c.in-Some.ensures.place

pub returns-in-None-clause-none : goal.returns-in-None-clause-none
returns-in-None-clause-none c = waits-line c.args.bytes.now c.in-None.ensures.place
