use Rattle.std.proofs.Common.{sym, subst, take, IfSome, IfNone}
use Rattle.kn_follow.specs.Answers.{IsAnswerForm, WaitsFor}
use Rattle.kn_follow.specs.declared.request.Request.{Request}
use Rattle.kn_follow.proofs.answer.find_form.Goals as goal

pub returns-in-Admin-clause-answer : goal.returns-in-Admin-clause-answer
returns-in-Admin-clause-answer c =
    subst (λ (q : Request). IfSome c.line_end.result (λ n. IsAnswerForm q (take n c.args.bytes.now)))
    (sym c.in-Admin.is) c.line_end.ensures.line

pub returns-in-Admin-clause-none : goal.returns-in-Admin-clause-none
returns-in-Admin-clause-none c =
    subst (λ (q : Request). IfNone c.line_end.result (WaitsFor (IsAnswerForm q) c.args.bytes.now)) (sym c.in-Admin.is)
    c.line_end.ensures.none

pub returns-in-Bye-clause-answer : goal.returns-in-Bye-clause-answer
returns-in-Bye-clause-answer c =
    subst (λ (q : Request). IfSome c.line_end-in-Bye.result (λ n. IsAnswerForm q (take n c.args.bytes.now)))
    (sym c.in-Bye.is) c.line_end-in-Bye.ensures.line

pub returns-in-Bye-clause-none : goal.returns-in-Bye-clause-none
returns-in-Bye-clause-none c =
    subst (λ (q : Request). IfNone c.line_end-in-Bye.result (WaitsFor (IsAnswerForm q) c.args.bytes.now))
    (sym c.in-Bye.is) c.line_end-in-Bye.ensures.none
