use Rattle.kn_follow.proofs.PullSteps.{ask-answers, ask-faults, not-written}
use Rattle.kn_follow.proofs.asking.ask.Goals as goal

pub returns-in-Ok-clause-answer : goal.returns-in-Ok-clause-answer
returns-in-Ok-clause-answer g c = ask-answers _ _ _ _ _ _ _ c.wait.result c.in-Ok.ensures c.wait.ensures.answer

pub returns-in-Ok-clause-fault : goal.returns-in-Ok-clause-fault
returns-in-Ok-clause-fault g c = ask-faults _ _ _ _ _ _ c.wait.result c.in-Ok.ensures c.wait.ensures.fault

pub returns-in-Err-clause-fault : goal.returns-in-Err-clause-fault
returns-in-Err-clause-fault g c = not-written _ _ _ _ _ c.in-Err.ensures
