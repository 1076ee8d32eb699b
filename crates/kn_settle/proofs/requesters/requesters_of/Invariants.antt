use Rattle.kn_settle.proofs.RequesterLists.{AreRequestersBelow}
use Rattle.kn_settle.proofs.requesters.requesters_of.Given as goal

abbrev pub invariant-loop-principal : goal.invariant-loop-principal
invariant-loop-principal g l = AreRequestersBelow l.system l.principal l.numbers
