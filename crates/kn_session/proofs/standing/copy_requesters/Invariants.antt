use Rattle.std.proofs.Common.{◌≡◌, take}
use Rattle.kn_session.proofs.standing.copy_requesters.Given as goal

abbrev pub invariant-loop-requester : goal.invariant-loop-requester
invariant-loop-requester l = l.copies ≡ take l.requester-index l.requesters
