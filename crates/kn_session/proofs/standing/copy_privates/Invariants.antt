use Rattle.std.proofs.Common.{◌≡◌, take}
use Rattle.kn_session.proofs.standing.copy_privates.Given as goal

abbrev pub invariant-loop-private : goal.invariant-loop-private
invariant-loop-private l = l.copies ≡ take l.private-index l.privates
