use Rattle.std.proofs.Common.{◌≡◌, ◌++◌, map, take}
use Rattle.kn_proof.specs.declared.named.Id.TheVariants.{Private as Own}
use Rattle.kn_session.specs.Views.{numbered_text}
use Rattle.kn_daemon.specs.Daemon.{parts_of}
use Rattle.kn_query.proofs.parts.push_private.Given as goal

abbrev pub invariant-loop-private : goal.invariant-loop-private
invariant-loop-private l = l.parts ≡ l.fn.parts ++ parts_of Own (map numbered_text (take l.private-index l.privates))
