use Rattle.std.proofs.Common.{◌≡◌, ◌++◌, drop, take}
use Rattle.kn_proof.specs.declared.named.Id.TheVariants.{Shared}
use Rattle.kn_history.specs.History.{credentials_of}
use Rattle.kn_daemon.specs.Daemon.{parts_of}
use Rattle.kn_query.specs.SharedParts.{AreRead}
use Rattle.kn_query.proofs.parts.push_shared.Given as goal

abbrev pub invariant-loop-place : goal.invariant-loop-place
invariant-loop-place l =
    (l.parts ≡ l.fn.parts ++ parts_of Shared (drop l.first (take l.place (credentials_of l.version))))
    × AreRead (drop l.first (take l.place (credentials_of l.version)))
