use Rattle.std.proofs.Common.{◌≡◌, ◌++◌, drop, take}
use Rattle.kn_history.specs.History.{credentials_of}
use Rattle.kn_query.proofs.shared_rows.SharedRows.push_from.Given as goal

abbrev pub invariant-loop-place : goal.invariant-loop-place
invariant-loop-place l = l.self ≡ l.fn.self ++ drop l.first (take l.place (credentials_of l.version))
