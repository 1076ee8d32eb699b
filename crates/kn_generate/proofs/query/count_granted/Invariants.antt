use Rattle.std.proofs.Common.{◌≡◌, ◌+◌, ◌≤◌, drop}
use Rattle.kn_generate.specs.Measured.{granted_count}
use Rattle.kn_generate.proofs.query.count_granted.Given as goal

abbrev pub invariant-loop-principal : goal.invariant-loop-principal
invariant-loop-principal l =
    (l.count + granted_count (drop l.principal l.system.requesters) (drop l.principal l.levels)
    ≡ granted_count l.system.requesters l.levels) × (l.count ≤ l.principal)
