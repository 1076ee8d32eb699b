use Rattle.std.proofs.Common.{◌≡◌, ◌+◌, length, take}
use Rattle.kn_system.proofs.system.System.shorten_principals.Given as goal

abbrev pub invariant-loop-principal : goal.invariant-loop-principal
invariant-loop-principal g l = record {
  size : length l.self.requesters + l._principal ≡ l.principals + length l.initial.self.requesters;
  same : l.self ≡ record l.initial.self { requesters = take (length l.self.requesters) l.initial.self.requesters };
}
