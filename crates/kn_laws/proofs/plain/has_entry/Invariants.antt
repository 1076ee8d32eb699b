use Rattle.std.proofs.Common.{◌≡◌, drop}
use Rattle.kn_laws.specs.Tested.{has_entry}
use Rattle.kn_laws.proofs.plain.has_entry.Given as goal

abbrev pub invariant-loop-entry : goal.invariant-loop-entry
invariant-loop-entry l = has_entry (drop l.entry-index l.table) l.name ≡ has_entry l.table l.name
