use Rattle.std.proofs.Common.{◌≡◌, drop}
use Rattle.kn_meaning.specs.Tables.{level_in}
use Rattle.kn_meaning.proofs.plain.level_of.Given as goal

abbrev pub invariant-loop-entry : goal.invariant-loop-entry
invariant-loop-entry l = level_in (drop l.entry-index l.table) l.name ≡ level_in l.table l.name
