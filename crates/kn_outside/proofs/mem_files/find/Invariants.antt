use Rattle.std.proofs.Common.{◌≡◌, drop}
use Rattle.kn_outside.specs.InMemory.{content_of}
use Rattle.kn_outside.proofs.mem_files.find.Given as goal

abbrev pub invariant-loop-entry : goal.invariant-loop-entry
invariant-loop-entry l = content_of (drop l.entry-index l.entries) l.name ≡ content_of l.entries l.name
