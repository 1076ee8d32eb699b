use Rattle.std.proofs.Common.{◌≡◌, ◌++◌, map}
use Rattle.kn_env.specs.Entries.{attribute_of}
use Rattle.kn_env.proofs.attributes.Attributes.copy.Given as goal

-- the copy so far, and what is left to copy
abbrev pub invariant-loop-name : goal.invariant-loop-name
invariant-loop-name l = l.copy ++ map attribute_of l.name-iterator ≡ l.self
