use Rattle.std.proofs.Common.{◌≡◌, take}
use Rattle.std.specs.Prelude.{flat_map}
use Rattle.kn_endings.proofs.line.gather.Given as goal

abbrev pub invariant-loop-text : goal.invariant-loop-text
invariant-loop-text l = l.line.items ≡ flat_map (λ t. t.now) (take l.text-index l.texts)
