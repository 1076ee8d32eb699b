use Rattle.std.proofs.Common.{take}
use Rattle.kn_load.specs.Readings.{AreReadings}
use Rattle.kn_load.proofs.read_texts.read_texts.Given as goal

abbrev pub invariant-loop-text : goal.invariant-loop-text
invariant-loop-text l = AreReadings (take l.text-index l.items) l.readings
