use Rattle.std.proofs.Common.{List, ℕ}
use Rattle.std.specs.List.{AllZip}
use Rattle.std.specs.Vec.Iter.{into_iter_items}
use Rattle.kn_load.specs.Readings.{IsReadResultOf}
use Rattle.kn_load.proofs.ReadingLaws.{AreLeft}
use Rattle.kn_load.proofs.read_texts.readings_of.Given as goal

abbrev pub invariant-loop-found : goal.invariant-loop-found
invariant-loop-found l = (texts : List (List ℕ)) → AllZip IsReadResultOf texts l.fn.results.items
    → AreLeft texts l.readings (into_iter_items l.found-iterator)
