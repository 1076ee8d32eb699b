use Rattle.std.proofs.Common.{◌≡◌, length}
use Rattle.std.specs.Vec.Iter.{into_iter_items}
use Rattle.kn_store.specs.EarlierVersions.{AreLeft}
use Rattle.kn_history.proofs.Additions.{AreAddedUpTo}
use Rattle.kn_store.proofs.version.Version.with_additions.Given as goal

abbrev pub invariant-loop-ready : goal.invariant-loop-ready
invariant-loop-ready l = record {
  added : AreAddedUpTo l.fn.self l.caller l.fn.ready_texts.items l.next (into_iter_items l.ready-iterator);
  left : l.left ≡ length (into_iter_items l.ready-iterator);
  earlier : AreLeft l.left l.next l.earlier;
}
