use Rattle.std.proofs.Common.{◌≡◌, drop, length}
use Rattle.kn_history.specs.History.{all_changes}
use Rattle.kn_store.proofs.ItemLemmas.{AreMadeUpTo}
use Rattle.kn_store.proofs.version.Version.with_items.Given as goal

abbrev pub invariant-loop-place : goal.invariant-loop-place
invariant-loop-place l = record {
  made : AreMadeUpTo (all_changes l.self) l.fn.items l.place l.live l.changes (drop l.place l.items);
  same : length l.items ≡ length l.fn.items;
}
