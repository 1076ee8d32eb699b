use Rattle.std.proofs.Common.{◌≡◌, ◌<◌, ℕ, length, slice_index}
use Rattle.kn_watch.specs.Raising.{start_level}
use Rattle.kn_watch.proofs.raising.start_levels.Given as goal

abbrev pub invariant-loop-principal : goal.invariant-loop-principal
invariant-loop-principal g l = record {
  size : length l.levels.items ≡ l.principal;
  level : (p : ℕ) → p < l.principal → slice_index l.levels.items p ≡ start_level l.system l.affected l.values p;
}
