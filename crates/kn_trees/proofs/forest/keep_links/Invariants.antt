use Rattle.std.proofs.Common.{◌≡◌, ◌+◌, ◌≤◌, ◌++◌, length, drop, vec_capacity, vec_len}
use Rattle.kn_trees.specs.Roots.{links_to}
use Rattle.kn_trees.proofs.forest.keep_links.Given as goal

-- what is left is still to be kept
abbrev pub invariant-loop-sign : goal.invariant-loop-sign
invariant-loop-sign l = record {
  items :
      l.pool.items ++ links_to (drop (length l.yielded) l.signs) (drop (length l.yielded) l.rights)
      ≡ l.fn.pool.items ++ links_to l.signs l.rights;
  count : vec_len l.pool ≡ vec_len l.fn.pool + length l.yielded;
  room : vec_len l.fn.pool + length l.signs ≤ vec_capacity l.pool;
}
