use Rattle.std.proofs.Common.{◌≡◌, ◌+◌, ◌≤◌, ◌++◌, length, map, take, vec_capacity, vec_len}
use Rattle.kn_trees.proofs.forest.keep_parts.Given as goal

abbrev pub invariant-loop-part : goal.invariant-loop-part
invariant-loop-part l = record {
  items : l.pool.items ≡ l.fn.pool.items ++ map (λ part. part.place) (take l.part-index l.parts);
  room : vec_len l.fn.pool + length l.parts ≤ vec_capacity l.pool;
}
