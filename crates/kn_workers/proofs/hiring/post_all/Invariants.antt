use Rattle.std.proofs.Common.{◌≡◌, ◌+◌, ◌≤◌, ◌++◌, length}
use Rattle.std.specs.Prelude.{vec_len, vec_capacity}
use Rattle.kn_workers.specs.Posts.{posts_of}
use Rattle.kn_workers.proofs.hiring.post_all.Given as goal

abbrev pub invariant-posts : goal.invariant-posts
invariant-posts g l =
    (l.posts.items ++ posts_of l.doors l.passes ≡ posts_of l.initial.doors l.initial.passes)
    × (length l.passes ≡ length l.doors)
    × (vec_len l.posts + length l.doors ≤ vec_capacity l.posts)

abbrev pub decreases-posts : goal.decreases-posts
decreases-posts g l = length l.doors
