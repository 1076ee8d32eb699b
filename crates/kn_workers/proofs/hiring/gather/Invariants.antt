use Rattle.std.specs.Prelude.{vec_len}
use Rattle.kn_workers.proofs.HiringLaws.{Gathering}
use Rattle.kn_workers.proofs.hiring.gather.Given as goal

abbrev pub invariant-posts : goal.invariant-posts
invariant-posts g l =
    Gathering l.fn.reg l.initial.root l.initial.posts.items l.root l.posts.items (vec_len l.posts) l.doors.items
    l.doors.spare l.finished l.failed

abbrev pub decreases-posts : goal.decreases-posts
decreases-posts g l = vec_len l.posts
