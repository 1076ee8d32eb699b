use Rattle.std.proofs.Common.{List, length, ap, ◌∙◌}
use Rattle.kn_registry.specs.Passes.{PassSeen}
use Rattle.kn_workers.proofs.HiringLaws.{splits_length}
use Rattle.kn_workers.proofs.workers.hire.Goals as goal

pub post_all-requires-clause-count : goal.post_all-requires-clause-count
post_all-requires-clause-count g c = ap (λ (l : List PassSeen). length l) c.in_ok-passes.ensures.passes
    ∙ splits_length _ _ ∙ c.len-2.ensures
