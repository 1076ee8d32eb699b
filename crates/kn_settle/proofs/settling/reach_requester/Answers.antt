use Rattle.std.proofs.Common.{◌≡◌, ◌<◌, ℕ, List, length, slice_index, slice_set, ap, ◌∙◌, arith}
use Rattle.std.proofs.lemmas.List.{get_or_default}
use Rattle.kn_system.specs.Equations.{SystemEquations}
use Rattle.kn_settle.proofs.FirstLevels.{begun-had, begun-set}
use Rattle.kn_settle.proofs.settling.reach_requester.Goals as goal

pub returns-then-index-gt0-clause-begun : goal.returns-then-index-gt0-clause-begun
returns-then-index-gt0-clause-begun g c = λ requesters begun.
    let levels : List ℕ = c.args.levels.now.values.items in
    let within : c.args.principal < length levels = omega (arith, c.requires.in_range, c.requires.one_each) in
    let read : c.index.result.now ≡ slice_index levels c.args.principal = c.index.ensures
    ∙ get_or_default levels c.args.principal c.index.result.now 0 within in
    begun-had c.args.system.now levels requesters c.args.principal c.requires.in_range
    (omega (arith, read, c.if-index-gt0.true)) begun

pub returns-then-index-gt0-clause-reaches : goal.returns-then-index-gt0-clause-reaches
returns-then-index-gt0-clause-reaches g c = λ start marks counting used. (marks, used, counting)

pub returns-in-Ok-clause-begun : goal.returns-in-Ok-clause-begun
returns-in-Ok-clause-begun g c = λ requesters begun.
    let s : SystemEquations = c.args.system.now in
    let levels : List ℕ = c.args.levels.now.values.items in
    begun-set s levels c.reach.new.levels.values.items requesters c.args.principal c.requires.in_range
    (c.in-Ok.ensures.levels ∙ ap (slice_set levels c.args.principal) c.requires.top) begun
