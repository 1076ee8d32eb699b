use Rattle.std.proofs.Common.{◌++◌, ap, ◌∙◌}
use Rattle.kn_env.proofs.Places.{each_behind, join_with_byte-each_behind}
use Rattle.kn_env.proofs.environment.with_others.Goals as goal

pub loop-name-init : goal.loop-name-init
loop-name-init c = ap (λ text. text ++ each_behind 44 c.args.others.now) c.in_ok-text.ensures
    ∙ join_with_byte-each_behind 44 c.args.first.now c.args.others.now
