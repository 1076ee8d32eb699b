use Rattle.std.proofs.Common.{rules, ap, ◌∙◌, ◌≡◌}
use Rattle.kn_turn.specs.declared.view.Stage.TheVariants.{Holds}
use Rattle.kn_turn.proofs.StepLemmas.{looks_at}
use Rattle.kn_turn.proofs.PassLemmas.{holds_stage}
use Rattle.kn_turn.proofs.turn.Turn.look.Goals as goal

pub load-requires : goal.load-requires
load-requires g c =
    let stage : c.pass.inside.seat.me.0.stage ≡ Holds =
    holds_stage _ c.pass.invariant.between (ap (λ p. p.is_idle) c.pass.view_is ∙ c.requires.taken) in (
      search rules,
      search rules,
      looks_at g.S.Logged.by g.S.Logged.log _ _ c.pass.inside.seat.me stage c.pass.invariant.live
          c.pass.invariant.settled,
    )
