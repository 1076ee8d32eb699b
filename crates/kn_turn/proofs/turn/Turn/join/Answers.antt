use Rattle.std.proofs.Common.{rules, ap, ◌∙◌, ◌≡◌}
use Rattle.kn_turn.specs.Passes.{slots_of}
use Rattle.kn_turn.specs.declared.view.Stage.TheVariants.{Idle}
use Rattle.kn_turn.proofs.SeatLemmas.{absorbs, settles_at}
use Rattle.kn_turn.proofs.PassLemmas.{idle_stage}
use Rattle.kn_turn.proofs.turn.Turn.join.Goals as goal

pub join_seat-requires : goal.join_seat-requires
join_seat-requires g c =
    let idle : c.into.inside.seat.me.0.stage ≡ Idle =
    idle_stage _ (ap (λ p. p.is_idle) c.into.view_is ∙ c.requires.idle.0) in
    let idle' : c.gone.inside.seat.me.0.stage ≡ Idle =
    idle_stage _ (ap (λ p. p.is_idle) c.gone.view_is ∙ c.requires.idle.1) in
    let here = c.into.invariant in
    let there = c.gone.invariant in (
      search rules,
      search rules,
      there.slots ∙ ap slots_of idle',
      search rules,
      absorbs g.S.Logged.by g.S.Logged.log _ _ c.into.inside.seat.me.0 c.gone.inside.seat.me.0 idle here.live
          here.settled idle' there.live there.settled,
    )

pub load-requires : goal.load-requires
load-requires g c = (
  search rules,
  search rules,
  settles_at g.S.Logged.by g.S.Logged.log _ _ c.join_seat.new.seat.me (ap (λ m. m.0.live) c.join_seat.ensures.2
      ∙ c.into.invariant.live),
)
