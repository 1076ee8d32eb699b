use Rattle.std.proofs.Common.{rules, ap, ◌∙◌, ◌≡◌}
use Rattle.kn_turn.specs.declared.view.Stage.TheVariants.{Idle}
use Rattle.kn_turn.proofs.SeatLemmas.{notes, informs, settles_at}
use Rattle.kn_turn.proofs.PassLemmas.{idle_stage}
use Rattle.kn_turn.proofs.turn.Turn.meet.Goals as goal

pub split_seat-note-requires : goal.split_seat-note-requires
split_seat-note-requires g c = (search rules, search rules, notes g.S.Logged.by g.S.Logged.log _ c.b.inside.seat.me.0)

pub join_seat-requires : goal.join_seat-requires
join_seat-requires g c =
    let idle : c.a.inside.seat.me.0.stage ≡ Idle = idle_stage _ (ap (λ p. p.is_idle) c.a.view_is ∙ c.requires.idle.0) in
    let note = c.split_seat-note.ensures.4 in (
      search rules,
      search rules,
      search rules,
      search rules,
      informs g.S.Logged.by g.S.Logged.log _ _ c.a.inside.seat.me.0 c.split_seat-note.result.me.0 idle
          c.a.invariant.live c.a.invariant.settled (ap (λ m. m.0.stage) note) (ap (λ m. m.0.live) note),
    )

pub load-requires : goal.load-requires
load-requires g c = (
  search rules,
  search rules,
  settles_at g.S.Logged.by g.S.Logged.log _ _ c.join_seat.new.seat.me (ap (λ m. m.0.live) c.join_seat.ensures.2
      ∙ c.a.invariant.live),
)
