use Rattle.std.proofs.Common.{rules, ap, sym, ◌∙◌, ◌≡◌, ◌∷◌, Some}
use Rattle.atomic_table.specs.Table.{rest}
use Rattle.kn_turn.specs.declared.view.Stage.TheVariants.{Idle}
use Rattle.kn_turn.proofs.StepLemmas.{draws, takes_out}
use Rattle.kn_turn.proofs.PassLemmas.{idle_stage}
use Rattle.kn_turn.proofs.turn.Turn.take.Goals as goal

pub fetch_add-ticket-requires : goal.fetch_add-ticket-requires
fetch_add-ticket-requires g c =
    let idle : c.pass.inside.seat.me.0.stage ≡ Idle =
    idle_stage _ (ap (λ p. p.is_idle) c.pass.view_is ∙ c.requires.idle) in (
      search rules,
      search rules,
      draws g.S.Logged.by g.S.Logged.log _ _ c.pass.inside.seat.me idle c.pass.invariant.live,
    )

pub load-requires : goal.load-requires
load-requires g c = (
  search rules,
  search rules,
  takes_out g.S.Logged.by g.S.Logged.log _ _ c.await_turn.new.seat.me
      (ap (λ m. m.0.stage) c.await_turn.ensures.served),
)

pub exchange-requires : goal.exchange-requires
exchange-requires g c =
    let took = c.load.ensures.2 in
    let has = ap (λ m. m.1) took.3 in
    (search rules, (Some took.0, has ∙ (λ i. (0, Some took.0) ∷ sym (ap rest has) i)))
