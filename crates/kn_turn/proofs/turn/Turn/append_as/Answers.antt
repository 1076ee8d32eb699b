use Rattle.std.proofs.Common.{rules, ap, sym, subst, ◌∙◌, ◌≡◌, ◌++◌, ℕ, All, length}
use Rattle.kn_turn.specs.declared.view.Stage.TheVariants.{Holds}
use Rattle.kn_turn.proofs.StepLemmas.{appends_more}
use Rattle.kn_turn.proofs.PassLemmas.{holds_stage}
use Rattle.kn_turn.proofs.turn.Turn.append_as.Goals as goal

pub store-requires : goal.store-requires
store-requires g c =
    let stage : c.pass.inside.seat.me.0.stage ≡ Holds =
    holds_stage _ c.pass.invariant.between (ap (λ p. p.is_idle) c.pass.view_is ∙ c.requires.taken) in
    let named : All (λ e. g.S.Logged.by e ≡ c.pass.inside.seat.me.0.number) g.A.Addition.entries =
    subst (λ (n : ℕ). All (λ e. g.S.Logged.by e ≡ n) g.A.Addition.entries) (ap (λ p. p.number) (sym c.pass.view_is))
    c.requires.named in
    let new_is = c.from.ensures
    ∙ (c.length-length.ensures
    ∙ (ap length c.requires.value ∙ ap (λ p. length (p.taken ++ g.A.Addition.entries)) (sym c.pass.view_is))) in (
      search rules,
      search rules,
      appends_more g.S.Logged.by g.S.Logged.log _ _ c.pass.inside.seat.me _ g.A.Addition.entries stage
          c.pass.invariant.live c.pass.invariant.settled named new_is,
    )
