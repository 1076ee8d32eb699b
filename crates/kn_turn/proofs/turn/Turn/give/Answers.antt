use Rattle.std.proofs.Common.{rules, ap, sym, ◌∙◌, ◌≡◌, ◌∷◌, [], Some}
use Rattle.atomic_table.specs.Table.{rest}
use Rattle.kn_turn.specs.Passes.{slots_of}
use Rattle.kn_turn.specs.declared.view.Stage.TheVariants.{Holds}
use Rattle.kn_turn.proofs.StepLemmas.{gives_back}
use Rattle.kn_turn.proofs.PassLemmas.{holds_stage}
use Rattle.kn_turn.proofs.turn.Turn.give.Goals as goal

pub fetch_add-served-requires : goal.fetch_add-served-requires
fetch_add-served-requires g c =
    let stage : c.pass.inside.seat.me.0.stage ≡ Holds =
    holds_stage _ c.pass.invariant.between (ap (λ p. p.is_idle) c.pass.view_is ∙ c.requires.taken) in
    let now = c.exchange.ensures.3 in
    let empty : rest c.pass.inside.seat.me.1 ≡ [] = ap rest (c.pass.invariant.slots ∙ ap slots_of stage) in
    let carried = ap (λ m. m.1) now ∙ ap (λ xs. (0, Some c.args.value) ∷ xs) empty in
    let value = c.requires.value ∙ (ap (λ p. p.taken) (sym c.pass.view_is) ∙ sym (ap (λ m. m.0.taken) now)) in (
      search rules,
      search rules,
      gives_back g.S.Logged.by g.S.Logged.log _ _ c.exchange.new.seat.me c.args.value (ap (λ m. m.0.stage) now
          ∙ stage) carried value,
    )
