use Rattle.std.proofs.Common.{ap, ◌∙◌, subst}
use Rattle.kn_turn.specs.Passes.{after_give, after_look}
use Rattle.kn_registry.specs.Passes.{IsSoundPass}
use Rattle.kn_registry.proofs.PassMoves.{looks_of, stays_of}
use Rattle.kn_registry.proofs.registry.Registry.pin.Goals as goal

pub returns-in-Ok-clause-looked : goal.returns-in-Ok-clause-looked
returns-in-Ok-clause-looked g c =
    let taken = c.take-shared.ensures in
    looks_of c.args.pass.now c.look.new.pass c.take-shared.result (c.look.ensures.looked
    ∙ ap (λ p. after_give (after_look p)) taken.taken) taken.seen (subst IsSoundPass taken.taken taken.sound)
    c.look.ensures.sound

pub returns-in-Err-clause-refused : goal.returns-in-Err-clause-refused
returns-in-Err-clause-refused g c =
    let taken = c.take-shared.ensures in
    stays_of c.args.pass.now c.look.new.pass
    (looks_of c.args.pass.now c.look.new.pass c.take-shared.result (c.look.ensures.looked
    ∙ ap (λ p. after_give (after_look p)) taken.taken) taken.seen (subst IsSoundPass taken.taken taken.sound)
    c.look.ensures.sound)
