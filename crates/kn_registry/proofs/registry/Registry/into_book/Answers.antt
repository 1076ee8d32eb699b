use Rattle.std.proofs.Common.{ap, ◌∙◌, subst}
use Rattle.kn_turn.specs.Passes.{after_give, after_look}
use Rattle.kn_registry.specs.Passes.{IsSoundPass}
use Rattle.kn_registry.proofs.PassMoves.{looks_of, looks_held}
use Rattle.kn_registry.proofs.registry.Registry.into_book.Goals as goal

pub returns-clause-looked : goal.returns-clause-looked
returns-clause-looked g c =
    let taken = c.take-shared.ensures in
    let look = c.look.ensures in
    looks_held c.args.pass.now c.look.new.pass
    (looks_of c.args.pass.now (after_give c.look.new.pass) c.take-shared.result (ap after_give look.looked
    ∙ ap (λ p. after_give (after_look p)) taken.taken) taken.seen (subst IsSoundPass taken.taken taken.sound)
    look.sound)
