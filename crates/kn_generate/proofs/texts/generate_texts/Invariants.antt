use Rattle.std.proofs.Common.{◌≡◌, ◌-◌, ◌++◌}
use Rattle.kn_generate.specs.Generated.{credential_texts, generated_texts}
use Rattle.kn_generate.proofs.texts.generate_texts.Given as goal

abbrev pub invariant-loop-authorizer : goal.invariant-loop-authorizer
invariant-loop-authorizer l =
    l.texts ++ credential_texts l.fn.count (l.fn.count - 1 - l.authorizer) l.authorizer l.draws.state
    ≡ generated_texts l.fn.start l.fn.count
