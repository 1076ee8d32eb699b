use Rattle.std.proofs.Common.{[], List, ℕ, append-nil, refl, subst}
use Rattle.kn_load.specs.Loaded.{StopsLoading}
use Rattle.kn_load.proofs.Loaded.{loaded_nothing}
use Rattle.kn_load.proofs.load.load_texts.Goals as goal

pub returns-in-Ok-clause-loaded : goal.returns-in-Ok-clause-loaded
returns-in-Ok-clause-loaded g c =
    let nothing = loaded_nothing c.in_ok-registry.registry c.in_ok-registry.root c.in_ok-registry.ensures.root
    c.in_ok-registry.ensures.ready in
    c.in-Ok.ensures.loaded [] c.args.texts.now c.in_ok-readings.ensures.read nothing

pub returns-in-Err-clause-stopped : goal.returns-in-Err-clause-stopped
returns-in-Err-clause-stopped g c =
    let nothing = loaded_nothing c.in_ok-registry.registry c.in_ok-registry.root c.in_ok-registry.ensures.root
    c.in_ok-registry.ensures.ready in
    subst (λ (texts : List (List ℕ)). StopsLoading texts c.in-Err.fault) (append-nil c.args.texts.now)
    (c.in-Err.ensures.stopped [] c.args.texts.now [] c.in_ok-readings.ensures.read nothing refl)
