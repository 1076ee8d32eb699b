use Rattle.std.proofs.Common.{◌≡◌, ◌∷◌, ◌∙◌, [], ap, refl}
use Rattle.kn_files.specs.Pieces.{pieces_of}
use Rattle.kn_outside.specs.Asked.{HasAsked}
use Rattle.kn_load.specs.Loaded.{StopsLoading}
use Rattle.kn_words.specs.declared.service.Service.TheInside.{Inside}
use Rattle.kn_words.specs.Orders.{Order}
use Rattle.kn_inputs.specs.Held.{HasContent}
use Rattle.kn_inputs.proofs.Stopped.{unloaded_policy}
use Rattle.keynoted.proofs.serving.serve.Goals as goal

pub returns : goal.returns
returns g c =
    let before = g.F.Files.seen c.args.files.now in
    let behind = g.F.Files.seen c.read_file.new.files in
    let name = c.args.service.now.files.policy in
    let named : c.service-inside.inside.0.0.policy.now ≡ name =
    ap (λ (s : Inside). s.files.policy) c.service-inside.view_is
    ∙ ap (λ (o : Order). o.files.policy) c.service.view_is in
    let asked : HasAsked (name ∷ []) before behind = rw named at c.in-Ok.ensures.asked in
    let content : HasContent before name c.in-Ok.file = rw named at c.in-Ok.ensures.content in
    let stops : StopsLoading (pieces_of c.in-Ok.file) c.in-Err-load_file.fault =
    rw c.as_slice.ensures at c.in-Err-load_file.ensures.stopped in (
      unloaded_policy before behind name c.in-Ok.file c.in-Err-load_file.fault c.from.result c.from.ensures asked
          content
          stops,
      refl,
    )
