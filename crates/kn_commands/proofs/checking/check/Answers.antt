use Rattle.std.proofs.Common.{◌∷◌, []}
use Rattle.kn_files.specs.Pieces.{pieces_of}
use Rattle.kn_outside.specs.Asked.{HasAsked}
use Rattle.kn_load.specs.Loaded.{StopsLoading}
use Rattle.kn_inputs.specs.Held.{HasContent}
use Rattle.kn_commands.proofs.CheckedFiles.{load_stops}
use Rattle.kn_commands.proofs.checking.check.Goals as goal

pub returns : goal.returns
returns g c =
    let before = g.F.Files.seen c.args.files.now in
    let behind = g.F.Files.seen c.read_file.new.files in
    let name = c.args.names.now.policy in
    let named = c.name.ensures in
    let asked : HasAsked (name ∷ []) before behind = rw named at c.in-Ok.ensures.asked in
    let content : HasContent before name c.in-Ok.file = rw named at c.in-Ok.ensures.content in
    let stops : StopsLoading (pieces_of c.in-Ok.file) c.in-Err-load_file.fault =
    rw c.as_slice.ensures at c.in-Err-load_file.ensures.stopped in
    load_stops before behind c.args.names.now c.in-Ok.file c.in-Err-load_file.fault c.from-stop.result
    c.from-stop.ensures asked content stops
