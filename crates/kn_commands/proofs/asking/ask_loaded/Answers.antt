use Rattle.std.proofs.Common.{◌≡◌, [], refl}
use Rattle.std.specs.Prelude.{IsSomeAnd, option_map, option_to_list}
use Rattle.kn_outside.specs.Asked.{HasAsked}
use Rattle.kn_files.specs.Pieces.{pieces_of}
use Rattle.kn_inputs.specs.Held.{AreKeys}
use Rattle.kn_inputs.specs.Inputs.{StopsAtKeys}
use Rattle.kn_inputs.proofs.Stopped.{keys_stopped}
use Rattle.kn_commands.proofs.Asked.{answered_there}
use Rattle.kn_commands.proofs.asking.ask_loaded.Goals as goal

pub returns-in-Ok : goal.returns-in-Ok
returns-in-Ok g c = λ f bytes policy loaded before.
    let mid = g.F.Files.seen c.args.files.now in
    let view = c.names.view_is in
    let named : option_map (λ n. n.now) c.names.inside.keys ≡ c.args.names.now.keys = cc in
    let asked : HasAsked (option_to_list c.args.names.now.keys) mid (g.F.Files.seen c.keys_of.new.files) =
    rw named at c.in-Ok.ensures.asked in
    let known : AreKeys mid c.args.names.now.keys c.in-Ok.keys = rw named at c.in-Ok.ensures.known in
    answered_there f mid _ _ _ c.args.names.now bytes c.in-Ok.keys c.serve.result policy before asked known
    (c.serve.ensures (pieces_of bytes) loaded)

pub returns-in-Err : goal.returns-in-Err
returns-in-Err g c = λ f bytes policy loaded before.
    let mid = g.F.Files.seen c.args.files.now in
    let view = c.names.view_is in
    let named : option_map (λ n. n.now) c.names.inside.keys ≡ c.args.names.now.keys = cc in
    let stops : IsSomeAnd c.args.names.now.keys
    (λ name. StopsAtKeys mid (g.F.Files.seen c.keys_of.new.files) [] name c.in-Err.stop) =
    rw named at c.in-Err.ensures.err in
    (keys_stopped f mid _ c.args.names.now bytes c.in-Err.stop policy before stops, refl)
