use Rattle.std.proofs.Common.{◌≡◌, ◌∙◌, List, ap, subst, [], refl}
use Rattle.std.specs.Prelude.{IsSomeAnd, option_map, option_to_list}
use Rattle.kn_outside.specs.Asked.{HasAsked}
use Rattle.kn_history.specs.declared.update.Update.{Update}
use Rattle.kn_words.specs.declared.service.Service.TheInside.{Inside}
use Rattle.kn_words.specs.Orders.{Order}
use Rattle.kn_inputs.specs.Held.{AreKeys}
use Rattle.kn_inputs.specs.Inputs.{StopsAtKeys, config_of_keys}
use Rattle.kn_inputs.proofs.Stopped.{keys_stopped}
use Rattle.kn_workers.specs.declared.binding.Binding.{Binding}
use Rattle.kn_workers.specs.Addresses.{ServesOver}
use Rattle.keynoted.specs.Serving.{binding_of}
use Rattle.keynoted.proofs.ServingLaws.{served_there}
use Rattle.keynoted.proofs.serving.serve_loaded.Goals as goal

pub returns-in-Ok : goal.returns-in-Ok
returns-in-Ok g c = λ f bytes policy loaded before.
    let mid = g.F.Files.seen c.args.files.now in
    let named : option_map (λ n. n.now) c.service-inside.inside.0.0.keys ≡ c.args.service.now.files.keys =
    ap (λ (s : Inside). s.files.keys) c.service-inside.view_is ∙ ap (λ (o : Order). o.files.keys) c.service.view_is in
    let asked : HasAsked (option_to_list c.args.service.now.files.keys) mid (g.F.Files.seen c.keys_of.new.files) =
    rw named at c.in-Ok.ensures.asked in
    let known : AreKeys mid c.args.service.now.files.keys c.in-Ok.keys = rw named at c.in-Ok.ensures.known in
    let Serves : List Update → Binding → Type 0 =
    λ past binding. ServesOver g.N.Room.Door.seen g.N.Room.Conn.Sink.seen (config_of_keys c.in-Ok.keys) past
    (g.N.Net.seen c.args.net.now) (g.N.Net.seen c.serve_address.new.net) binding c.serve_address.result in
    let Bound : Inside → Binding = λ s. record { address = s.address.now; doors = s.workers; quota = s.connections } in
    let same : Bound c.service.inside ≡ binding_of c.args.service.now = ap binding_of c.service.view_is in
    let bound : Serves c.args.root.seen (binding_of c.args.service.now) =
    subst (λ (b : Binding). Serves c.args.root.seen b) (ap Bound c.service-inside.view_is ∙ same)
    c.serve_address.ensures in
    served_there _ _ f mid _ _ _ c.args.service.now bytes c.in-Ok.keys policy before asked known
    c.serve_address.result
    (subst (λ (past : List Update). Serves past (binding_of c.args.service.now)) loaded.seen bound)

pub returns-in-Err : goal.returns-in-Err
returns-in-Err g c = λ f bytes policy loaded before.
    let mid = g.F.Files.seen c.args.files.now in
    let named : option_map (λ n. n.now) c.service-inside.inside.0.0.keys ≡ c.args.service.now.files.keys =
    ap (λ (s : Inside). s.files.keys) c.service-inside.view_is ∙ ap (λ (o : Order). o.files.keys) c.service.view_is in
    let stops : IsSomeAnd c.args.service.now.files.keys
    (λ name. StopsAtKeys mid (g.F.Files.seen c.keys_of.new.files) [] name c.in-Err.stop) =
    rw named at c.in-Err.ensures.err in
    (keys_stopped f mid _ c.args.service.now.files bytes c.in-Err.stop policy before stops, refl)
