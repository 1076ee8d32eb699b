use Rattle.std.proofs.Common.{List, subst}
use Rattle.kn_history.specs.declared.update.Update.{Update}
use Rattle.kn_serve.specs.Serving.{Serves}
use Rattle.kn_inputs.specs.Inputs.{config_of_keys}
use Rattle.kn_commands.specs.Asking.{IsLinkServed}
use Rattle.kn_commands.proofs.Asked.{link_served}
use Rattle.kn_commands.proofs.asking.serve.Goals as goal

pub returns : goal.returns
returns g c = λ texts l.
    let grounds = config_of_keys c.args.keys.now in
    let before = g.L.Sink.seen c.args.own.now in
    let behind = g.L.Sink.seen c.serve_connection-ended.new.link in
    let ended = c.serve_connection-ended.result in
    let serves : Serves grounds c.args.root c.serve_connection-ended.new.pass before behind ended =
    rw c.as_slice-secret.ensures at c.serve_connection-ended.ensures.serves in
    subst (λ (past : List Update). IsLinkServed grounds past before behind ended) l.seen
    (link_served c.served_alone.ensures grounds c.args.root c.serve_connection-ended.new.pass before behind ended
    l.root.number l.root.unsplit c.number-root.ensures.sound serves
    c.serve_connection-ended.ensures.complete)
