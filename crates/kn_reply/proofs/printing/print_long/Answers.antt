use Rattle.kn_reply.proofs.printing.print_long.Goals as goal

pub returns : goal.returns
returns g c =
    let first = g.O.Sink.seen c.args.out.now in
    c.finish.ensures _ _ (c.put_reply.ensures _ _ (c.new-printer.ensures first))
