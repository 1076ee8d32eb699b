use Rattle.std.proofs.Common.{length, drop, ap}
use Rattle.kn_registry.specs.Passes.{PassSeen}
use Rattle.kn_workers.proofs.ConnectionLaws.{is_connection, moves_shown}
use Rattle.kn_workers.proofs.served.serve_link.Goals as goal

pub returns-clause-connection : goal.returns-clause-connection
returns-clause-connection g c =
    let called = c.serve_with_base-ended.ensures in
    is_connection _ _ _ _ _ _ _ _ _ _ _ c.requires.new called.serves called.complete c.number.ensures.number
    c.seen_length-from.ensures c.seen_length.ensures
    (ap (λ (p : PassSeen × PassSeen). drop (length p.0.stops) p.1.stops)
    (λ i. (c.of-before.ensures i, c.of-after.ensures i)))

pub returns-clause-moves : goal.returns-clause-moves
returns-clause-moves g c =
    moves_shown _ _ _ _ _ _ _ c.serve_with_base-ended.ensures.serves
    (ap (λ (p : PassSeen × PassSeen). drop (length p.0.stops) p.1.stops)
    (λ i. (c.of-before.ensures i, c.of-after.ensures i)))
