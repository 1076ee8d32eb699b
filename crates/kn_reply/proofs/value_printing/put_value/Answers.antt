use Rattle.std.proofs.Common.{ℕ, List, subst}
use Rattle.kn_reply.specs.Gathering.{Gathered}
use Rattle.kn_reply.proofs.Gathering.{value_parts}
use Rattle.kn_reply.proofs.value_printing.put_value.Goals as goal

pub returns : goal.returns
returns g c = λ text first before.
    subst (λ (t : List ℕ). Gathered t first c.put-5.new.self (g.O.Sink.seen c.put-5.new.out))
    (value_parts text c.args.name.now c.args.rows.now c.args.index c.args.version c.from.result c.len.result
    c.from.ensures c.len.ensures)
    (c.put-5.ensures _ _
    (c.put_rows.ensures _ _
    (c.put_two.ensures _ _
    (c.put-4.ensures _ _
    (c.put-3.ensures _ _ (c.put-2.ensures _ _ (c.put_number.ensures _ _ (c.put.ensures text first before))))))))
