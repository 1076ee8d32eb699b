use Rattle.std.proofs.Common.{ℕ, List, subst}
use Rattle.kn_reply.specs.Gathering.{Gathered}
use Rattle.kn_reply.proofs.LogParts.{log_parts}
use Rattle.kn_reply.proofs.log_printing.put_log.Goals as goal

pub returns : goal.returns
returns g c = λ text first before.
    subst (λ (t : List ℕ). Gathered t first c.put.new.self (g.O.Sink.seen c.put.new.out))
    (log_parts text c.args.n c.min-from.result c.min-to.result c.number-place.result c.args.version.now
    c.number-place.ensures.number (record { begins = c.min-from.ensures; ends = c.min-to.ensures }))
    (c.put.ensures _ _ (c.put_updates.ensures _ _ (c.put_two.ensures _ _ (c.put_behind.ensures text first before))))
