use Rattle.std.proofs.Common.{ℕ, List, subst, arith}
use Rattle.kn_reply.specs.Gathering.{Gathered}
use Rattle.kn_reply.proofs.LogParts.{updates_more}
use Rattle.kn_reply.proofs.log_printing.put_updates.Goals as goal

pub loop-i-preserved : goal.loop-i-preserved
loop-i-preserved g c = record {
  begun = omega (arith, c.loop-i.invariant.begun);
  put = λ text first before.
      subst (λ (t : List ℕ). Gathered t first c.put_update.new.printer (g.O.Sink.seen c.put_update.new.out))
      (updates_more text c.args.version.now c.args.from c.loop-i.i c.update.result.now c.loop-i.invariant.begun
      c.update.ensures.update)
      (c.put_update.ensures _ _ (c.loop-i.invariant.put text first before));
}
