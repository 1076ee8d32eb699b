use Rattle.std.proofs.Common.{arith, sym, ◌∙◌}
use Rattle.kn_lex.proofs.Scans.{quote_on}
use Rattle.kn_lex.proofs.quote.quote_len.Goals as goal

pub loop-at-preserved : goal.loop-at-preserved
loop-at-preserved c = record {
  within = omega (arith, c.stay_len-at.ensures.within, c.split_at.ensures.back_len);
  counted = quote_on _ _ _ _ _ c.loop-at-test.true (sym c.quote_step.ensures
      ∙ c.in-Go.is) (rw c.split_at.ensures.back at c.stay_len-at.ensures.len) c.loop-at.invariant.counted;
}
