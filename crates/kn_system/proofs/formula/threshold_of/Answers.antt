use Rattle.std.proofs.Common.{◌≡◌, ◌+◌, ◌-◌, inl, inr, sym, ap, ◌∙◌, arith}
use Rattle.std.proofs.lemmas.Bool.{cases_lt}
use Rattle.kn_base.specs.Threshold.{reaching}
use Rattle.kn_system.proofs.Tallied.{reaching-none, reaching-at, threshold-is}
use Rattle.kn_system.proofs.formula.threshold_of.Goals as goal

pub loop-level-init : goal.loop-level-init
loop-level-init c = record {
  low = omega arith;
  fits = omega arith;
  counted = λ levels tallied low. sym (reaching-none c.args.top levels low);
  few = λ levels tallied low u above most. absurd (omega arith);
}

pub returns-then-reaching-from-clause-exact : goal.returns-then-reaching-from-clause-exact
returns-then-reaching-from-clause-exact c = λ levels tallied low.
    let level = c.loop-level.level in
    let here = reaching-at c.args.tally.now level c.loop-level.reaching levels (omega arith) tallied
    (c.loop-level.invariant.counted levels tallied low) in
    threshold-is c.args.top c.args.need level levels c.loop-level.invariant.low (λ _. omega (arith, here))
    (c.loop-level.invariant.few levels tallied low)

pub loop-level-preserved : goal.loop-level-preserved
loop-level-preserved c =
    let level = c.loop-level.level in
    record {
      low = omega arith;
      fits = omega (arith, c.fits-tally level);
      counted = λ levels tallied low.
          let here = reaching-at c.args.tally.now level c.loop-level.reaching levels (omega arith) tallied
          (c.loop-level.invariant.counted levels tallied low) in
          let same : level ≡ level - 1 + 1 = omega arith in
          ap (λ r. c.loop-level.reaching + r) c.from-reaching.ensures ∙ here ∙ ap (λ v. reaching v levels) same;
      few = λ levels tallied low u above most.
          let here = reaching-at c.args.tally.now level c.loop-level.reaching levels (omega arith) tallied
          (c.loop-level.invariant.counted levels tallied low) in
          elim (cases_lt level u) [
            | inl higher ↦ c.loop-level.invariant.few levels tallied low u higher most
            | inr not_higher ↦
                let same : u ≡ level = omega arith in
                omega (arith, here, ap (λ v. reaching v levels) same)
          ];
    }

pub returns-clause-exact : goal.returns-clause-exact
returns-clause-exact c = λ levels tallied low.
    threshold-is c.args.top c.args.need 0 levels (omega arith) (λ some. absurd (omega arith))
    (λ u above most. c.loop-level.invariant.few levels tallied low u (omega arith) most)
