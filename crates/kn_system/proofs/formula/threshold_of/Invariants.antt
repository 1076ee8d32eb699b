use Rattle.std.proofs.Common.{◌≡◌, ℕ, ◌+◌, ◌-◌, ◌*◌, ◌<◌, ◌≤◌, ◌^◌, List, All}
use Rattle.kn_base.specs.Threshold.{reaching}
use Rattle.kn_system.specs.Forms.{AreTallied}
use Rattle.kn_system.proofs.formula.threshold_of.Given as goal

abbrev pub invariant-loop-level : goal.invariant-loop-level
invariant-loop-level l = record {
  low : l.level ≤ l.top;
  fits : l.reaching ≤ (l.top - l.level) * 2 ^ 32;
  counted : (levels : List ℕ) → AreTallied l.tally levels → All (λ level. level ≤ l.top) levels
      → l.reaching ≡ reaching (l.level + 1) levels;
  few : (levels : List ℕ) → AreTallied l.tally levels → All (λ level. level ≤ l.top) levels → (u : ℕ) → l.level < u
      → u ≤ l.top → reaching u levels < l.need;
}

abbrev pub decreases-loop-level : goal.decreases-loop-level
decreases-loop-level l = l.level
