use Rattle.std.proofs.Common.{◌≡◌, ◌==◌, false, take, All}
use Rattle.kn_base.proofs.text.cut.Given as goal

abbrev pub invariant-loop-place : goal.invariant-loop-place
invariant-loop-place l = All (λ b. (b == l.at) ≡ false) (take l.place l.text)
