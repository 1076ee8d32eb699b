use Rattle.std.proofs.Common.{◌≡◌, ℕ, List, [], length, replicate, take, sym, ap, subst, arith}
use Rattle.std.proofs.lemmas.List.{length-take}
use Rattle.kn_settle.proofs.Trails.{same-taken}
use Rattle.kn_settle.proofs.scratch.fit_buckets.Goals as goal

pub loop-alloc-init : goal.loop-alloc-init
loop-alloc-init c =
    let old : List (List ℕ) = c.args.buckets.now.items in
    let new : List (List ℕ) = c.truncate.new.self.items in
    let empty : List ℕ = [] in
    let cut : new ≡ take c.args.size old = c.truncate.ensures.items in
    let size : length new ≡ length (take c.args.size old) = ap length cut in
    let short = length-take c.args.size old in
    record {
      none = subst (λ (xs : List (List ℕ)). xs ≡ replicate (length xs) empty) (sym cut)
          (same-taken old (length old) c.args.size empty c.requires);
      short = omega (arith, size, short);
    }
