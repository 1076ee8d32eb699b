use Rattle.std.proofs.Common.{ℕ, List, [], length, replicate, sym, ◌∙◌, arith}
use Rattle.std.proofs.lemmas.List.{ext_get_or, get_or-replicate, length-replicate}
use Rattle.kn_settle.proofs.counters.clear_buckets.Goals as goal

pub returns : goal.returns
returns c =
    let xs : List (List ℕ) = c.loop-level.buckets.items in
    let n : ℕ = length c.args.buckets.now.items in
    let empty : List ℕ = [] in
    ext_get_or empty xs (replicate n empty) (c.loop-level.invariant.size ∙ sym (length-replicate n empty))
    (λ k l. c.loop-level.invariant.done k (omega (arith, l, c.loop-level.invariant.size))
    ∙ sym (get_or-replicate n k empty empty (omega (arith, l, c.loop-level.invariant.size))))
