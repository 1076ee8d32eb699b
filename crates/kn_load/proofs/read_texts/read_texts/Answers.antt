use Rattle.std.proofs.Common.{◌≡◌, ◌+◌, [], ◌∷◌, ◌++◌, take, arith}
use Rattle.std.proofs.lemmas.Grind.{common_steps}
use Rattle.kn_load.proofs.read_texts.read_texts.Goals as goal

pub loop-text-preserved : goal.loop-text-preserved
loop-text-preserved c =
    let items = c.as_slice-items.result.now in
    let index = c.loop-text.text-index in
    let text = c.as_slice.result.now in
    let longer : take (index + 1) items ≡ take index items ++ text ∷ [] = grind (arith, common_steps) in
    rw longer (c.in_ok-add_result.ensures (take index items) text c.loop-text.invariant c.read_result.ensures)
