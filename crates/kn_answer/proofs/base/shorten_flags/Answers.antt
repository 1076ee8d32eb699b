use Rattle.std.proofs.Common.{◌≡◌, ◌+◌, ◌<◌, ◌≤◌, Bool, List, length, take, sym, ap, ◌∙◌, arith}
use Rattle.std.proofs.lemmas.List.{length_push, take-take}
use Rattle.kn_system.proofs.WithoutLast.{popped_last, take-init}
use Rattle.kn_answer.proofs.base.shorten_flags.Goals as goal

pub loop-place-preserved : goal.loop-place-preserved
loop-place-preserved c =
    let old : List Bool = c.loop-place.flags in
    let left : List Bool = c.pop-last.new.self in
    let some : 0 < length old =
    omega (arith, c.loop-place.invariant.size, c.loop-place-test.true, c.len-place-end.ensures) in
    let (last, whole) = popped_last old left c.pop-last.result c.pop-last.ensures some in
    let size : length old ≡ length left + 1 = omega (arith, ap length whole, length_push left last) in
    let shorter : length left ≤ length old = omega (arith, size) in
    record {
      size = omega (arith, size, c.loop-place.invariant.size);
      same =
          sym (take-init left last) ∙ ap (take (length left)) (sym whole)
          ∙ ap (take (length left)) c.loop-place.invariant.same
          ∙ take-take (length left) (length old) c.args.flags.now shorter;
    }
