use Rattle.std.proofs.Common.{◌≡◌, take, map}
use Rattle.kn_answer.proofs.built.ids_of.Given as goal

abbrev pub invariant-loop-part : goal.invariant-loop-part
invariant-loop-part l = l.ids ≡ map (λ part. part.id) (take l.part-index l.list)
