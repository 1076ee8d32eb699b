use Rattle.std.proofs.Common.{◌≡◌, map, take}
use Rattle.kn_wire.specs.ItemsInCode as C
use Rattle.kn_reply.specs.Logs.{item_of}
use Rattle.kn_serve.specs.Admission.{AdmitsAll}
use Rattle.kn_serve.proofs.admission.admit_items.Given as goal

abbrev pub invariant-loop-part : goal.invariant-loop-part
invariant-loop-part g l =
    (l.admitted ≡ map item_of (map C.item_of (take l.part-index l.items)))
    × AdmitsAll (g.A.Authenticator.verdict l.fn.authenticator) (map C.item_of (take l.part-index l.items))
