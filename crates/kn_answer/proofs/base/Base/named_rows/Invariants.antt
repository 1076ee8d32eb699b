use Rattle.std.proofs.Common.{map, take}
use Rattle.kn_system.specs.Equations.{SystemEquations}
use Rattle.kn_answer.specs.Located.{AreLocated}
use Rattle.kn_answer.proofs.base.Base.named_rows.Given as goal

abbrev pub invariant-loop-row : goal.invariant-loop-row
invariant-loop-row g l = (s : SystemEquations)
    → AreLocated (record {
      names = l.self.names;
      system = s;
      ids =
          map (λ part. part.id) (g.I.Ids.parts l.ids);
    }) l.rows (take l.row-index l.proof.rows)
