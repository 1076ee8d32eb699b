use Rattle.std.proofs.Common.{ap, sym, ◌∙◌}
use Rattle.kn_system.specs.Equations.{SystemEquations, leaf_total}
use Rattle.kn_system.specs.Form.{leaf_count}
use Rattle.kn_system.specs.KeptRows.{kept_rows}
use Rattle.kn_system.proofs.AddedRows.{leaf_count-pieces_of}
use Rattle.kn_system.proofs.system.System.uses_total.Goals as goal

pub returns : goal.returns
returns g c =
    let s = c.self.inside in
    c.leaves.ensures ∙ ap leaf_count (sym c.self.invariant.1.pieces)
    ∙ leaf_count-pieces_of (kept_rows s.flat.pieces s.rows)
    ∙ ap (λ (e : SystemEquations). leaf_total e.rows) c.self.view_is
