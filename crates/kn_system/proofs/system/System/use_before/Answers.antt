use Rattle.std.proofs.Common.{length, ap, sym, ◌∙◌, arith}
use Rattle.kn_system.specs.Equations.{SystemEquations, node_total}
use Rattle.kn_system.specs.KeptRows.{kept_rows}
use Rattle.kn_system.proofs.KeptRows.{length-pieces_of}
use Rattle.kn_system.proofs.system.System.use_before.Goals as goal

pub use_before-requires : goal.use_before-requires
use_before-requires g c =
    let s = c.self.inside in
    let size = ap length (sym c.self.invariant.1.pieces) ∙ length-pieces_of (kept_rows s.flat.pieces s.rows)
    ∙ ap (λ (e : SystemEquations). node_total e.rows) c.self.view_is in
    omega (arith, size, c.requires)
