use Rattle.std.proofs.Common.{◌≡◌, List, slice_get, sym, ap, ◌∙◌, arith}
use Rattle.kn_system.specs.Equations.{SystemEquations, node_total}
use Rattle.kn_system.specs.Nodes.{pieces_of, use_before_at, uses_of}
use Rattle.kn_system.specs.declared.rows.Piece.{Piece}
use Rattle.kn_settle.proofs.QuerySystems.{nodes-capped, pieces-capped}
use Rattle.kn_settle.proofs.query_system.QuerySystem.use_before.Goals as goal

pub use_before-requires : goal.use_before-requires
use_before-requires g c =
    let base : SystemEquations = c.self.inside.base.now in
    omega (
      arith,
      ap (λ (e : SystemEquations). node_total e.rows) c.self.view_is,
      nodes-capped (g.C.Ceilings.each c.self.inside.ceilings.now) 0 base.rows,
      c.requires,
    )

pub returns-clause-exact : goal.returns-clause-exact
returns-clause-exact g c = λ principal k found.
    let base : SystemEquations = c.self.inside.base.now in
    let same : pieces_of base.rows ≡ pieces_of c.args.self.now.rows =
    sym (pieces-capped (g.C.Ceilings.each c.self.inside.ceilings.now) 0 base.rows)
    ∙ ap (λ (e : SystemEquations). pieces_of e.rows) c.self.view_is in
    c.use_before.ensures.exact principal k (ap (λ (ps : List Piece). slice_get (uses_of principal ps) k) same ∙ found)
    ∙ ap (λ (ps : List Piece). use_before_at (uses_of principal ps) k) same
