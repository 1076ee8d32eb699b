use Rattle.std.proofs.Common.{slice_index_or, sym, ap, ◌∙◌, arith}
use Rattle.kn_system.specs.declared.nodes.Up.TheVariants.{Row}
use Rattle.kn_system.specs.declared.rows.Piece.TheVariants.{Who}
use Rattle.kn_system.specs.Equations.{SystemEquations, node_total}
use Rattle.kn_system.specs.Nodes.{pieces_of, sort_of, ups_of_rows}
use Rattle.kn_settle.proofs.QuerySystems.{nodes-capped, pieces-capped, ups-capped}
use Rattle.kn_settle.proofs.query_system.QuerySystem.node.Goals as goal

pub node-requires : goal.node-requires
node-requires g c =
    let base : SystemEquations = c.self.inside.base.now in
    omega (
      arith,
      ap (λ (e : SystemEquations). node_total e.rows) c.self.view_is,
      nodes-capped (g.C.Ceilings.each c.self.inside.ceilings.now) 0 base.rows,
      c.requires,
    )

pub returns-clause-sort : goal.returns-clause-sort
returns-clause-sort g c =
    let base : SystemEquations = c.self.inside.base.now in
    c.node.ensures.sort
    ∙ ap (λ ps. sort_of (slice_index_or ps c.args.i (Who 0)))
    (sym (pieces-capped (g.C.Ceilings.each c.self.inside.ceilings.now) 0 base.rows))
    ∙ ap (λ (e : SystemEquations). sort_of (slice_index_or (pieces_of e.rows) c.args.i (Who 0))) c.self.view_is

pub returns-clause-up : goal.returns-clause-up
returns-clause-up g c =
    let base : SystemEquations = c.self.inside.base.now in
    c.node.ensures.up
    ∙ ap (λ us. slice_index_or us c.args.i (Row 0))
    (sym (ups-capped (g.C.Ceilings.each c.self.inside.ceilings.now) 0 base.rows))
    ∙ ap (λ (e : SystemEquations). slice_index_or (ups_of_rows e.rows) c.args.i (Row 0)) c.self.view_is
