use Rattle.std.proofs.Common.{length, sym, ap, ◌∙◌, arith}
use Rattle.kn_system.specs.Equations.{SystemEquations, row_at}
use Rattle.kn_settle.proofs.QuerySystems.{authorizer-capped, length-capped, length-flags}
use Rattle.kn_settle.proofs.query_system.QuerySystem.authorizer.Goals as goal

pub authorizer-requires : goal.authorizer-requires
authorizer-requires g c =
    let base : SystemEquations = c.self.inside.base.now in
    omega (
      arith,
      ap (λ (e : SystemEquations). length e.rows) c.self.view_is,
      length-capped (g.C.Ceilings.each c.self.inside.ceilings.now) 0 base.rows,
      c.requires,
    )

pub returns-clause-exact : goal.returns-clause-exact
returns-clause-exact g c =
    let base : SystemEquations = c.self.inside.base.now in
    c.authorizer.ensures.exact
    ∙ sym (authorizer-capped (g.C.Ceilings.each c.self.inside.ceilings.now) 0 c.args.row base.rows)
    ∙ ap (λ (e : SystemEquations). (row_at e.rows c.args.row).authorizer) c.self.view_is

pub returns-clause-in_range : goal.returns-clause-in_range
returns-clause-in_range g c =
    let base : SystemEquations = c.self.inside.base.now in
    omega (
      arith,
      ap (λ (e : SystemEquations). length e.requesters) c.self.view_is,
      length-flags c.self.inside.requesters.now 0 (length base.requesters),
      c.authorizer.ensures.in_range,
    )
