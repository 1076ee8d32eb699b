use Rattle.std.proofs.Common.{length, sym, ap, ◌∙◌, arith}
use Rattle.kn_system.specs.Equations.{SystemEquations}
use Rattle.kn_system.specs.Nodes.{pieces_of, use_before_at, uses_of}
use Rattle.kn_settle.proofs.QuerySystems.{length-flags, pieces-capped}
use Rattle.kn_settle.proofs.query_system.QuerySystem.last_use.Goals as goal

pub last_use-requires : goal.last_use-requires
last_use-requires g c =
    let base : SystemEquations = c.self.inside.base.now in
    omega (
      arith,
      ap (λ (e : SystemEquations). length e.requesters) c.self.view_is,
      length-flags c.self.inside.requesters.now 0 (length base.requesters),
      c.requires,
    )

pub returns-clause-exact : goal.returns-clause-exact
returns-clause-exact g c =
    let base : SystemEquations = c.self.inside.base.now in
    c.last_use.ensures.exact
    ∙ ap (λ ps. use_before_at (uses_of c.args.principal ps) (length (uses_of c.args.principal ps)))
    (sym (pieces-capped (g.C.Ceilings.each c.self.inside.ceilings.now) 0 base.rows)
    ∙ ap (λ (e : SystemEquations). pieces_of e.rows) c.self.view_is)
