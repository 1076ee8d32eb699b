use Rattle.std.proofs.Common.{◌≡◌, ◌+◌, ◌<◌, ℕ, List, length, slice_index, sym, ap, ◌∙◌, arith}
use Rattle.std.proofs.lemmas.Result.{IfOk-weaker}
use Rattle.kn_system.specs.Equations.{SystemEquations, row_at}
use Rattle.kn_settle.proofs.QuerySystems.{ceiling-capped, length-capped}
use Rattle.kn_settle.proofs.query_system.QuerySystem.ceiling.Goals as goal

pub ceiling-requires : goal.ceiling-requires
ceiling-requires g c =
    let base : SystemEquations = c.self.inside.base.now in
    omega (
      arith,
      ap (λ (e : SystemEquations). length e.rows) c.self.view_is,
      length-capped (g.C.Ceilings.each c.self.inside.ceilings.now) 0 base.rows,
      c.self.invariant.1,
      c.requires,
    )

pub returns-clause-exact : goal.returns-clause-exact
returns-clause-exact g c =
    let base : SystemEquations = c.self.inside.base.now in
    let each : List ℕ = g.C.Ceilings.each c.self.inside.ceilings.now in
    let row : ℕ = c.args.row in
    let within : row < length base.rows =
    omega (
      arith,
      ap (λ (e : SystemEquations). length e.rows) c.self.view_is,
      length-capped each 0 base.rows,
      c.requires,
    ) in
    let z : 0 + row ≡ row = omega arith in
    let same : slice_index each row ≡ (row_at c.args.self.now.rows row).ceiling =
    sym (ceiling-capped each 0 row base.rows within ∙ ap (slice_index each) z)
    ∙ ap (λ (e : SystemEquations). (row_at e.rows row).ceiling) c.self.view_is in
    IfOk-weaker c.ceiling.result _ _ (λ ceiling is. is ∙ same) c.ceiling.ensures.exact
