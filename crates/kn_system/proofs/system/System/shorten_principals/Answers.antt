use Rattle.std.proofs.Common.{◌≤◌, ◌-◌, All, List, length, sym, ap, subst, arith}
use Rattle.kn_system.specs.Equations.{IsRowOver, SystemEquations}
use Rattle.kn_system.specs.Rows.{SystemRow}
use Rattle.kn_system.proofs.WithoutLast.{over-more}
use Rattle.kn_system.proofs.system.System.shorten_principals.Goals as goal

pub pop_principal-requires-clause-over_others : goal.pop_principal-requires-clause-over_others
pop_principal-requires-clause-over_others g c =
    let rows = ap (λ (e : SystemEquations). e.rows) c.loop-principal.invariant.same in
    let more : c.args.principals ≤ length c.loop-principal.self.requesters - 1 =
    omega (
      arith,
      c.loop-principal.invariant.size,
      c.loop-principal-test.true,
      c.principals-principal-end.ensures.exact,
    ) in
    subst (λ (rs : List SystemRow). All (IsRowOver (length c.loop-principal.self.requesters - 1)) rs) (sym rows)
    (over-more c.args.principals (length c.loop-principal.self.requesters - 1) more c.args.self.now.rows
    c.requires.over_them)
