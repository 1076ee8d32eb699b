use Rattle.std.proofs.Common.{◌≡◌, ◌<◌, ◌≤◌, ℕ, Bool, true, false, cond, nat_lt, Option, Some, None, refl, ap, ◌∙◌}
use Rattle.std.proofs.Common.{subst, arith}
use Rattle.std.specs.Prelude.{IfSome}
use Rattle.std.proofs.lemmas.Bool.{ltb-true}
use Rattle.kn_base.specs.declared.limits.TheConstants.{CRITICAL_NODES}
use Rattle.kn_meaning.specs.Critical.{equation_nodes}
use Rattle.kn_meaning.specs.Equations.{equations_over}
use Rattle.kn_critical.specs.Faults.{critical_fault}
use Rattle.kn_critical.specs.declared.fault.CriticalFault.TheVariants as F
use Rattle.kn_critical.proofs.search.find_critical.Goals as goal

few : (n : ℕ) → n ≤ CRITICAL_NODES → critical_fault n ≡ None
few n within = by (nat_lt CRITICAL_NODES n) refl
  where
    by : (b : Bool) → nat_lt CRITICAL_NODES n ≡ b → critical_fault n ≡ None
    by true e = let above : CRITICAL_NODES < n = ltb-true CRITICAL_NODES n e in absurd (omega (arith, above, within))
    by false e = ap (λ (b : Bool). cond b (Some (F.Large n)) None) e

in-some : {X : Type 0} (P : X → Type 0) (found : Option X) (x : X) → found ≡ Some x → IfSome found P → P x
in-some P found x is h = subst (λ f. IfSome f P) is h

pub returns-clause-accepted : goal.returns-clause-accepted
returns-clause-accepted c =
    let of = in-some _ c.in_ok-base.field-0 c.in-Some.base c.in-Some.is c.in_ok-base.ensures.base in
    let small = in-some _ c.in_ok-base.field-0 c.in-Some.base c.in-Some.is c.in_ok-base.ensures.small in
    let nodes = c.bases_have_nodes.ensures c.args.list.now c.in-Some.base.names c.in-Some.base.system of
    c.args.query.now in
    few (equation_nodes (equations_over c.args.query.now c.args.list.now)) (omega (arith, nodes, small))
