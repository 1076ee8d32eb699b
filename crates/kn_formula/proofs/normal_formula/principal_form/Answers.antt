use Rattle.std.proofs.Common.{Err, ap, arith}
use Rattle.kn_principal.specs.declared.principal.PrincipalFault.{PrincipalFault}
use Rattle.kn_formula.proofs.TreeLemmas.{long_text}
use Rattle.kn_formula.proofs.normal_formula.principal_form.Goals as goal

pub returns-in-Err-TooLong : goal.returns-in-Err-TooLong
returns-in-Err-TooLong c =
    let long = (c.in-Err-TooLong.ensures.too_long c.in-Err-TooLong.field-0-0).0
    (ap (λ (fault : PrincipalFault). Err fault) c.in-Err-TooLong.field-0-is) in
    long_text c.in-Some.text.now _ c.in-Some.ensures (omega (arith, long))
