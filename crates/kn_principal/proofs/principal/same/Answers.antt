use Rattle.std.proofs.Common.{arith}
use Rattle.std.proofs.lemmas.Grind.{common_steps}
use Rattle.kn_principal.proofs.NormalForms.{eq_form}
use Rattle.kn_principal.proofs.principal.same.Goals as goal

pub returns-then-lowers_to : goal.returns-then-lowers_to
returns-then-lowers_to c =
    let parts = eq_form c.args.principal.now c.args.normal.now c.caseless_len-len.result
    c.caseless_len-len.ensures.within (omega arith) c.caseless_len-len.ensures.form in
    grind (arith, common_steps, parts)

pub returns-else-lowers_to : goal.returns-else-lowers_to
returns-else-lowers_to c =
    let parts = eq_form c.args.principal.now c.args.normal.now c.caseless_len-len.result
    c.caseless_len-len.ensures.within (omega arith) c.caseless_len-len.ensures.form in
    grind (arith, common_steps, parts)
