use Rattle.kn_principal.proofs.NormalForms.{no_colon, hexadecimal_form, other_form}
use Rattle.kn_principal.proofs.principal.caseless_len.Goals as goal

pub returns-in_default-clause-form : goal.returns-in_default-clause-form
returns-in_default-clause-form c = no_colon c.args.principal.now (cc)

pub returns-then-is_hexadecimal-clause-form : goal.returns-then-is_hexadecimal-clause-form
returns-then-is_hexadecimal-clause-form c = hexadecimal_form c.args.principal.now c.in-Some.at (cc) (cc)

pub returns-else-is_hexadecimal-clause-form : goal.returns-else-is_hexadecimal-clause-form
returns-else-is_hexadecimal-clause-form c = other_form c.args.principal.now c.in-Some.at (cc) (cc)
