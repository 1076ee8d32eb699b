use Rattle.kn_principal.proofs.NormalForms.{form_twice}
use Rattle.kn_principal.proofs.laws.normal_again.Goals as goal

pub returns : goal.returns
returns c = form_twice
