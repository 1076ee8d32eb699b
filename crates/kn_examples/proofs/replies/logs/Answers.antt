use Rattle.std.proofs.Common.{refl}
use Rattle.std.specs.Fmt.{digits}
use Rattle.kn_examples.proofs.replies.logs.Goals as goal

pub returns-clause-several_changes : goal.returns-clause-several_changes
unfolding digits
returns-clause-several_changes c = refl
