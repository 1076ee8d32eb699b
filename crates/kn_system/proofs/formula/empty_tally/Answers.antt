use Rattle.std.proofs.lemmas.List.{get_or-replicate}
use Rattle.kn_system.proofs.formula.empty_tally.Goals as goal

pub returns-clause-none : goal.returns-clause-none
returns-clause-none c = λ level l. get_or-replicate 64 level 0 0 l
