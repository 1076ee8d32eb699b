use Rattle.std.proofs.Common.{refl}
use Rattle.kn_meaning.proofs.Walks.{formula_levels}
use Rattle.kn_examples.proofs.formulas.rounds.Goals as goal

pub returns : goal.returns
returns c = record {
  requester = refl;
  highest = simp formula_levels;
  one = simp formula_levels;
  none = refl;
}
