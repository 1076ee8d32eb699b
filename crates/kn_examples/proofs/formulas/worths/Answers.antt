use Rattle.std.proofs.Common.{refl}
use Rattle.kn_meaning.proofs.Walks.{formula_levels}
use Rattle.kn_examples.proofs.formulas.worths.Goals as goal

pub returns : goal.returns
returns c = record {
  conditions = simp formula_levels;
  licensees = simp formula_levels;
  equal = simp formula_levels;
  no_licensees = refl;
}
