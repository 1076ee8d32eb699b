use Rattle.kn_meaning.proofs.Walks.{formula_levels}
use Rattle.kn_examples.proofs.formulas.formula_levels.Goals as goal

pub returns : goal.returns
returns c = record {
  principal = simp formula_levels;
  stranger = simp formula_levels;
  both = simp formula_levels;
  all = simp formula_levels;
  either = simp formula_levels;
  any = simp formula_levels;
  one_of_three = simp formula_levels;
  two_of_three = simp formula_levels;
  three_of_three = simp formula_levels;
  written_twice = simp formula_levels;
  nested = simp formula_levels;
}
