use Rattle.std.proofs.Common.{refl}
use Rattle.kn_env.specs.Environment.{name_value}
use Rattle.kn_examples.proofs.environment.names_of_an_assertion.Goals as goal

pub returns : goal.returns
unfolding name_value
returns c = record {
  attribute = refl;
  absent = refl;
  upper_case = refl;
  of_the_query = refl;
  constant = refl;
  constant_first = refl;
  other_attribute = refl;
  no_constant = refl;
}
