use Rattle.std.proofs.Common.{refl}
use Rattle.kn_program.specs.Conditions.{program_of}
use Rattle.kn_examples.proofs.programs.no_conditions.Goals as goal

pub returns : goal.returns
unfolding program_of
returns c = record {
  nothing = refl;
  highest = refl;
}
