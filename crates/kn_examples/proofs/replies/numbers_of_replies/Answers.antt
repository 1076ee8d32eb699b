use Rattle.std.proofs.Common.{refl}
use Rattle.std.specs.Fmt.{digits}
use Rattle.kn_examples.proofs.replies.numbers_of_replies.Goals as goal

pub returns : goal.returns
unfolding digits
returns c = record {
  version = refl;
  own = refl;
  shared = refl;
  zero = refl;
}
