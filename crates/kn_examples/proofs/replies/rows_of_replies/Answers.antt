use Rattle.std.proofs.Common.{refl}
use Rattle.std.specs.Fmt.{digits}
use Rattle.kn_examples.proofs.replies.rows_of_replies.Goals as goal

pub returns : goal.returns
unfolding digits
returns c = record {
  in_order = refl;
  quotes = refl;
  other_bytes = refl;
  needs = refl;
}
