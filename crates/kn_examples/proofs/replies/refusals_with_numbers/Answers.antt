use Rattle.std.proofs.Common.{refl}
use Rattle.std.specs.Fmt.{digits}
use Rattle.kn_examples.proofs.replies.refusals_with_numbers.Goals as goal

pub returns : goal.returns
unfolding digits
returns c = record {
  read = refl;
  auth = refl;
  item_read = refl;
  item_auth = refl;
  item_limit = refl;
  last_batch_item = refl;
}
