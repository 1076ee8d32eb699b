use Rattle.std.proofs.Common.{refl}
use Rattle.std.specs.Fmt.{digits}
use Rattle.kn_examples.proofs.replies.limit_words.Goals as goal

pub returns : goal.returns
unfolding digits
returns c = record {
  sessions = refl;
  privates = refl;
  private_bytes = refl;
  requesters = refl;
  attributes = refl;
  live = refl;
  live_bytes = refl;
  updates = refl;
  log_bytes = refl;
  nodes = refl;
}
