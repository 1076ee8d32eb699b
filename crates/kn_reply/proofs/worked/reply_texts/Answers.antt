use Rattle.std.proofs.Common.{refl}
use Rattle.std.specs.Fmt.{digits}
use Rattle.kn_reply.proofs.worked.reply_texts.Goals as goal

pub returns-clause-started : goal.returns-clause-started
unfolding digits
returns-clause-started c = refl

pub returns-clause-granted : goal.returns-clause-granted
unfolding digits
returns-clause-granted c = refl

pub returns-clause-denied : goal.returns-clause-denied
unfolding digits
returns-clause-denied c = refl

pub returns-clause-limit : goal.returns-clause-limit
unfolding digits
returns-clause-limit c = refl

pub returns-clause-read : goal.returns-clause-read
unfolding digits
returns-clause-read c = refl

pub returns-clause-batched : goal.returns-clause-batched
unfolding digits
returns-clause-batched c = refl

pub returns-clause-pinned_at : goal.returns-clause-pinned_at
unfolding digits
returns-clause-pinned_at c = refl

pub returns-clause-log : goal.returns-clause-log
unfolding digits
returns-clause-log c = refl

pub returns-clause-log_end : goal.returns-clause-log_end
unfolding digits
returns-clause-log_end c = refl

pub returns-clause-batch : goal.returns-clause-batch
unfolding digits
returns-clause-batch c = refl

pub returns-clause-item : goal.returns-clause-item
unfolding digits
returns-clause-item c = refl

pub returns-clause-retained : goal.returns-clause-retained
unfolding digits
returns-clause-retained c = refl

pub returns-clause-ahead : goal.returns-clause-ahead
unfolding digits
returns-clause-ahead c = refl

pub returns-clause-news : goal.returns-clause-news
unfolding digits
returns-clause-news c = refl

pub returns-clause-critical : goal.returns-clause-critical
unfolding digits
returns-clause-critical c = refl

pub returns-clause-none_critical : goal.returns-clause-none_critical
unfolding digits
returns-clause-none_critical c = refl

pub returns-clause-nodes : goal.returns-clause-nodes
unfolding digits
returns-clause-nodes c = refl
