use Rattle.kn_history.proofs.Batches.{refused_items, ids-go_on, batch-follows, items-determine}
use Rattle.kn_history.proofs.laws.batches_follow.Goals as goal

pub returns-clause-refused : goal.returns-clause-refused
returns-clause-refused c = refused_items

pub returns-clause-ids : goal.returns-clause-ids
returns-clause-ids c = ids-go_on

pub returns-clause-follows : goal.returns-clause-follows
returns-clause-follows c = batch-follows

pub returns-clause-determined : goal.returns-clause-determined
returns-clause-determined c = items-determine
