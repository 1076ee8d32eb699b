use Rattle.kn_history.proofs.Ordered.{credentials-by_update, valid-ids_ascend}
use Rattle.kn_history.proofs.laws.updates_change_credentials.Goals as goal

pub returns-clause-changes : goal.returns-clause-changes
returns-clause-changes c = credentials-by_update

pub returns-clause-ids : goal.returns-clause-ids
returns-clause-ids c = valid-ids_ascend
