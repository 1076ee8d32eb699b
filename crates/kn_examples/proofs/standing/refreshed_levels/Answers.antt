use Rattle.std.proofs.Common.{refl}
use Rattle.kn_examples.specs.Licensing.{third_authorizer}
use Rattle.kn_examples.proofs.Affected.{has-changed, has-row, has-users, least-affected}
use Rattle.kn_examples.proofs.standing.refreshed_levels.Goals as goal

pub returns-clause-affected : goal.returns-clause-affected
returns-clause-affected c = record {
  size = refl;
  changed_rows = has-changed;
  users = has-users;
  least = λ others changed users. least-affected others changed;
}

pub returns-clause-policy : goal.returns-clause-policy
returns-clause-policy c = record { affected = third_authorizer; has_rows = has-row; users = has-users; without = refl }
