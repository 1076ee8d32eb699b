use Rattle.kn_worked.proofs.Standing.{standing_query_is_reported, requester_is_kept}
use Rattle.kn_worked.proofs.connections.standing_query_is_reported.Goals as goal

pub returns : goal.returns
returns c = record { versions = standing_query_is_reported; kept = requester_is_kept }
