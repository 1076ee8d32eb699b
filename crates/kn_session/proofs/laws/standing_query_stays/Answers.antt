use Rattle.kn_session.proofs.StandingQueries.{calls_keep_standing, others_keep_standing, pins_keep_standing}
use Rattle.kn_session.proofs.StandingQueries.{moves_version_alone}
use Rattle.kn_session.proofs.laws.standing_query_stays.Goals as goal

pub returns : goal.returns
returns c = record {
  calls = calls_keep_standing;
  others = others_keep_standing;
  pins = pins_keep_standing;
  moves = moves_version_alone;
}
