use Rattle.kn_daemon.proofs.LevelReplies.{watch-tells_value, critical-tells_value, news-tells_value}
use Rattle.kn_daemon.proofs.laws.questions_tell_one_level.Goals as goal

pub returns : goal.returns
returns c = record {
  watch = watch-tells_value;
  critical = critical-tells_value;
  news =
      λ g caller past old new after session values s names index name version rows level text number. news-tells_value g
      caller past old new after s names index name version rows session values level text number;
}
