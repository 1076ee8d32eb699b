use Rattle.kn_daemon.proofs.Standing.{news-of_place, watch-of_pin}
use Rattle.kn_daemon.proofs.laws.news_is_of_place.Goals as goal

pub returns : goal.returns
returns c = record { news = news-of_place; watch = watch-of_pin }
