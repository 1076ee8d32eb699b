use Rattle.kn_follow.proofs.Followers.{taken-in_one_way, followers-follow}
use Rattle.kn_follow.proofs.laws.followers_follow.Goals as goal

pub returns-clause-one_way : goal.returns-clause-one_way
returns-clause-one_way c = taken-in_one_way

pub returns-clause-follow : goal.returns-clause-follow
returns-clause-follow c = followers-follow
