use Rattle.std.proofs.Common.{rules}
use Rattle.kn_turn.proofs.SeatLemmas.{starts}
use Rattle.kn_turn.proofs.turn.Turn.start.Goals as goal

pub new-requires : goal.new-requires
new-requires g c = starts g.S.Logged.by g.S.Logged.log _ c.args.value (search rules) c.requires
