use Rattle.std.proofs.Common.{rules}
use Rattle.kn_turn.proofs.StepLemmas.{sees}
use Rattle.kn_turn.proofs.turn.Turn.is_served.Goals as goal

pub load-requires : goal.load-requires
load-requires g c =
    (search rules, search rules, sees g.S.Logged.by g.S.Logged.log _ _ c.args.seat.now.me c.requires.waits)
