use Rattle.std.proofs.Common.{rules}
use Rattle.kn_turn.proofs.StepLemmas.{confirms_at}
use Rattle.kn_turn.proofs.turn.Turn.confirm_newest.Goals as goal

pub load-front-requires : goal.load-front-requires
load-front-requires g c =
    (search rules, search rules, confirms_at g.S.Logged.by g.S.Logged.log _ _ c.pass.inside.seat.me)
