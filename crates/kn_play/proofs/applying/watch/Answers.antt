use Rattle.kn_play.specs.Playing.{state_of_sessions, AsksFor}
use Rattle.std.proofs.Common.{Some}
use Rattle.kn_daemon.specs.Shapes.{Asks, WithProof}
use Rattle.kn_play.proofs.StandingQueries.{asked-kept}
use Rattle.kn_play.proofs.applying.watch.Goals as goal

pub returns-in-Ok : goal.returns-in-Ok
returns-in-Ok c = λ history.
    let asks : AsksFor (state_of_sessions c.args.sessions.now) (Asks WithProof c.args.s c.args.names.now)
    (Some c.in-Some.asked) = rw c.in-Some.is at c.in_ok-asked.ensures in
    asked-kept history c.args.sessions.now c.watch.new.self c.args.s c.args.names.now asks.0 c.in-Some.asked.values
    asks.2.0 asks.2.1 c.in-Ok.ensures.ok
