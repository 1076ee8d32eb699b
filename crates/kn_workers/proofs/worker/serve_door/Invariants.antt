use Rattle.kn_registry.specs.Passes.{IsReady}
use Rattle.kn_serve.specs.Configs.{config_by}
use Rattle.kn_serve.specs.KeptBases.{IsKept}
use Rattle.kn_workers.specs.Doors.{WorksAt}
use Rattle.kn_workers.proofs.WorkLaws.{IsCalm}
use Rattle.kn_workers.proofs.worker.serve_door.Given as goal

abbrev pub invariant-connections : goal.invariant-connections
invariant-connections g l =
    IsReady l.fn.reg l.pass
    × WorksAt g.D.Conn.Sink.seen (config_by g.A.Authenticator.verdict l.fn.auth l.fn.secret) l.fn.pass l.pass
    (g.D.Door.seen l.fn.door) (g.D.Door.seen l.door) l.finished
    × IsCalm (g.D.Door.seen l.fn.door) (g.D.Door.seen l.door)
    × IsKept l.pass.seen l.kept
