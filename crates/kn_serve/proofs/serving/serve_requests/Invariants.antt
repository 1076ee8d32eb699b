use Rattle.std.proofs.Common.{◌<◌}
use Rattle.kn_base.specs.declared.limits.TheConstants.{REQUESTS}
use Rattle.kn_registry.specs.Passes.{IsReady}
use Rattle.kn_wire.specs.Feeds.{held}
use Rattle.kn_serve.specs.Configs.{config_of}
use Rattle.kn_serve.specs.Handling.{moment, state_of}
use Rattle.kn_serve.specs.KeptBases.{IsKept}
use Rattle.kn_serve.specs.LastQuestions.{IsLastOf}
use Rattle.kn_serve.specs.Serving.{Serving}
use Rattle.kn_serve.proofs.serving.serve_requests.Given as goal

abbrev pub invariant-requests : goal.invariant-requests
invariant-requests g l =
    IsReady l.fn.config.registry.now l.pass
    × (l.answered < REQUESTS)
    × Serving (config_of g.A.Authenticator.verdict l.fn.config) l.fn.pass (g.L.Sink.seen l.fn.link)
    (moment l.pass l.connection (g.L.Sink.seen l.link)) (held l.feed) l.answered
    × IsKept l.pass.seen l.kept
    × IsLastOf l.pass.seen (state_of l.connection) l.connection.last
