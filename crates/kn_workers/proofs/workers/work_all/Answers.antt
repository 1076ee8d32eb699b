use Rattle.std.proofs.Common.{rules, subst}
use Rattle.std.specs.Prelude.{slice_index_or}
use Rattle.kn_daemon.specs.Daemon.{DaemonConfig}
use Rattle.kn_serve.specs.Configs.{config_by}
use Rattle.kn_workers.specs.Posts.{WorksAtPost}
use Rattle.kn_workers.proofs.Crossing.{crossing}
use Rattle.kn_workers.proofs.ServingAll.{zip_of}
use Rattle.kn_workers.proofs.workers.work_all.Goals as goal

pub for_each_mut-requires-send-T : goal.for_each_mut-requires-send-T
for_each_mut-requires-send-T g c κs within =
    let d = c.type_bounds.send-D in
    search crossing depth 20

pub for_each_mut-requires-sync-F : goal.for_each_mut-requires-sync-F
for_each_mut-requires-sync-F g c κs within =
    let r = c.type_bounds.sync-R in
    let a = c.type_bounds.sync-A in
    let h = c.type_bounds.sync-G in
    search crossing depth 20

pub returns : goal.returns
returns g c =
    let grounds : DaemonConfig = config_by g.A.Authenticator.verdict c.args.auth.now c.args.secret.now in
    zip_of (WorksAtPost c.args.reg.now g.D.Door.seen g.D.Conn.Sink.seen grounds) c.args.posts.now
    c.for_each_mut.new.s (search rules)
    (λ i d lt.
    let at = (c.for_each_mut.ensures i d lt).1 in
    subst (λ p. WorksAtPost c.args.reg.now g.D.Door.seen g.D.Conn.Sink.seen grounds p
    (slice_index_or c.for_each_mut.new.s i d)) at.argument_is
    (subst (λ p. WorksAtPost c.args.reg.now g.D.Door.seen g.D.Conn.Sink.seen grounds at.argument.now p) at.left
    at.call))
