use Rattle.std.proofs.Common.{arith, refl, ◌∙◌}
use Rattle.kn_daemon.specs.Daemon.{DaemonConfig}
use Rattle.kn_serve.specs.Configs.{config_by}
use Rattle.kn_workers.proofs.ServingAll.{posts_ready, handed, all_worked}
use Rattle.kn_workers.proofs.workers.serve_all.Goals as goal

pub work_all-requires-clause-ready : goal.work_all-requires-clause-ready
work_all-requires-clause-ready g c κs within =
    let grounds : DaemonConfig = config_by g.A.Authenticator.verdict c.args.auth.now c.args.secret.now in
    posts_ready c.args.reg.now g.D.Door.seen g.D.Conn.Sink.seen grounds c.args.root.now c.args.doors.now _
    (c.as_mut_slice.ensures.value ∙ c.in_ok-posts.ensures.posts) c.requires.ready c.requires.quotas

pub gather-served-requires-clause-split : goal.gather-served-requires-clause-split
gather-served-requires-clause-split g c =
    let grounds : DaemonConfig = config_by g.A.Authenticator.verdict c.args.auth.now c.args.secret.now in
    (handed c.args.reg.now g.D.Door.seen g.D.Conn.Sink.seen grounds c.args.root.now c.args.doors.now _ _ _ _
    c.in_ok-posts.posts.ok.0 c.in_ok-posts.ensures.posts c.as_mut_slice.ensures.value c.work_all.ensures).0

pub gather-served-requires-clause-room : goal.gather-served-requires-clause-room
gather-served-requires-clause-room g c =
    let grounds : DaemonConfig = config_by g.A.Authenticator.verdict c.args.auth.now c.args.secret.now in
    let all = handed c.args.reg.now g.D.Door.seen g.D.Conn.Sink.seen grounds c.args.root.now c.args.doors.now _ _ _ _
    c.in_ok-posts.posts.ok.0 c.in_ok-posts.ensures.posts c.as_mut_slice.ensures.value c.work_all.ensures in
    let count = all.3 in
    let spare = c.in_ok-reserve.ensures.spare in
    let most = c.len.ensures in
    omega (arith, count, spare, most)

pub gather-served-requires-clause-few : goal.gather-served-requires-clause-few
gather-served-requires-clause-few g c =
    let grounds : DaemonConfig = config_by g.A.Authenticator.verdict c.args.auth.now c.args.secret.now in
    let all = handed c.args.reg.now g.D.Door.seen g.D.Conn.Sink.seen grounds c.args.root.now c.args.doors.now _ _ _ _
    c.in_ok-posts.posts.ok.0 c.in_ok-posts.ensures.posts c.as_mut_slice.ensures.value c.work_all.ensures in
    let few = all.1 in
    let most = c.requires.quotas in
    omega (arith, few, most)

pub returns-clause-served : goal.returns-clause-served
returns-clause-served g c =
    let grounds : DaemonConfig = config_by g.A.Authenticator.verdict c.args.auth.now c.args.secret.now in
    let all = handed c.args.reg.now g.D.Door.seen g.D.Conn.Sink.seen grounds c.args.root.now c.args.doors.now _ _ _ _
    c.in_ok-posts.posts.ok.0 c.in_ok-posts.ensures.posts c.as_mut_slice.ensures.value c.work_all.ensures in
    let end = c.gather-served.ensures in
    all_worked c.args.reg.now g.D.Door.seen g.D.Conn.Sink.seen grounds c.served_longer.ensures c.args.root.now
    c.hire.new.root c.gather-served.new.root c.args.doors.now _ _ _ _ refl c.in_ok-posts.ensures.root all.2 end.joined
    end.seen c.number-before.ensures.sound c.number-after.ensures.sound end.ready.valid end.finished end.failed
    end.doors
