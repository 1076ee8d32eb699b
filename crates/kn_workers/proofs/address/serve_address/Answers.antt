use Rattle.std.proofs.Common.{◌≡◌, ◌<◌, arith, ap, sym, ◌∙◌, false}
use Rattle.kn_auth.specs.Verdicts.{verdict_of}
use Rattle.kn_daemon.specs.Daemon.{DaemonConfig}
use Rattle.kn_serve.specs.Configs.{config_by}
use Rattle.kn_workers.specs.declared.worker.ServeEnd.{ServeEnd}
use Rattle.kn_workers.specs.Workers.{AllServed}
use Rattle.kn_workers.proofs.AddressLaws.{served_less, served_whole}
use Rattle.kn_workers.proofs.ShareLaws.{shares_add_up}
use Rattle.kn_workers.proofs.address.serve_address.Goals as goal

pub serve_all-ended-requires-clause-quotas : goal.serve_all-ended-requires-clause-quotas
serve_all-ended-requires-clause-quotas g c κs within =
    let some : 0 < c.args.served.now.doors = c.requires.doors.0 in
    let all = shares_add_up g.N.Room.Door.seen c.args.served.now.quota c.args.served.now.doors c.in-Ok.rooms some
    c.in-Ok.ensures.doors c.in-Ok.ensures.new in
    let most = c.requires.quota in
    omega (arith, all, most)

pub returns-in-Ok-ended : goal.returns-in-Ok-ended
returns-in-Ok-ended g c =
    let grounds : DaemonConfig = config_by verdict_of c.args.keys.now.auth c.args.keys.now.secret in
    let all : AllServed g.N.Room.Door.seen g.N.Room.Conn.Sink.seen grounds c.args.root c.serve_all-ended.new.root
    c.in-Ok.rooms c.serve_all-ended.new.doors c.in-Ok-ended.end =
    rw c.as_slice-secret.ensures at c.in-Ok-ended.ensures.served in
    served_less g.N.Room.Door.seen (g.N.Net.seen c.args.net.now) (g.N.Net.seen c.bind.new.self)
    (g.N.Net.seen c.unbind.new.self) c.args.served.now c.serve_all-ended.new.doors c.in-Ok.ensures.binds
    c.unbind.ensures
    g.N.Room.Conn.Sink.seen grounds c.in-Ok.rooms c.args.root c.serve_all-ended.new.root c.in-Ok-ended.end
    c.requires.root c.requires.unsplit c.in-Ok.ensures.new c.in-Ok.ensures.doors all c.if-end.true

pub returns-in-Ok-2 : goal.returns-in-Ok-2
returns-in-Ok-2 g c =
    let grounds : DaemonConfig = config_by verdict_of c.args.keys.now.auth c.args.keys.now.secret in
    let some : 0 < c.args.served.now.doors = c.requires.doors.0 in
    let ends : c.in-Ok-ended.end ≡ c.in-Ok-2.end = cc in
    let whole : c.in-Ok-2.end.failed ≡ false = ap (λ (e : ServeEnd). e.failed) (sym ends) ∙ c.if-end.false in
    let all : AllServed g.N.Room.Door.seen g.N.Room.Conn.Sink.seen grounds c.args.root c.serve_all-ended.new.root
    c.in-Ok.rooms c.serve_all-ended.new.doors c.in-Ok-2.end =
    rw c.as_slice-secret.ensures at c.in-Ok-2.ensures.served in
    served_whole g.N.Room.Door.seen (g.N.Net.seen c.args.net.now) (g.N.Net.seen c.bind.new.self)
    (g.N.Net.seen c.unbind.new.self) c.args.served.now c.serve_all-ended.new.doors c.in-Ok.ensures.binds
    c.unbind.ensures
    g.N.Room.Conn.Sink.seen grounds c.in-Ok.rooms c.args.root c.serve_all-ended.new.root c.in-Ok-2.end
    c.requires.root c.requires.unsplit c.in-Ok.ensures.new c.in-Ok.ensures.doors all whole some
    c.seen_length.result c.seen_length.ensures
