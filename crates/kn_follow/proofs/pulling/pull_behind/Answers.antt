use Rattle.std.proofs.Common.{List, ℕ, subst}
use Rattle.std.proofs.lemmas.Result.{err_from_is_err_and}
use Rattle.kn_follow.specs.Answers.{admin_line, ok_line}
use Rattle.kn_follow.specs.Exchanges.{IsStopped, Passes}
use Rattle.kn_follow.specs.declared.request.Request.TheVariants as Q
use Rattle.kn_follow.proofs.PullRounds.{pull-refused, pull-unfollowed, pull-unfinished, pull-done}
use Rattle.kn_follow.proofs.pulling.pull_behind.Goals as goal

pub returns-in_err-show_secret-clause-fault : goal.returns-in_err-show_secret-clause-fault
returns-in_err-show_secret-clause-fault g c =
    let p = err_from_is_err_and c.from_residual.result c.from_residual.ensures.1 in
    let old = c.args.replica.now in
    let l = g.L.Sink.seen c.args.link.now in
    let m = g.L.Sink.seen c.show_secret.new.link in
    let P : List ℕ → Type 0 =
    λ h. IsStopped Q.Admin (admin_line c.args.secret.now) h l m old old c.in_err-show_secret.field-0.0 in
    rw (p.1, p.2) (pull-refused c.args.secret.now old l m c.in_err-show_secret.field-0.0
    (subst P c.requires (c.in_err-show_secret.ensures.fault old)))

pub returns-in_err-follow-clause-fault : goal.returns-in_err-follow-clause-fault
returns-in_err-follow-clause-fault g c =
    let p = err_from_is_err_and c.from_residual-in_err-follow.result c.from_residual-in_err-follow.ensures.1 in
    let l = g.L.Sink.seen c.args.link.now in
    let m = g.L.Sink.seen c.show_secret.new.link in
    let P : List ℕ → Type 0 = λ h. Passes Q.Admin (admin_line c.args.secret.now) ok_line h c.show_secret.new.held l m in
    rw (p.1, p.2)
    (pull-unfollowed c.args.secret.now c.args.replica.now l m c.show_secret.new.held
    (subst P c.requires c.in_ok-show_secret.ensures.passes)
    c.follow.new.replica (g.L.Sink.seen c.follow.new.link) c.in_err-follow.field-0.0 c.in_err-follow.ensures.fault)

pub returns-in_err-ask_plain-clause-fault : goal.returns-in_err-ask_plain-clause-fault
returns-in_err-ask_plain-clause-fault g c =
    let p = err_from_is_err_and c.from_residual-in_err-ask_plain.result c.from_residual-in_err-ask_plain.ensures.1 in
    let l = g.L.Sink.seen c.args.link.now in
    let m = g.L.Sink.seen c.show_secret.new.link in
    let new = c.follow.new.replica in
    let P : List ℕ → Type 0 = λ h. Passes Q.Admin (admin_line c.args.secret.now) ok_line h c.show_secret.new.held l m in
    rw (p.1, p.2)
    (pull-unfinished c.args.secret.now c.args.replica.now l m c.show_secret.new.held
    (subst P c.requires c.in_ok-show_secret.ensures.passes)
    new (g.L.Sink.seen c.follow.new.link) c.follow.new.held c.in_ok-follow.ensures.followed
    (g.L.Sink.seen c.ask_plain.new.link) c.in_err-ask_plain.field-0.0 (c.in_err-ask_plain.ensures.fault new))

pub returns-clause-pulled : goal.returns-clause-pulled
returns-clause-pulled g c =
    let l = g.L.Sink.seen c.args.link.now in
    let m = g.L.Sink.seen c.show_secret.new.link in
    let P : List ℕ → Type 0 = λ h. Passes Q.Admin (admin_line c.args.secret.now) ok_line h c.show_secret.new.held l m in
    pull-done c.args.secret.now c.args.replica.now l m c.show_secret.new.held
    (subst P c.requires c.in_ok-show_secret.ensures.passes)
    c.follow.new.replica (g.L.Sink.seen c.follow.new.link) c.follow.new.held c.in_ok-follow.ensures.followed
    (g.L.Sink.seen c.ask_plain.new.link) c.ask_plain.new.held c.length.result c.in_ok-ask_plain.ensures.passes
    c.length.ensures.length
