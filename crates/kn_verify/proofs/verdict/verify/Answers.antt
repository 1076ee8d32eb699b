use Rattle.std.proofs.Common.{refl, length}
use Rattle.std.proofs.lemmas.Bool.{false≢true}
use Rattle.std.specs.Arc.{arc_value}
use Rattle.kn_session.specs.Views.{session_of_view}
use Rattle.kn_daemon.specs.Daemon.{equations_of}
use Rattle.kn_verify.proofs.NumberedReplies.{ok_by_name, err_by_name}
use Rattle.kn_verify.proofs.verdict.verify.Goals as goal

pub returns-clause-ok : goal.returns-clause-ok
returns-clause-ok c =
    ok_by_name c.located_proofs.ensures c.least_levels_are_least.ensures
    (equations_of (session_of_view c.args.view.now) c.args.values.now)
    (length (arc_value c.args.view.now.snapshot.now)) c.args.values.now
    c.args.reply.now c.in_ok-built.built c.in_ok-proof.proof.rows c.follow.result
    ((c.if-not-is_reply_to.ensures c.args.reply.now c.head.ensures).0 refl)
    (record {
      is_built = c.in_ok-built.ensures.built;
      distinct = c.in_ok-built.ensures.ids;
      located =
          c.in_ok-proof.ensures.located;
    }) c.follow.ensures.ok c.follow.ensures.least

pub returns-clause-refused : goal.returns-clause-refused
returns-clause-refused c =
    err_by_name c.located_proofs.ensures (equations_of (session_of_view c.args.view.now) c.args.values.now)
    (length (arc_value c.args.view.now.snapshot.now)) c.args.values.now
    c.args.reply.now c.in_ok-built.built c.in_ok-proof.proof.rows c.follow.result
    ((c.if-not-is_reply_to.ensures c.args.reply.now c.head.ensures).0 refl)
    (record {
      is_built = c.in_ok-built.ensures.built;
      distinct = c.in_ok-built.ensures.ids;
      located =
          c.in_ok-proof.ensures.located;
    }) c.follow.ensures.refused

pub returns-then-not-is_reply_to-clause-refused : goal.returns-then-not-is_reply_to-clause-refused
returns-then-not-is_reply_to-clause-refused c =
    λ to. false≢true ((c.if-not-is_reply_to.ensures c.args.reply.now c.head.ensures).1 to)
