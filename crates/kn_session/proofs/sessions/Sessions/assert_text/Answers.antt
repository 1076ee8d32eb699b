use Rattle.kn_session.proofs.Applying.{unknown, unread, unadded, added}
use Rattle.kn_session.proofs.sessions.Sessions.assert_text.Goals as goal

pub returns-in-Err-clause-err : goal.returns-in-Err-clause-err
returns-in-Err-clause-err c = unknown c.args.self.now c.args.self.now c.args.s c.args.text.now _ c.in-Err.ensures.fault

pub returns-in-Err-read-clause-err : goal.returns-in-Err-read-clause-err
returns-in-Err-read-clause-err c =
    unread c.args.self.now c.args.self.now c.args.s c.args.text.now _ _ c.in-Ok.ensures.session
    c.in-Err-read.ensures.err c.in-Err-read.ensures.place

pub returns-in-Ok-add_private-clause-ok : goal.returns-in-Ok-add_private-clause-ok
returns-in-Ok-add_private-clause-ok c =
    added c.args.self.now c.add_private.new.self c.args.s c.args.text.now _ _ _ c.in-Ok.ensures.session
    c.in-Ok-read.ensures.ok c.in-Ok-add_private.ensures.id c.in-Ok-add_private.ensures.accepted
    c.in-Ok-add_private.ensures.ok

pub returns-in-Err-add_private-clause-err : goal.returns-in-Err-add_private-clause-err
returns-in-Err-add_private-clause-err c =
    unadded c.args.self.now c.add_private.new.self c.args.s c.args.text.now _ _ c.in-Ok-read.ensures.ok
    c.in-Err-add_private.ensures.fault c.in-Err-add_private.ensures.err
