use Rattle.std.proofs.Common.{◌∙◌}
use Rattle.std.proofs.lemmas.Result.{on_ok_weaker}
use Rattle.kn_session.specs.Calls.{call_of, session_fault}
use Rattle.kn_session.proofs.Applying.{plain-ok, plain-err, change-plain, change-makes, change-named}
use Rattle.kn_session.proofs.sessions.Sessions.answer_change.Goals as goal

pub returns : goal.returns
returns c =
    let call = call_of c.args.call in
    let plain = change-plain call c.requires in
    record {
      ok = plain-ok c.args.self.now c.change.new.self c.args.s call (session_fault call) plain c.change.result _
          c.answer_done.ensures c.change.ensures.accepted
          (on_ok_weaker c.change.result (λ e. e ∙ change-makes call c.requires c.args.self.now c.args.s)
          c.change.ensures.ok);
      err = plain-err c.args.self.now c.change.new.self c.args.s call (session_fault call) plain c.change.result _
          c.answer_done.ensures (change-named call) c.change.ensures.fault c.change.ensures.err;
    }
