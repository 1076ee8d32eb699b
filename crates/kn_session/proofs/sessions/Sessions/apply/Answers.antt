use Rattle.std.proofs.Common.{refl, ap, None}
use Rattle.kn_session.specs.Calls as C
use Rattle.kn_session.specs.Calls.{call_of}
use Rattle.kn_session.proofs.Applying.{plain-ok, plain-err}
use Rattle.kn_session.proofs.sessions.Sessions.apply.Goals as goal

pub returns-in-Close : goal.returns-in-Close
returns-in-Close c = rw c.in-Close.is (record {
  ok = plain-ok c.args.self.now c.close.new.self c.args.s C.Close (λ x. None)
      (record { fault = λ x. refl; answer = λ x. refl }) c.close.result _ c.answer_done.ensures c.close.ensures.accepted
      c.close.ensures.ok;
  err = plain-err c.args.self.now c.close.new.self c.args.s C.Close (λ x. None)
      (record { fault = λ x. refl; answer = λ x. refl }) c.close.result _ c.answer_done.ensures
      (λ lacks x e. absurd (cc (e))) c.close.ensures.fault c.close.ensures.err;
})

pub assert_text-requires : goal.assert_text-requires
assert_text-requires c = record { few = c.requires.few c.in-Assert.text.now (ap call_of c.in-Assert.is) }
