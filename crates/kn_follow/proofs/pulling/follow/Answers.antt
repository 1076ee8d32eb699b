use Rattle.std.proofs.Common.{◌≡◌, ◌<◌, ℕ, subst, arith}
use Rattle.std.proofs.lemmas.Result.{err_from_is_err_and}
use Rattle.kn_follow.specs.Exchanges.{IsRound}
use Rattle.kn_follow.proofs.PullRounds.{applied-length, following-first, following-more, followed, unfollowed}
use Rattle.kn_follow.proofs.pulling.follow.Goals as goal

pub rounds-init : goal.rounds-init
rounds-init g c = record { here = c.length-number.ensures.length; rounds = following-first _ _ _ }

pub returns-then-branch-eq0-clause-followed : goal.returns-then-branch-eq0-clause-followed
returns-then-branch-eq0-clause-followed g c =
    let none : c.in_ok-ask_log.field-0 ≡ 0 = omega arith in
    let P : ℕ → Type 0 =
    λ n. IsRound c.rounds.replica c.ask_log.new.replica c.rounds.held c.ask_log.new.held
    (g.L.Sink.seen c.rounds.link) (g.L.Sink.seen c.ask_log.new.link) n in
    followed _ _ _ _ _ _ _ _ _ c.rounds.invariant.rounds (subst P none c.in_ok-ask_log.ensures.round)

pub rounds-preserved : goal.rounds-preserved
rounds-preserved g c =
    let some : 0 < c.in_ok-ask_log.field-0 = omega arith in
    record {
      here = c.length-number-in-rounds.ensures.length;
      rounds = following-more _ _ _ _ _ _ _ _ _ _ c.rounds.invariant.rounds c.in_ok-ask_log.ensures.round some;
    }

pub rounds-smaller : goal.rounds-smaller
rounds-smaller g c =
    let some : 0 < c.in_ok-ask_log.field-0 = omega arith in
    let round = c.in_ok-ask_log.ensures.round in
    let size = applied-length c.rounds.replica round.answer c.in_ok-ask_log.field-0 c.ask_log.new.replica
    round.applied in
    omega (arith, size, some, c.length-number-in-rounds.ensures.length, c.rounds.invariant.here)

pub returns-in_err-ask_log-clause-fault : goal.returns-in_err-ask_log-clause-fault
returns-in_err-ask_log-clause-fault g c =
    let told = err_from_is_err_and c.from_residual.result c.from_residual.ensures.1 in
    rw (told.1, told.2)
    (unfollowed _ _ _ _ _ _ _ _ c.in_err-ask_log.field-0.0 c.rounds.invariant.rounds c.in_err-ask_log.ensures.fault)
