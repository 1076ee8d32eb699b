use Rattle.std.proofs.Common.{◌≡◌, ◌+◌, ℕ, true, false, sym, ◌∙◌, subst, arith, rules}
use Rattle.kn_system.specs.Equations.{SystemEquations}
use Rattle.kn_settle.proofs.RequesterLists.{AreRequestersBelow, requesters-flags, requesters-more, requesters-other}
use Rattle.kn_settle.proofs.requesters.requesters_of.Goals.{then-is_requester+in-Ok, else-is_requester}
use Rattle.kn_settle.proofs.requesters.requesters_of.Goals as goal

pub loop-principal-preserved : goal.loop-principal-preserved
loop-principal-preserved g c =
    let s : SystemEquations = c.args.system.now in
    let p : ℕ = c.loop-principal.principal in
    elim c.if-is_requester.branch [
      | then-is_requester+in-Ok w ↦
          let yes_now : c.is_requester.result ≡ true = search rules in
          requesters-more s p c.loop-principal.numbers c.if-is_requester.numbers (omega arith) (omega arith)
          (sym yes_now ∙ c.is_requester.ensures) (w.numbers-is ∙ w.in-Ok.ensures.ok) c.loop-principal.invariant
      | else-is_requester w ↦
          let not_now : c.is_requester.result ≡ false = search rules in
          subst (AreRequestersBelow s (p + 1)) (sym w.numbers-is)
          (requesters-other s p c.loop-principal.numbers (sym not_now
          ∙ c.is_requester.ensures) c.loop-principal.invariant)
    ]

pub returns-clause-flags : goal.returns-clause-flags
returns-clause-flags g c =
    requesters-flags c.args.system.now c.loop-principal.principal c.loop-principal.numbers (omega arith)
    c.loop-principal.invariant
