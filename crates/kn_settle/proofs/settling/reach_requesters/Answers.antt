use Rattle.std.proofs.Common.{ℕ, get_or, refl, ◌∙◌, arith}
use Rattle.kn_system.specs.Equations.{SystemEquations}
use Rattle.kn_settle.proofs.FirstLevels.{begun-all, begun-next}
use Rattle.kn_settle.proofs.settling.reach_requesters.Goals as goal

pub loop-place-preserved : goal.loop-place-preserved
loop-place-preserved g c =
    let s : SystemEquations = c.args.system.now in
    let i : ℕ = c.loop-place.place in
    record {
      begun = begun-next s c.reach_requester.new.levels.values.items c.args.requesters.now i
          (get_or c.args.requesters.now i 0) (omega arith) refl
          (c.in_ok-reach_requester.ensures.begun _ c.loop-place.invariant.begun);
      one_each = c.in_ok-reach_requester.ensures.one_each ∙ c.loop-place.invariant.one_each;
      counts = c.in_ok-reach_requester.ensures.counts ∙ c.loop-place.invariant.counts;
      buckets = c.in_ok-reach_requester.ensures.buckets ∙ c.loop-place.invariant.buckets;
      reached = λ h. c.in_ok-reach_requester.ensures.reached (c.loop-place.invariant.reached h);
      counted = λ h. c.in_ok-reach_requester.ensures.counted (c.loop-place.invariant.counted h);
      continues = λ start marks counting used.
          let (after, used_now, now) = c.loop-place.invariant.continues start marks counting used in
          c.in_ok-reach_requester.ensures.reaches start after now used_now;
    }

pub returns-clause-levels : goal.returns-clause-levels
returns-clause-levels g c =
    begun-all c.args.system.now c.loop-place.levels.values.items c.args.requesters.now c.loop-place.place (omega arith)
    c.requires.flags c.loop-place.invariant.begun
