use Rattle.std.proofs.Common.{◌≡◌, ◌≤◌, suc, ◌-◌, List, length, map, Some, sym, subst, ◌∙◌, arith}
use Rattle.std.specs.Prelude.{slice_get}
use Rattle.kn_history.specs.History.{NumberedText}
use Rattle.kn_query.proofs.Rows.{front-ends, front-shorter}
use Rattle.kn_query.proofs.following.count_up_to.Goals as goal

pub returns-then-id-last : goal.returns-then-id-last
returns-then-id-last c = λ earlier later is up_to above.
    let next : suc (c.loop-count.count - 1) ≡ c.loop-count.count = omega (arith, c.loop-count-test.true) in
    let enough = c.loop-count.invariant.enough earlier later is up_to above in
    let long : length earlier ≤ suc (c.loop-count.count - 1) = omega (arith, enough, next) in
    let here = subst (λ (l : List NumberedText). slice_get (map (λ (x : NumberedText). x.id) l) (c.loop-count.count - 1)
    ≡ Some c.id.result) is c.id.ensures.id in
    sym next ∙ front-ends earlier later c.args.last (c.loop-count.count - 1) c.id.result above long here
    c.if-id-last.true

pub loop-count-preserved : goal.loop-count-preserved
loop-count-preserved c = record {
  in_range = omega (arith, c.loop-count.invariant.in_range);
  enough = λ earlier later is up_to above.
      let next : suc (c.loop-count.count - 1) ≡ c.loop-count.count = omega (arith, c.loop-count-test.true) in
      let enough = c.loop-count.invariant.enough earlier later is up_to above in
      let long : length earlier ≤ suc (c.loop-count.count - 1) = omega (arith, enough, next) in
      let here = subst (λ (l : List NumberedText). slice_get (map (λ (x : NumberedText). x.id) l)
      (c.loop-count.count - 1) ≡ Some c.id.result) is c.id.ensures.id in
      front-shorter earlier later c.args.last (c.loop-count.count - 1) c.id.result up_to long here c.if-id-last.false;
}
