use Rattle.std.proofs.Common.{◌≡◌, true, false, length, sym, ◌∙◌}
use Rattle.kn_env.specs.Values.{stood_before}
use Rattle.kn_env.proofs.Places.{place_first, place_here, place_behind, place_nowhere, asked_at}
use Rattle.kn_env.proofs.values.twice_place.Goals as goal

pub loop-at-init : goal.loop-at-init
loop-at-init c = place_first (stood_before c.args.names.now) (length c.args.names.now)

pub loop-at-preserved : goal.loop-at-preserved
loop-at-preserved c =
    let told : stood_before c.args.names.now c.loop-at.at ≡ false =
    asked_at c.args.names.now c.loop-at.at c.index-names-at.result c.as_slice.result.now c.is_there.result
    c.loop-at-test.true c.index-names-at.is c.as_slice.ensures c.is_there.ensures ∙ c.if-is_there.false in
    place_behind (stood_before c.args.names.now) c.loop-at.at (length c.args.names.now) c.loop-at-test.true told
    ∙ c.loop-at.invariant

pub returns-then-is_there-clause-place : goal.returns-then-is_there-clause-place
returns-then-is_there-clause-place c =
    let told : stood_before c.args.names.now c.loop-at.at ≡ true =
    asked_at c.args.names.now c.loop-at.at c.index-names-at.result c.as_slice.result.now c.is_there.result
    c.loop-at-test.true c.index-names-at.is c.as_slice.ensures c.is_there.ensures ∙ c.if-is_there.true in
    sym (place_here (stood_before c.args.names.now) c.loop-at.at (length c.args.names.now) c.loop-at-test.true told)
    ∙ c.loop-at.invariant

pub returns-clause-place : goal.returns-clause-place
returns-clause-place c =
    sym (place_nowhere (stood_before c.args.names.now) c.loop-at.at (length c.args.names.now) c.loop-at-test.false)
    ∙ c.loop-at.invariant
