use Rattle.std.proofs.Common.{◌≡◌, rules, tests, map, eqb, ◌∙◌}
use Rattle.std.proofs.lemmas.Iterator.Consumers.{YieldsList-end}
use Rattle.std.proofs.lemmas.Iterator.Splits.{YieldsList-from_slice_split}
use Rattle.kn_env.proofs.values.between_commas.Goals as goal

pub returns : goal.returns
returns c =
    let all = YieldsList-end
    (YieldsList-from_slice_split _ (λ b. eqb b 44) c.args.text.now (cc) (cc) (cc)
    (λ x r q k. search (rules, tests))) c.loop-name.yielded _ c.loop-name.yielded_by _ _ c.in-None.is
    c.next.ensures.steps in
    let names : c.loop-name.names ≡ map (λ x. x.now) c.loop-name.yielded = c.loop-name.invariant in
    names ∙ all.0
