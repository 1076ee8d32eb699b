use Rattle.std.proofs.Common.{◌≡◌, ◌<◌, ℕ, Bool, true, false, List, length, get_or, refl, ap, ◌∙◌, arith}
use Rattle.std.proofs.lemmas.Result.{IfOk-weaker}
use Rattle.kn_answer.proofs.Capped.{capped-live, capped-removed, capped-rows, flag-here}
use Rattle.kn_answer.proofs.conditions.ConditionsCeilingsTally.ceiling.Goals as goal

pub bounds-as_slice-row : goal.bounds-as_slice-row
bounds-as_slice-row g c =
    let within : c.args.row < length c.args.self.now.live.now =
    (capped-rows (g.V.ConditionValues.each c.args.self.now.values.now) c.args.self.now.live.now c.args.row
    c.requires).1 in
    omega (arith, within, ap length c.as_slice.ensures)

pub value-requires : goal.value-requires
value-requires g c =
    (capped-rows (g.V.ConditionValues.each c.args.self.now.values.now) c.args.self.now.live.now c.args.row c.requires).0

pub returns-then-as_slice-row-clause-exact : goal.returns-then-as_slice-row-clause-exact
returns-then-as_slice-row-clause-exact g c =
    let live : List Bool = c.args.self.now.live.now in
    let values : List ℕ = g.V.ConditionValues.each c.args.self.now.values.now in
    let within : c.args.row < length live = (capped-rows values live c.args.row c.requires).1 in
    let here : true ≡ get_or live c.args.row true =
    flag-here c.as_slice.result.now live c.args.row true c.as_slice.ensures within c.if-as_slice-row.true in
    IfOk-weaker c.value.result _ _ (λ value is. is ∙ capped-live values live c.args.row true within here refl)
    c.value.ensures

pub returns-else-as_slice-row-clause-exact : goal.returns-else-as_slice-row-clause-exact
returns-else-as_slice-row-clause-exact g c =
    let live : List Bool = c.args.self.now.live.now in
    let values : List ℕ = g.V.ConditionValues.each c.args.self.now.values.now in
    let within : c.args.row < length live = (capped-rows values live c.args.row c.requires).1 in
    let here : false ≡ get_or live c.args.row false =
    flag-here c.as_slice.result.now live c.args.row false c.as_slice.ensures within c.if-as_slice-row.false in
    capped-removed values live c.args.row false within here refl
