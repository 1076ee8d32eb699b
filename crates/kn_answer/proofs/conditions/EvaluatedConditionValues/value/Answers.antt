use Rattle.std.proofs.Common.{◌≡◌, length, slice_index, ap, ◌∙◌, arith, List}
use Rattle.std.proofs.lemmas.List.{length-map}
use Rattle.std.proofs.lemmas.Result.{IfOk-weaker}
use Rattle.kn_meaning.specs.Equations.{Part}
use Rattle.kn_answer.specs.Based.{condition_values}
use Rattle.kn_answer.proofs.Capped.{value-here}
use Rattle.kn_answer.proofs.conditions.EvaluatedConditionValues.value.Goals as goal

pub assertion-requires : goal.assertion-requires
assertion-requires g c =
    let parts : List Part = g.A.Assertions.parts c.self.inside.assertions.now in
    let size : length (condition_values c.self.inside.query.now parts) ≡ length parts = length-map _ _ in
    omega (arith, ap length c.self.view_is, size, c.requires)

pub returns : goal.returns
returns g c =
    let parts : List Part = g.A.Assertions.parts c.self.inside.assertions.now in
    IfOk-weaker c.ceiling_of.result _ _
    (λ value is. is ∙ value-here c.self.inside.query.now parts c.args.row c.assertion.result.now c.assertion.ensures
    ∙ ap (λ values. slice_index values c.args.row) c.self.view_is)
    c.ceiling_of.ensures.value
