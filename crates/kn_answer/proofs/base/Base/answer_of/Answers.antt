use Rattle.std.proofs.Common.{◌≡◌, ℕ, Bool, List, length, sym, ap, ◌∙◌, subst, arith}
use Rattle.kn_env.specs.Environment.{Asked}
use Rattle.kn_meaning.specs.Equations.{Part}
use Rattle.kn_rows.specs.BaseRows.{AreNumbersOf, IsBaseOf}
use Rattle.kn_rows.proofs.BaseRows.{length-base}
use Rattle.kn_answer.specs.Based.{BaseView, capped_values, ceilings_of}
use Rattle.kn_answer.proofs.AnswersOfBases.{Answering, answering-below, answering-each, answering-least, answering-low}
use Rattle.kn_answer.proofs.AnswersOfBases.{answering-others, answering-proof, answering-rows}
use Rattle.kn_answer.proofs.Capped.{ceilings-capped}
use Rattle.kn_answer.proofs.base.Base.answer_of.Given.{Over}
use Rattle.kn_answer.proofs.base.Base.answer_of.Goals.{After-fit}
use Rattle.kn_answer.proofs.base.Base.answer_of.Goals as goal

-- what is known once the requesters have been looked up
abbrev looked_up : (g : Over) (c : After-fit g) (numbers : List ℕ) → numbers ≡ c.in_ok-requesters.requesters → Answering
looked_up g c numbers same =
    let asked : Asked = c.args.query.now in
    let parts : List Part = g.I.Ids.parts c.args.ids.now in
    let live : List Bool = c.args.self.now.live in
    let names : List (List ℕ) = c.numbers.new.self.names in
    let flags : c.self.inside.live ≡ live = ap (λ (b : BaseView). b.live) c.self.view_is in
    record {
      asked = asked;
      parts = parts;
      live = live;
      names = names;
      base = c.numbers.new.self.system;
      numbers = numbers;
      levels = c.len-levels.result;
      ceilings = capped_values (g.V.ConditionValues.each c.args.values.now) c.self.inside.live;
      count = c.len-levels.ensures.count ∙ ap length c.values.ensures;
      several = omega (arith, c.len-levels.ensures.count, c.len-levels.ensures.at_least_two);
      few = omega (arith, c.len-levels.ensures.count, c.len-levels.ensures.at_most);
      well_formed = c.levels-levels.ensures.well_formed;
      is = c.in_ok-requesters.ensures.base parts
          (subst (λ (b : BaseView). IsBaseOf parts b.names b.system) (sym c.self.view_is) c.requires.base);
      one_each = c.in_ok-requesters.ensures.one_each;
      flags = ap length (sym flags) ∙ c.self.invariant.1 ∙ sym (ap length c.in_ok-requesters.ensures.rows);
      are = subst (AreNumbersOf names asked.requesters) (sym same)
          (subst (λ rs. AreNumbersOf names rs c.in_ok-requesters.requesters) c.requesters.ensures.requesters
          c.in_ok-requesters.ensures.numbers);
      others = c.requesters.ensures.right.others;
      capped = ap (λ vs. capped_values vs c.self.inside.live) c.requires.each
          ∙ ceilings-capped asked parts c.self.inside.live ∙ ap (ceilings_of asked parts) flags;
    }

pub settle_on_demand-requires-clause-others : goal.settle_on_demand-requires-clause-others
settle_on_demand-requires-clause-others g c =
    let at = goal.at.settle_on_demand-requires-clause-others g c in
    answering-others (looked_up g at.After-fit c.as_slice.result.now c.as_slice.ensures)

pub settle_on_demand-requires-clause-one_each : goal.settle_on_demand-requires-clause-one_each
settle_on_demand-requires-clause-one_each g c =
    let at = goal.at.settle_on_demand-requires-clause-one_each g c in
    answering-each (looked_up g at.After-fit c.as_slice.result.now c.as_slice.ensures)

pub settle_on_demand-requires-clause-low : goal.settle_on_demand-requires-clause-low
settle_on_demand-requires-clause-low g c =
    let at = goal.at.settle_on_demand-requires-clause-low g c in
    answering-low (looked_up g at.After-fit c.as_slice.result.now c.as_slice.ensures)

pub named_rows-requires-clause-numbers : goal.named_rows-requires-clause-numbers
named_rows-requires-clause-numbers g c =
    let at = goal.at.named_rows-requires-clause-numbers g c in
    answering-rows (looked_up g at.After-fit c.as_slice.result.now c.as_slice.ensures)
    c.in_ok-settled.settled.proof.rows _ c.in_ok-settled.ensures.proof

pub named_rows-requires-clause-one_each : goal.named_rows-requires-clause-one_each
named_rows-requires-clause-one_each g c =
    let at = goal.at.named_rows-requires-clause-one_each g c in
    let a : Answering = looked_up g at.After-fit c.as_slice.result.now c.as_slice.ensures in
    length-base a.names a.parts a.base.rows a.is.rows

pub returns-clause-proof : goal.returns-clause-proof
returns-clause-proof g c =
    let at = goal.at.returns-clause-proof g c in
    answering-proof (looked_up g at.After-fit c.as_slice.result.now c.as_slice.ensures) c.in_ok-named_rows.field-0
    c.in_ok-settled.settled.proof.rows _ c.in_ok-settled.settled.value (c.in_ok-named_rows.ensures _)
    c.in_ok-settled.ensures.proof c.in_ok-settled.ensures.value

pub returns-clause-least : goal.returns-clause-least
returns-clause-least g c =
    let at = goal.at.returns-clause-least g c in
    answering-least (looked_up g at.After-fit c.as_slice.result.now c.as_slice.ensures)
    (c.least_levels_are_least.ensures _) c.in_ok-settled.settled.value c.in_ok-settled.ensures.value

pub returns-clause-below : goal.returns-clause-below
returns-clause-below g c =
    let at = goal.at.returns-clause-below g c in
    answering-below (looked_up g at.After-fit c.as_slice.result.now c.as_slice.ensures) c.in_ok-named_rows.field-0
    c.in_ok-settled.settled.value (returns-clause-proof g c)
