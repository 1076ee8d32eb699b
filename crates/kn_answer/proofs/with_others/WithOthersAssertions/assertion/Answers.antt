use Rattle.std.proofs.Common.{◌≡◌, ◌+◌, ◌-◌, List, length, map, sym, subst, arith}
use Rattle.std.proofs.lemmas.List.{length-map, map-append}
use Rattle.kn_trees.specs.declared.assertion.Assertion.{Assertion}
use Rattle.kn_meaning.specs.Equations.{Part}
use Rattle.kn_rows.specs.Numbering.{IsNumber}
use Rattle.kn_answer.proofs.LongerBases.{number-behind, number-front}
use Rattle.kn_answer.proofs.with_others.WithOthersAssertions.assertion.Goals as goal

pub returns-then-row-self : goal.returns-then-row-self
returns-then-row-self g c =
    let first : List Part = g.A.Assertions.parts c.args.self.now.first.now in
    let others : List Part = c.args.self.now.others.now in
    subst (λ (items : List Assertion). IsNumber items c.assertion.result.now c.args.row)
    (sym (map-append (λ (part : Part). part.assertion) first others))
    (number-front (map (λ (part : Part). part.assertion) first) (map (λ (part : Part). part.assertion) others)
    c.assertion.result.now c.args.row c.assertion.ensures)

pub returns-else-row-self : goal.returns-else-row-self
returns-else-row-self g c =
    let first : List Part = g.A.Assertions.parts c.args.self.now.first.now in
    let others : List Part = c.args.self.now.others.now in
    let before : List Assertion = map (λ (part : Part). part.assertion) first in
    let count : length before ≡ length first = simp length-map in
    let place : c.args.row ≡ length before + (c.args.row - c.args.self.now.count) =
    omega (arith, count, c.args.self.now.counted, c.if-row-self.false) in
    subst (λ (items : List Assertion). IsNumber items c.assertion-else-row-self.result.now c.args.row)
    (sym (map-append (λ (part : Part). part.assertion) first others))
    (number-behind before (map (λ (part : Part). part.assertion) others) c.assertion-else-row-self.result.now
    (c.args.row - c.args.self.now.count) c.args.row place c.assertion-else-row-self.ensures)
