use Rattle.std.proofs.Common.{◌+◌, ◌≤◌, sym, ap, subst}
use Rattle.kn_trees.specs.declared.assertion.Assertion.{Assertion}
use Rattle.kn_trees.specs.Formulas.{field_nodes}
use Rattle.kn_meaning.specs.Equations.{Part}
use Rattle.kn_system.specs.Equations.{node_total}
use Rattle.kn_rows.specs.BaseRows.{IsBaseOf}
use Rattle.kn_rows.specs.Extending.{AddsRow}
use Rattle.kn_rows.proofs.RowsOfAssertions.{added-base, added-nodes}
use Rattle.kn_answer.specs.Based.{BaseView, GoesOn}
use Rattle.kn_answer.proofs.LongerBases.{goes-on-row}
use Rattle.kn_answer.proofs.base.Base.extend.Goals as goal

pub returns-clause-base : goal.returns-clause-base
returns-clause-base c = λ parts is.
    let adds : AddsRow c.args.part.now.assertion 0 c.self.inside.numbered c.add_row.new.self =
    subst (λ (a : Assertion). AddsRow a 0 c.self.inside.numbered c.add_row.new.self)
    (ap (λ (p : Part). p.assertion) c.part.view_is) c.in_ok-add_row.ensures.ok in
    added-base c.args.part.now 0 c.self.inside.numbered c.add_row.new.self adds parts
    (subst (λ (b : BaseView). IsBaseOf parts b.names b.system) (sym c.self.view_is) is)

pub returns-clause-nodes : goal.returns-clause-nodes
returns-clause-nodes c =
    let adds : AddsRow c.args.part.now.assertion 0 c.self.inside.numbered c.add_row.new.self =
    subst (λ (a : Assertion). AddsRow a 0 c.self.inside.numbered c.add_row.new.self)
    (ap (λ (p : Part). p.assertion) c.part.view_is) c.in_ok-add_row.ensures.ok in
    let more : node_total c.add_row.new.self.system.rows ≤ node_total c.self.inside.numbered.system.rows
    + (2 + field_nodes c.args.part.now.assertion.licensees) =
    added-nodes c.args.part.now 0 c.self.inside.numbered c.add_row.new.self adds in
    subst (λ (b : BaseView). node_total c.add_row.new.self.system.rows ≤ node_total b.system.rows
    + (2 + field_nodes c.args.part.now.assertion.licensees)) c.self.view_is more

pub returns-clause-goes_on : goal.returns-clause-goes_on
returns-clause-goes_on c =
    let adds : AddsRow c.args.part.now.assertion 0 c.self.inside.numbered c.add_row.new.self =
    subst (λ (a : Assertion). AddsRow a 0 c.self.inside.numbered c.add_row.new.self)
    (ap (λ (p : Part). p.assertion) c.part.view_is) c.in_ok-add_row.ensures.ok in
    subst (λ (b : BaseView).
    GoesOn b (record {
      names = c.add_row.new.self.names;
      system = c.add_row.new.self.system;
      live =
          c.add.new.self;
    })) c.self.view_is
    (goes-on-row c.args.part.now.assertion 0 c.self.inside.numbered c.add_row.new.self adds c.self.inside.live
    c.add.new.self)
