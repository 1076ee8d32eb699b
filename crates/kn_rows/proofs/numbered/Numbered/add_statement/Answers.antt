use Rattle.std.proofs.Common.{◌≡◌, ap, subst}
use Rattle.kn_trees.specs.declared.assertion.Assertion.{Assertion}
use Rattle.kn_meaning.specs.Equations.{Part, statement_of}
use Rattle.kn_rows.specs.Extending.{AddsRow}
use Rattle.kn_rows.proofs.RowsOfAssertions.{added-nodes, added-statement}
use Rattle.kn_rows.proofs.numbered.Numbered.add_statement.Goals.{In_ok-add_row}
use Rattle.kn_rows.proofs.numbered.Numbered.add_statement.Goals as goal

-- the row that was added is the assertion's
adds : (c : In_ok-add_row)
    → AddsRow c.args.part.now.assertion c.in_ok-ceiling.ceiling c.args.self.now c.add_row.new.self
adds c =
    subst (λ (a : Assertion). AddsRow a c.in_ok-ceiling.ceiling c.args.self.now c.add_row.new.self)
    (ap (λ (p : Part). p.assertion) c.part.view_is) c.in_ok-add_row.ensures.ok

pub returns-clause-nodes : goal.returns-clause-nodes
returns-clause-nodes c =
    added-nodes c.args.part.now c.in_ok-ceiling.ceiling c.args.self.now c.add_row.new.self (adds c)

pub returns-clause-system : goal.returns-clause-system
returns-clause-system c = λ e of.
    let seen : c.part.inside.assertion.now ≡ c.args.part.now.assertion =
    ap (λ (p : Part). p.assertion) c.part.view_is in
    added-statement c.args.query.now c.args.part.now c.in_ok-ceiling.ceiling c.args.self.now c.add_row.new.self
    (adds c)
    (subst (λ (x : Assertion). c.in_ok-ceiling.ceiling
    ≡ (statement_of c.args.query.now (record { id = c.args.part.now.id; assertion = x })).ceiling) seen
    c.in_ok-ceiling.ensures.value) e of
