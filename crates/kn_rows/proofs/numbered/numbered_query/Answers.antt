use Rattle.std.proofs.Common.{◌≡◌, ℕ, ◌+◌, ◌-◌, ◌≤◌, List, [], ◌∷◌, flat_map, length, map, sym, ap, ◌∙◌, subst, arith}
use Rattle.kn_env.specs.Environment.{Asked}
use Rattle.kn_rows.specs.Numbering.{AreNumbered, AreRowsOf, HaveNumbers, IsSystemOf}
use Rattle.kn_principal.specs.Principals.{policy}
use Rattle.kn_meaning.specs.Equations.{Statement, equations_over, statement_of}
use Rattle.kn_meaning.specs.Occurring.{occurring, statement_names}
use Rattle.kn_rows.specs.Extending.{AddsNames}
use Rattle.kn_rows.proofs.NewNames.{AddsNames-longer, AddsNames-then, AreNamesOf-added}
use Rattle.kn_rows.proofs.numbered.numbered_query.Goals as goal

pub returns-clause-system : goal.returns-clause-system
returns-clause-system c =
    let asked : Asked = c.args.query.now in
    let requesters : c.requesters.result.now ≡ asked.requesters = c.requesters.ensures.requesters in
    let values : c.values.result.now ≡ asked.values = c.values.ensures in
    let count : c.len.result ≡ length asked.values = c.len.ensures.count ∙ ap length values in
    let several : 2 ≤ c.len.result = omega (arith, c.len.ensures.count, c.len.ensures.at_least_two) in
    let whole : c.len.result ≡ length asked.values - 1 + 1 = omega arith in
    let start : IsSystemOf (equations_over asked []) c.add_requesters.new.self.names c.add_requesters.new.self.system =
    record {
      numbered = subst (λ rs. AreNumbered rs c.add_requesters.new.self.names
          c.add_requesters.new.self.system.requesters) requesters c.in_ok-add_requesters.ensures.numbered;
      all = subst (λ rs. HaveNumbers rs c.add_requesters.new.self.names) requesters
          c.in_ok-add_requesters.ensures.principals.all;
      top = c.in_ok-add_requesters.ensures.levels ∙ ap (λ s. s.levels) c.in_ok-numbered.ensures.system ∙ whole;
      rows = subst (AreRowsOf (length asked.values - 1) c.add_requesters.new.self.names [])
          (sym (c.in_ok-add_requesters.ensures.rows ∙ ap (λ s. s.rows) c.in_ok-numbered.ensures.system)) tt;
    } in
    c.in_ok-add_statements.ensures.system start

pub returns-clause-principals : goal.returns-clause-principals
returns-clause-principals c =
    let asked : Asked = c.args.query.now in
    let requesters : c.requesters.result.now ≡ asked.requesters = c.requesters.ensures.requesters in
    let statements : List Statement = map (statement_of asked) c.args.list.now in
    let start : List (List ℕ) = c.in_ok-numbered.numbered.names in
    let first : AddsNames (policy ∷ []) [] start = AddsNames-longer [] start policy c.in_ok-numbered.ensures.names in
    let second : AddsNames asked.requesters start c.add_requesters.new.self.names =
    subst (λ rs. AddsNames rs start c.add_requesters.new.self.names) requesters
    c.in_ok-add_requesters.ensures.principals in
    AreNamesOf-added (occurring (equations_over asked c.args.list.now)) c.add_statements.new.self.names
    (AddsNames-then (policy ∷ asked.requesters) (flat_map statement_names statements) [] c.add_requesters.new.self.names
    c.add_statements.new.self.names
    (AddsNames-then (policy ∷ []) asked.requesters [] start c.add_requesters.new.self.names first second)
    c.in_ok-add_statements.ensures.principals)
