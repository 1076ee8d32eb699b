-- What an added row states.
use Rattle.std.proofs.Common.{◌≡◌, ℕ, ◌+◌, ◌≤◌, List, [], ◌∷◌, ◌++◌, length, sym, ap, ◌∙◌, subst, arith}
use Rattle.kn_trees.specs.Formulas.{field_nodes}
use Rattle.kn_env.specs.Environment.{Asked}
use Rattle.kn_meaning.specs.Equations.{Equations, Part, Statement, statement_of}
use Rattle.kn_system.specs.Equations.{SystemEquations, node_total}
use Rattle.kn_rows.specs.declared.numbered.Numbered.{Numbered}
use Rattle.kn_rows.specs.Numbering.{IsRowOf, IsSystemOf}
use Rattle.kn_rows.specs.BaseRows.{AreBaseRows, IsBaseOf}
use Rattle.kn_rows.specs.Extending.{AddsRow, Extends, with_statement}
use Rattle.kn_rows.proofs.BaseRows.{AreBaseRows-kept, AreBaseRows-longer}
use Rattle.kn_rows.proofs.SizesAdded.{node_total-longer}
use Rattle.kn_rows.proofs.NewNames.{IsSystemOf-row}

-- the system states one more statement where the row's ceiling is the value of its conditions
pub added-statement : (asked : Asked) (part : Part) (ceiling : ℕ) (old new : Numbered)
    → AddsRow part.assertion ceiling old new → ceiling ≡ (statement_of asked part).ceiling → (e : Equations)
    → IsSystemOf e old.names old.system
    → IsSystemOf (with_statement e (statement_of asked part)) new.names new.system
added-statement asked part ceiling old new adds same e of =
    let statement : Statement = statement_of asked part in
    let before : SystemEquations = record new.system { rows = old.system.rows } in
    let is : IsRowOf e.top new.names statement adds.row =
    record {
      authorizer = adds.is.authorizer;
      ceiling = adds.capped ∙ same;
      pieces = adds.is.pieces;
      licensees =
          adds.is.licensees e.top;
    } in
    subst (λ rows. IsSystemOf (with_statement e statement) new.names (record new.system { rows = rows }))
    (sym adds.rows) (IsSystemOf-row e new.names before (adds.same e of) statement adds.row is)

pub added-nodes : (part : Part) (ceiling : ℕ) (old new : Numbered) → AddsRow part.assertion ceiling old new
    → node_total new.system.rows ≤ node_total old.system.rows + (2 + field_nodes part.assertion.licensees)
added-nodes part ceiling old new adds =
    let total : node_total new.system.rows ≡ node_total old.system.rows + length adds.row.formula =
    ap node_total adds.rows ∙ node_total-longer old.system.rows adds.row in
    omega (arith, total, adds.short)

-- a base is one of one more assertion
pub added-base : (part : Part) (ceiling : ℕ) (old new : Numbered) → AddsRow part.assertion ceiling old new
    → (parts : List Part) → IsBaseOf parts old.names old.system → IsBaseOf (parts ++ part ∷ []) new.names new.system
added-base part ceiling old new adds parts is = record {
  first = adds.names.keeps 0 _ is.first;
  distinct = adds.distinct is.distinct;
  rows = subst (λ rows. AreBaseRows new.names (parts ++ part ∷ []) rows) (sym adds.rows)
      (AreBaseRows-longer new.names parts old.system.rows
      (AreBaseRows-kept old.names new.names adds.names.keeps parts old.system.rows is.rows) part adds.row adds.is);
}

-- a base stays one of the same assertions where principals get numbers
pub extended-base : (n : ℕ) (added : List (List ℕ)) (old new : Numbered) → Extends n added old new → (parts : List Part)
    → IsBaseOf parts old.names old.system → IsBaseOf parts new.names new.system
extended-base n added old new ext parts is = record {
  first = ext.names.keeps 0 _ is.first;
  distinct = ext.distinct is.distinct;
  rows = subst (AreBaseRows new.names parts) (sym ext.rows)
      (AreBaseRows-kept old.names new.names ext.names.keeps parts old.system.rows is.rows);
}
