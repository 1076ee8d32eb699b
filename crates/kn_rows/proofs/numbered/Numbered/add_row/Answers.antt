use Rattle.std.proofs.Common.{◌≡◌, ℕ, length, List, [], ◌∷◌, ◌++◌, refl, sym, ap, ◌∙◌, subst, arith}
use Rattle.kn_trees.specs.declared.assertion.Assertion.{Assertion}
use Rattle.kn_trees.specs.Formulas.{field_nodes}
use Rattle.kn_meaning.specs.Occurring.{licensees_names}
use Rattle.kn_system.specs.Equations.{SystemEquations}
use Rattle.kn_system.specs.Rows.{SystemRow}
use Rattle.kn_rows.specs.Numbering.{IsNumber, IsSystemOf}
use Rattle.kn_rows.specs.Extending.{AddsNames, Extends}
use Rattle.kn_rows.proofs.NamesAdded.{length-with_name}
use Rattle.kn_rows.proofs.NewNames.{AddsNames-then}
use Rattle.kn_rows.proofs.numbered.Numbered.add_row.Goals as goal

pub number-requires-clause-few : goal.number-requires-clause-few
number-requires-clause-few c = omega (arith, length-with_name c.args.self.now.names c.as_slice.result.now)

pub returns : goal.returns
returns c =
    let a : Assertion = c.args.assertion.now in
    let first : Extends 1 (c.as_slice.result.now ∷ []) c.args.self.now c.number.new.self =
    c.in_ok-authorizer.ensures.ok in
    let second : Extends (field_nodes a.licensees) (licensees_names a.licensees) c.number.new.self
    c.licensees.new.self = c.in_ok-pieces.ensures.ok in
    let names : List (List ℕ) = c.licensees.new.self.names in
    let row : SystemRow =
    record {
      authorizer = c.in_ok-authorizer.authorizer;
      ceiling = c.args.ceiling;
      formula =
          c.in_ok-pieces.pieces;
    } in
    let name : c.as_slice.result.now ≡ a.authorizer = c.as_slice.ensures in
    let own : AddsNames (a.authorizer ∷ []) c.args.self.now.names c.number.new.self.names =
    subst (λ n. AddsNames (n ∷ []) c.args.self.now.names c.number.new.self.names) name first.names in
    let pushed : c.push_row.new.self
    ≡ record c.licensees.new.self.system { rows = c.licensees.new.self.system.rows ++ row ∷ [] } =
    c.in_ok-push_row.ensures.ok in
    let rows : c.licensees.new.self.system.rows ≡ c.args.self.now.system.rows = second.rows ∙ first.rows in
    let system : record c.push_row.new.self { rows = c.args.self.now.system.rows } ≡ c.licensees.new.self.system =
    ap (λ (s : SystemEquations). record s { rows = c.args.self.now.system.rows }) pushed
    ∙ ap (λ rs. record c.licensees.new.self.system { rows = rs }) (sym rows) in
    record {
      ok = record {
        row = row;
        names = AddsNames-then (a.authorizer ∷ []) (licensees_names a.licensees) c.args.self.now.names
            c.number.new.self.names names own second.names;
        few = omega (arith, first.few, second.few);
        one_each = second.one_each ∙ sym (ap (λ (s : SystemEquations). length s.requesters) pushed);
        distinct = λ h. second.distinct (first.distinct h);
        levels = ap (λ (s : SystemEquations). s.levels) pushed ∙ second.levels ∙ first.levels;
        rows = ap (λ (s : SystemEquations). s.rows) pushed ∙ ap (λ rs. rs ++ row ∷ []) rows;
        short = c.in_ok-pieces.ensures.short;
        capped = refl;
        is = record {
          authorizer = second.names.keeps c.in_ok-authorizer.authorizer a.authorizer
              (subst (λ n. IsNumber c.number.new.self.names n c.in_ok-authorizer.authorizer) name
              c.in_ok-authorizer.ensures.number);
          pieces = c.in_ok-pieces.ensures.pieces;
          licensees = c.in_ok-pieces.ensures.level;
        };
        same = λ e of. subst (IsSystemOf e names) (sym system) (second.same e (first.same e of));
      };
    }
