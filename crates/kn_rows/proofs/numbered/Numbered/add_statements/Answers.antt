use Rattle.std.proofs.Common.{◌≡◌, ℕ, ◌+◌, ◌-◌, ◌<◌, length, List, [], ◌∷◌, ◌++◌, flat_map, map, take, drop, get_or}
use Rattle.std.proofs.Common.{sym, ap, ◌∙◌, subst, arith}
use Rattle.std.proofs.lemmas.List.{take_all, append-nil}
use Rattle.std.proofs.lemmas.Grind.{flat_map-append}
use Rattle.kn_env.specs.Environment.{Asked}
use Rattle.kn_rows.specs.Numbering.{IsSystemOf}
use Rattle.kn_meaning.specs.Equations.{Part, Statement, equations_over, statement_of}
use Rattle.kn_meaning.specs.Occurring.{statement_names}
use Rattle.kn_rows.specs.Extending.{AddsNames}
use Rattle.kn_rows.proofs.NewNames.{AddsNames-then}
use Rattle.kn_rows.specs.Sizes.{IsReadablePart, total_size, size_of}
use Rattle.kn_rows.proofs.SizesAdded.{total_size-drop, statements-more}
use Rattle.kn_rows.proofs.numbered.Numbered.add_statements.Goals as goal

pub add_statement-requires-clause-readable : goal.add_statement-requires-clause-readable
add_statement-requires-clause-readable c =
    let items : c.as_slice-part-items.result.now ≡ c.args.list.now = c.as_slice-part-items.ensures in
    let within : c.loop-part.part-index < length c.args.list.now = omega (arith, ap length items) in
    subst IsReadablePart (sym (c.part-item.is ∙ ap (λ xs. get_or xs c.loop-part.part-index c.part-item.result) items))
    (c.requires.readable c.loop-part.part-index c.part-item.result within)

pub loop-part-preserved : goal.loop-part-preserved
loop-part-preserved c =
    let items : c.as_slice-part-items.result.now ≡ c.args.list.now = c.as_slice-part-items.ensures in
    let i : ℕ = c.loop-part.part-index in
    let a : Part = c.part-item.result in
    let asked : Asked = c.args.query.now in
    let list : List Part = c.args.list.now in
    let within : i < length list = omega (arith, ap length items) in
    let here : a ≡ get_or list i a = c.part-item.is ∙ ap (λ xs. get_or xs i a) items in
    let rest : total_size (drop i list) ≡ size_of a + total_size (drop (i + 1) list) =
    total_size-drop list i a within here in
    record {
      names_fit = omega (arith, rest, c.loop-part.invariant.names_fit, c.in_ok-add_statement.ensures.names);
      nodes_fit = omega (arith, rest, c.loop-part.invariant.nodes_fit, c.in_ok-add_statement.ensures.nodes);
      one_each = c.in_ok-add_statement.ensures.one_each;
      levels = c.in_ok-add_statement.ensures.levels ∙ c.loop-part.invariant.levels;
      system = λ of.
          subst (λ statements.
          IsSystemOf (record {
            top = length asked.values - 1;
            requesters = asked.requesters;
            statements =
                statements;
          }) c.add_statement.new.self.names c.add_statement.new.self.system)
          (statements-more asked list i a within here)
          (c.in_ok-add_statement.ensures.system (equations_over asked (take i list)) (c.loop-part.invariant.system of));
      principals =
          let before : List Statement = map (statement_of asked) (take i list) in
          let statement : Statement = statement_of asked a in
          let names : flat_map statement_names before ++ statement_names statement
          ≡ flat_map statement_names (map (statement_of asked) (take (i + 1) list)) =
          sym (flat_map-append statement_names before (statement ∷ [])
          ∙ ap (λ ns. flat_map statement_names before ++ ns) (append-nil (statement_names statement)))
          ∙ ap (flat_map statement_names) (statements-more asked list i a within here) in
          subst (λ ns. AddsNames ns c.args.self.now.names c.add_statement.new.self.names) names
          (AddsNames-then (flat_map statement_names before) (statement_names statement) c.args.self.now.names
          c.loop-part.self.names c.add_statement.new.self.names c.loop-part.invariant.principals
          c.in_ok-add_statement.ensures.principals);
    }

pub returns-clause-system : goal.returns-clause-system
returns-clause-system c = λ of.
    let all : take c.loop-part.part-index c.args.list.now ≡ c.args.list.now =
    take_all c.loop-part.part-index c.args.list.now (omega (arith, ap length c.as_slice-part-items.ensures)) in
    subst (λ list. IsSystemOf (equations_over c.args.query.now list) c.loop-part.self.names c.loop-part.self.system) all
    (c.loop-part.invariant.system of)

pub returns-clause-principals : goal.returns-clause-principals
returns-clause-principals c =
    let all : take c.loop-part.part-index c.args.list.now ≡ c.args.list.now =
    take_all c.loop-part.part-index c.args.list.now (omega (arith, ap length c.as_slice-part-items.ensures)) in
    subst (λ list. AddsNames (flat_map statement_names (map (statement_of c.args.query.now) list)) c.args.self.now.names
    c.loop-part.self.names) all c.loop-part.invariant.principals
