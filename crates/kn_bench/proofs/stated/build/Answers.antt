use Rattle.std.proofs.Common.{◌≡◌, ◌++◌, ◌∷◌, [], length, ap, ◌∙◌, arith, rules}
use Rattle.kn_system.specs.Equations.{SystemEquations, node_total}
use Rattle.kn_system.specs.Rows.{SystemRow}
use Rattle.kn_system.proofs.AddedRows.{node_total-push}
use Rattle.kn_bench.specs.Rows.{IsStated}
use Rattle.kn_bench.proofs.stated.build.Goals as goal

pub loop-row-preserved : goal.loop-row-preserved
loop-row-preserved c =
    let ok = c.in_ok-push_row.ensures.ok in
    let row : SystemRow =
    record {
      authorizer = c.row-item.result.authorizer;
      ceiling = c.row-item.result.ceiling;
      formula =
          c.row-item.result.formula;
    } in
    let rows : c.push_row.new.self.rows ≡ c.loop-row.system.rows ++ row ∷ [] =
    ap (λ (s : SystemEquations). s.rows) ok in
    let stated : IsStated c.args.size c.row-item.result = search rules in
    record {
      levels = ap (λ (s : SystemEquations). s.levels) ok ∙ c.loop-row.invariant.levels;
      principals = ap (λ (s : SystemEquations). length s.requesters) ok ∙ c.loop-row.invariant.principals;
      nodes = omega (
        arith,
        ap node_total rows,
        node_total-push c.loop-row.system.rows row,
        stated.short,
        c.loop-row.invariant.nodes,
      );
    }
