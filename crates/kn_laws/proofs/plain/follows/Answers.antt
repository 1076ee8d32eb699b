use Rattle.std.proofs.Common.{◌≡◌, ◌∙◌, [], ap, sym, drop, map, arith}
use Rattle.std.proofs.lemmas.List.{drop_all}
use Rattle.kn_meaning.specs.Tables.{statement_in}
use Rattle.kn_laws.specs.Tested.{ends_proof}
use Rattle.kn_laws.proofs.plain.follows.Goals as goal

-- no row is left behind the loop
pub returns : goal.returns
returns c =
    let ss = map statement_in c.args.statements.now in
    let over : drop c.loop-row.row-index c.args.rows.now ≡ [] =
    drop_all c.loop-row.row-index c.args.rows.now (omega (arith, c.loop-row-test.false)) in
    c.in_ok-found.ensures
    ∙ ap (λ t. ends_proof c.args.top ss t [] c.args.level) c.as_slice-2.ensures
    ∙ ap (λ rows. ends_proof c.args.top ss c.loop-row.table rows c.args.level) (sym over)
    ∙ c.loop-row.invariant
