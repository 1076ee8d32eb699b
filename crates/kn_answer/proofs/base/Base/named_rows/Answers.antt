use Rattle.std.proofs.Common.{◌≡◌, ◌+◌, ◌<◌, length, get_or, map, take, sym, ap, subst, arith}
use Rattle.kn_proof.specs.declared.row.Row.{Row}
use Rattle.kn_answer.proofs.RowLists.{named-more}
use Rattle.kn_answer.specs.Built.{Interned}
use Rattle.kn_answer.specs.Located.{IsLocated, AreLocated}
use Rattle.kn_answer.proofs.base.Base.named_rows.Goals as goal

pub loop-row-preserved : goal.loop-row-preserved
loop-row-preserved g c = λ s.
    let built : Interned =
    record {
      names = c.args.self.now.names;
      system = s;
      ids =
          map (λ part. part.id) (g.I.Ids.parts c.args.ids.now);
    } in
    let items : c.as_slice-row-items.result.now ≡ c.args.proof.now.rows = c.as_slice-row-items.ensures in
    let within : c.loop-row.row-index < length c.args.proof.now.rows = omega (arith, ap length items) in
    let none : Row = record { principal = 0; value = 0; by = 0 } in
    let is : IsLocated built c.in_ok-named.named (get_or c.args.proof.now.rows c.loop-row.row-index none) =
    subst (λ xs. IsLocated built c.in_ok-named.named (get_or xs c.loop-row.row-index none)) items
    (c.in_ok-named.ensures s) in
    subst (λ rows. AreLocated built rows (take (c.loop-row.row-index + 1) c.args.proof.now.rows))
    (sym c.in_ok-add.ensures.ok)
    (named-more built c.loop-row.rows c.args.proof.now.rows c.loop-row.row-index c.in_ok-named.named none within
    (c.loop-row.invariant s) is)
