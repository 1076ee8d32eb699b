use Rattle.std.proofs.Common.{ℕ, inl, inr, sym, subst, arith}
use Rattle.std.proofs.lemmas.Bool.{cases_eq}
use Rattle.kn_query.specs.ChangedRows.{HasRow}
use Rattle.kn_query.proofs.changed_rows.ChangedRows.add_range.Goals as goal

pub loop-row-preserved : goal.loop-row-preserved
loop-row-preserved c =
    let here : ℕ = c.loop-row.row in
    record {
      has = λ row low high. elim (cases_eq row here) [
        | inl same ↦ subst (HasRow c.add.new.self) (sym same) c.add.ensures.has
        | inr differs ↦ c.add.ensures.keeps row (c.loop-row.invariant.has row low (omega (arith, high, differs)))
      ];
      keeps = λ other has. c.add.ensures.keeps other (c.loop-row.invariant.keeps other has);
      below = λ count end below. c.add.ensures.below count (omega (arith, end, c.loop-row-test.true))
          (c.loop-row.invariant.below count end below);
    }

pub returns-clause-has : goal.returns-clause-has
returns-clause-has c = λ row low high. c.loop-row.invariant.has row low (omega (arith, high, c.loop-row-test.false))
