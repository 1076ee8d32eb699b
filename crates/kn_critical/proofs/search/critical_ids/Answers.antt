use Rattle.std.proofs.Common.{◌≡◌, ◌+◌, ◌<◌, ◌≤◌, ℕ, true, false, List, ◌++◌, length, sym, ◌∙◌, subst, arith}
use Rattle.std.proofs.lemmas.List.{drop_all}
use Rattle.kn_env.specs.Environment.{Asked}
use Rattle.kn_meaning.specs.Critical.{AreCritical}
use Rattle.kn_meaning.specs.Equations.{Part}
use Rattle.kn_critical.proofs.CriticalSoFar.{AreFound, found-critical, found-other, all-found}
use Rattle.kn_critical.proofs.Rows.{row-has}
use Rattle.kn_critical.proofs.search.critical_ids.Goals.{then-critical+in_ok-add, else-critical}
use Rattle.kn_critical.proofs.search.critical_ids.Goals as goal

pub loop-row-init : goal.loop-row-init
loop-row-init g c = record {
  whole = c.requires.whole;
  cleared = λ row from to. absurd (omega (arith, to));
  found = λ rest behind.
      subst (λ ids. AreCritical c.args.question.now.query.now c.args.question.now.list.now c.args.question.now.list.now
      (ids ++ rest)) (sym c.new-ids.ensures) behind;
}

pub loop-row-preserved : goal.loop-row-preserved
loop-row-preserved g c =
    let asked : Asked = c.args.question.now.query.now in
    let parts : List Part = c.args.question.now.list.now in
    let row : ℕ = c.loop-row.row in
    let within : row < length parts = omega arith in
    record {
      whole = c.is_critical.ensures.whole;
      cleared = c.in_ok-critical.ensures.cleared;
      found = elim c.if-critical.branch [
        | then-critical+in_ok-add w ↦
            subst (AreFound asked parts (row + 1)) (sym (w.ids-is ∙ w.in_ok-add.ensures.ok))
            (found-critical asked parts row w.id.result w.id.ensures c.loop-row.ids
            ((c.in_ok-critical.ensures.critical w.id.result w.id.ensures).0 w.if-critical.true)
            c.loop-row.invariant.found)
        | else-critical w ↦
            let own = row-has parts row within in
            subst (AreFound asked parts (row + 1)) (sym w.ids-is)
            (found-other asked parts row own.0 own.1 c.loop-row.ids
            (λ critical.
            let yes : c.in_ok-critical.critical ≡ true = (c.in_ok-critical.ensures.critical own.0 own.1).1 critical in
            let no : c.in_ok-critical.critical ≡ false = w.if-critical.false in
            absurd (cc))
            c.loop-row.invariant.found)
      ];
    }

pub returns : goal.returns
returns g c =
    let past : length c.args.question.now.list.now ≤ c.loop-row.row = omega arith in
    all-found c.args.question.now.query.now c.args.question.now.list.now c.loop-row.row c.loop-row.ids
    (drop_all c.loop-row.row c.args.question.now.list.now past) c.loop-row.invariant.found
