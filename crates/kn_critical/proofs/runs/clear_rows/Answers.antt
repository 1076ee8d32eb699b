use Rattle.std.proofs.Common.{◌≡◌, ℕ, suc, ◌+◌, subst, arith}
use Rattle.kn_critical.specs.Searching.{IsLevelWithoutRun}
use Rattle.kn_critical.proofs.CriticalByLevels.{alone-critical, run-uncritical}
use Rattle.kn_critical.proofs.runs.clear_rows.Goals as goal

pub loop-count-preserved : goal.loop-count-preserved
loop-count-preserved g c =
    let asked = c.args.question.now.query.now in
    let parts = c.args.question.now.list.now in
    let rows = c.args.answer.now.rows in
    let row : ℕ = c.args.row in
    let count : ℕ = c.loop-count.count in
    record {
      within = omega arith;
      whole = c.value_without_run.ensures.whole;
      critical = λ none.
          let alone : row + count ≡ suc row = omega (arith, none) in
          alone-critical asked parts rows c.args.answer.now.value c.requires.least c.requires.ids row
          c.in_ok-value.value c.requires.named
          (subst (λ end. IsLevelWithoutRun asked rows parts row end c.in_ok-value.value) alone
          c.in_ok-value.ensures.least) (omega arith);
    }

pub returns-then-value-answer-clause-cleared : goal.returns-then-value-answer-clause-cleared
returns-then-value-answer-clause-cleared g c =
    run-uncritical c.args.question.now.query.now c.args.question.now.list.now c.args.answer.now.rows
    c.args.answer.now.value c.requires.least c.requires.ids
    c.every_query_has_a_level.ensures.one c.unnamed_is_not_critical.ensures.uncritical c.requires.proof
    c.args.row (c.args.row + c.loop-count.count) c.in_ok-value.value (omega arith) c.in_ok-value.ensures.least
    (omega arith)
