use Rattle.std.proofs.Common.{ℕ, ◌+◌, List, arith, rules}
use Rattle.kn_system.specs.Rows.{SystemRow}
use Rattle.kn_system.proofs.NodeCounts.{node_total-take, node_total-more}
use Rattle.kn_check.proofs.rows.test_closed.Goals as goal

pub returns-then-levels-authorizer-clause-ticks : goal.returns-then-levels-authorizer-clause-ticks
returns-then-levels-authorizer-clause-ticks g c = λ fits.
    let rows : List SystemRow = c.args.system.now.rows in
    let i : ℕ = c.loop-assertion.assertion in
    let before = c.loop-assertion.invariant.ticks fits in
    let more = node_total-more rows i (omega (arith, c.loop-assertion-test.true, c.rows-assertion-end.ensures)) in
    let all = node_total-take rows (i + 1) in
    (omega (arith, before, c.worth-found.ensures.ticks), omega (arith, before, more, all, c.worth-found.ensures.ticks))

pub loop-assertion-preserved : goal.loop-assertion-preserved
loop-assertion-preserved g c =
    let rows : List SystemRow = c.args.system.now.rows in
    let i : ℕ = c.loop-assertion.assertion in
    let more = node_total-more rows i (omega (arith, c.loop-assertion-test.true, c.rows-assertion-end.ensures)) in
    record {
      closed = search rules;
      ticks = λ fits.
          let before = c.loop-assertion.invariant.ticks fits in (
            omega (arith, before, c.worth-found.ensures.ticks),
            omega (arith, before, more, c.worth-found.ensures.ticks),
          );
    }
