use Rattle.std.proofs.Common.{length, ap, arith, is_some}
use Rattle.kn_play.proofs.Finding.{means-none, few-before, means-last}
use Rattle.kn_play.proofs.query.find_query.Goals as goal

-- src/query.rt:32:9
pub returns-in_default-clause-none : goal.returns-in_default-clause-none
returns-in_default-clause-none c =
    means-none c.args.book.now c.args.script.now (length c.args.script.now) c.in_ok-last.field-0 c.in_ok-last.ensures
    (omega arith) c.in_default.is

-- src/query.rt:35:40
pub play-requires-2 : goal.play-requires-2
play-requires-2 c =
    let few = few-before c.args.book.now c.args.script.now (length c.args.script.now) c.in_ok-last.field-0
    c.in_ok-last.ensures (omega arith) c.in-Some.field-0 c.in-Some.is in
    omega (arith, few, c.requires.short)

-- src/query.rt:36:8
pub invariant_of-result : goal.invariant_of-result
invariant_of-result c =
    record {
      is_there = ap is_some
          (means-last c.args.book.now c.args.script.now (length c.args.script.now) c.in_ok-last.field-0
          c.in_ok-last.ensures (omega arith) c.in-Some.field-0 c.in-Some.is
          c.in_ok-sessions.field-0 c.in_ok-sessions.ensures).1;
    }

-- src/query.rt:20:1
pub returns-clause-some : goal.returns-clause-some
returns-clause-some c =
    means-last c.args.book.now c.args.script.now (length c.args.script.now) c.in_ok-last.field-0 c.in_ok-last.ensures
    (omega arith) c.in-Some.field-0 c.in-Some.is
    c.in_ok-sessions.field-0 c.in_ok-sessions.ensures
