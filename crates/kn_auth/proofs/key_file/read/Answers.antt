use Rattle.std.proofs.Common.{◌≡◌, ◌+◌, length, arith, ap, rules, ◌∙◌}
use Rattle.std.specs.Str.Lines.{lines}
use Rattle.kn_auth.proofs.FileLines.{lines_given}
use Rattle.kn_auth.proofs.KeyFiles.{IsReadTo, read_none, read_more, first_refused, read_whole}
use Rattle.kn_auth.proofs.key_file.read.Goals as goal

pub lines-init : goal.lines-init
lines-init c =
    let given : c.lines-lines.result ≡ lines c.args.bytes.now = c.lines-lines.ensures.value
    ∙ lines_given c.args.bytes.now in
    let none : IsReadTo c.args.bytes.now 0 c.empty-file.result c.lines-lines.result =
    rw given (read_none c.args.bytes.now c.empty-file.result c.empty-file.ensures.keys c.empty-file.ensures.digests
    c.empty-file.ensures.secret) in
    ((search rules), (search rules), none, (omega (arith, c.lines-lines.ensures.len)))

pub overflow_add-number : goal.overflow_add-number
overflow_add-number c =
    let size = ap length c.in-Some.ensures.steps in
    let few = c.lines.invariant.3 in
    omega arith

pub returns-then-not-branch-clause-err : goal.returns-then-not-branch-clause-err
returns-then-not-branch-clause-err c =
    first_refused c.args.bytes.now c.lines.number c.lines.file c.in-Some.line.now c.next.new.self
    (rw c.in-Some.ensures.steps at c.lines.invariant.2)
    (rw c.if-not-branch.true at c.in_ok-take_line.ensures.taken)

pub lines-preserved : goal.lines-preserved
lines-preserved c =
    let size = ap length c.in-Some.ensures.steps in
    let few = c.lines.invariant.3 in
    let more : IsReadTo c.args.bytes.now (c.lines.number + 1) c.take_line.new.self c.next.new.self =
    read_more c.args.bytes.now c.lines.number c.lines.file c.take_line.new.self c.in-Some.line.now c.next.new.self
    (rw c.in-Some.ensures.steps at c.lines.invariant.2)
    (rw c.if-not-branch.false at c.in_ok-take_line.ensures.taken) in
    ((search rules), (search rules), more, (omega arith))

pub returns-clause-ok : goal.returns-clause-ok
returns-clause-ok c =
    read_whole c.args.bytes.now c.lines.number c.lines.file (rw c.in_default.ensures.steps.0 at c.lines.invariant.2)
