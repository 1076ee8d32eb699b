use Rattle.kn_wire.specs.Lines.{with_block}
use Rattle.kn_wire.proofs.Firsts.{unended_above, waits_for_block, unended_byte, spends_block}
use Rattle.kn_wire.proofs.first.read_block.Goals as goal

pub returns-then-n-gt-ASSERTION_BYTES : goal.returns-then-n-gt-ASSERTION_BYTES
returns-then-n-gt-ASSERTION_BYTES c =
    unended_above c.args.text.now c.args.end c.args.n (with_block c.args.head) c.requires c.if-n-gt-ASSERTION_BYTES.true

pub returns-then-text-start : goal.returns-then-text-start
returns-then-text-start c =
    waits_for_block c.args.text.now c.args.end c.args.n (with_block c.args.head) c.requires
    c.if-n-gt-ASSERTION_BYTES.false c.if-text-start.true

pub returns-then-text-start-ne10 : goal.returns-then-text-start-ne10
returns-then-text-start-ne10 c =
    unended_byte c.args.text.now c.args.end c.args.n (with_block c.args.head) c.requires c.if-n-gt-ASSERTION_BYTES.false
    c.if-text-start.false c.if-text-start-ne10.true

pub returns : goal.returns
returns c =
    spends_block c.args.text.now c.args.end c.args.n c.args.head c.requires c.if-n-gt-ASSERTION_BYTES.false
    c.if-text-start.false c.if-text-start-ne10.false
