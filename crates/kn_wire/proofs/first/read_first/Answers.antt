use Rattle.std.proofs.Common.{◌∙◌, ap, sym, arith}
use Rattle.kn_wire.specs.Requests.{without_return}
use Rattle.kn_wire.specs.Lines.{with_block}
use Rattle.kn_wire.proofs.Firsts.{names_block, spends_line}
use Rattle.kn_wire.proofs.first.read_first.Goals as goal

pub read_block-requires : goal.read_block-requires
read_block-requires c =
    names_block c.args.text.now c.without_return-line.result.now c.place_of-end.result c.in-Some.n
    (with_block c.in-Some.head)
    c.place_of-end.ensures.place c.if-end-gt-LINE_BYTES.false (omega arith) (c.without_return-line.ensures
    ∙ ap without_return c.split_at.ensures.front)
    c.in-Some.ensures

pub returns-in-None : goal.returns-in-None
returns-in-None c =
    spends_line c.args.text.now c.without_return-line.result.now c.place_of-end.result
    c.place_of-end.ensures.place c.if-end-gt-LINE_BYTES.false (omega arith) (c.without_return-line.ensures
    ∙ ap without_return c.split_at.ensures.front)
    (sym c.in-None.ensures)
