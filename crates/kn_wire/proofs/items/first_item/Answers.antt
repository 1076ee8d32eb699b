use Rattle.std.proofs.Common.{◌∙◌, sym, arith}
use Rattle.kn_wire.proofs.ItemSteps.{no_item, item_at}
use Rattle.kn_wire.proofs.items.first_item.Goals as goal

pub returns-then-end-text : goal.returns-then-end-text
returns-then-end-text c =
    sym (no_item c.args.text.now c.place_of-end.result c.place_of-end.ensures.place c.if-end-text.true)

pub returns : goal.returns
returns c =
    c.item_of_line.ensures
    ∙ item_at c.args.text.now c.split_at.result.0.now c.split_at-2.result.1.now c.place_of-end.result
    c.place_of-end.ensures.place (omega arith) c.split_at.ensures.front c.split_at-2.ensures.back
