use Rattle.std.proofs.Common.{List, map, sym, subst, arith}
use Rattle.std.proofs.lemmas.List.{length-map}
use Rattle.kn_wire.specs.declared.items.BatchItem.{BatchItem}
use Rattle.kn_wire.specs.ItemsInCode.{item_of}
use Rattle.kn_wire.proofs.ItemParts.{begins_with_item, items_some, items_within}
use Rattle.kn_wire.proofs.ItemSteps.{BeginsWith, begins_with_none, departs_behind, departs_here, items_are}
use Rattle.kn_wire.proofs.ItemSteps.{nothing_left, something_left}
use Rattle.kn_wire.proofs.items.batch_items.Goals as goal

pub loop-rest-init : goal.loop-rest-init
loop-rest-init c =
    subst (λ (items : List BatchItem). BeginsWith c.args.block.now (map item_of items) c.args.block.now)
    (sym c.new-items.ensures)
    (begins_with_none c.args.block.now (something_left c.args.block.now c.if-is_empty.ensures))

pub returns-then-number-gt-CHANGES-clause-fault : goal.returns-then-number-gt-CHANGES-clause-fault
returns-then-number-gt-CHANGES-clause-fault c =
    let count = length-map c.loop-rest.items item_of in
    departs_behind c.args.block.now (map item_of c.loop-rest.items) c.loop-rest.rest.now _ c.loop-rest.invariant
    (something_left c.loop-rest.rest.now c.loop-rest-test.ensures) (omega arith) (omega arith)

pub returns-in_default-clause-fault : goal.returns-in_default-clause-fault
returns-in_default-clause-fault c =
    let count = length-map c.loop-rest.items item_of in
    departs_here c.args.block.now (map item_of c.loop-rest.items) c.loop-rest.rest.now _ c.loop-rest.invariant
    (something_left c.loop-rest.rest.now c.loop-rest-test.ensures) (omega arith)
    (sym c.in_default.ensures)

pub loop-rest-preserved : goal.loop-rest-preserved
loop-rest-preserved c =
    begins_with_item c.args.block.now c.loop-rest.items c.push.new.self c.in-Some.item c.loop-rest.rest.now
    c.in-Some.left.now c.len-number.result c.loop-rest.invariant c.len-number.ensures
    c.if-number-gt-CHANGES.false c.in-Ok.ensures.ok (sym c.in-Some.ensures)

pub returns-clause-items : goal.returns-clause-items
returns-clause-items c =
    items_are c.args.block.now (map item_of c.loop-rest.items) c.loop-rest.rest.now c.loop-rest.invariant
    (nothing_left c.loop-rest.rest.now c.loop-rest-test.ensures)

pub returns-clause-some : goal.returns-clause-some
returns-clause-some c = items_some c.args.block.now c.loop-rest.items (returns-clause-items c)

pub returns-clause-short : goal.returns-clause-short
returns-clause-short c =
    λ limit within. items_within c.args.block.now c.loop-rest.items limit within (returns-clause-items c)
