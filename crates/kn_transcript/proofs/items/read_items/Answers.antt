use Rattle.std.proofs.Common.{◌≤◌, ◌<◌, ℕ, length, rules, arith, []}
use Rattle.kn_wire.specs.declared.items.BatchItem.{BatchItem as ItemInCode}
use Rattle.kn_wire.specs.declared.items.BatchItem.TheVariants as B
use Rattle.kn_transcript.proofs.PlaceLaws.{read_more, readings_more, read_ended, read_all}
use Rattle.kn_transcript.proofs.items.read_items.Goals as goal

pub loop-item-preserved : goal.loop-item-preserved
loop-item-preserved c =
    let items = c.args.items.now in
    let i : ℕ = c.loop-item.item-index in
    let within : i < length items = omega arith in
    let none : ItemInCode = B.Add (record { ref_ptr = (0, 0); now = [] }) in (
      read_more items i none within c.loop-item.read _ _ c.loop-item.invariant.0 c.in-Ok-push.ensures.ok
          c.in-Ok.ensures.item,
      readings_more items i none within c.loop-item.invariant.1 c.in-Ok.ensures.reading,
    )

pub returns : goal.returns
returns c =
    let items = c.args.items.now in
    let all : length items ≤ c.loop-item.item-index = search rules in
    record { read = read_all items c.loop-item.item-index _ all c.loop-item.invariant.0 c.loop-item.invariant.1 }

pub returns-in-Err : goal.returns-in-Err
returns-in-Err c =
    let items = c.args.items.now in
    let i : ℕ = c.loop-item.item-index in
    let within : i < length items = omega arith in
    let none : ItemInCode = B.Add (record { ref_ptr = (0, 0); now = [] }) in
    record {
      read = read_ended items i none within c.end_reading.result c.loop-item.read c.in-Err.refusal
          c.loop-item.invariant.0
          c.loop-item.invariant.1 c.in-Err.ensures.unread c.end_reading.ensures;
    }
