use Rattle.std.proofs.Common.{◌≡◌, ℕ, ◌<◌, [], length, ap, arith}
use Rattle.std.proofs.lemmas.Result.{err_from_is_err_and}
use Rattle.kn_wire.specs.declared.items.BatchItem.{BatchItem}
use Rattle.kn_wire.specs.declared.items.BatchItem.TheVariants as B
use Rattle.kn_follow.proofs.Takings.{asked_more, asked_unreadable}
use Rattle.kn_follow.proofs.items.make_items.Goals as goal

pub loop-item-preserved : goal.loop-item-preserved
loop-item-preserved c =
    let items = c.args.items.now in
    let same : c.as_slice-item-items.result.now ≡ items = c.as_slice-item-items.ensures in
    let i : ℕ = c.loop-item.item-index in
    let within : i < length items = omega (arith, ap length same) in
    let none : BatchItem = B.Add (record { ref_ptr = (0, 0); now = [] }) in
    asked_more c.as_slice-item-items.result.now items i none c.loop-item.made _ _ same within c.loop-item.invariant
    c.in_ok-asked.ensures.item c.in-Ok.ensures.ok

pub returns-in_err-asked-clause-unreadable : goal.returns-in_err-asked-clause-unreadable
returns-in_err-asked-clause-unreadable c =
    let told = err_from_is_err_and c.from_residual.result c.from_residual.ensures.1 in
    let items = c.args.items.now in
    let same : c.as_slice-item-items.result.now ≡ items = c.as_slice-item-items.ensures in
    let i : ℕ = c.loop-item.item-index in
    let within : i < length items = omega (arith, ap length same) in
    let none : BatchItem = B.Add (record { ref_ptr = (0, 0); now = [] }) in
    rw (told.1, told.2)
    (asked_unreadable c.as_slice-item-items.result.now items i none _ same within c.in_err-asked.ensures.unreadable)
