use Rattle.std.proofs.Common.{◌≡◌, ℕ, ◌+◌, ◌<◌, [], length, map, take, get_or, ap, ◌∙◌, arith}
use Rattle.std.proofs.lemmas.List.{length-map}
use Rattle.kn_wire.specs.declared.items.BatchItem.{BatchItem as ItemInCode}
use Rattle.kn_wire.specs.declared.items.BatchItem.TheVariants as B
use Rattle.kn_wire.specs.ItemsInCode.{item_of as item_in_code}
use Rattle.kn_reply.specs.Logs.{item_of}
use Rattle.kn_serve.proofs.AdmissionLaws.{in_front, refuses_here, admits_here, items_here}
use Rattle.kn_serve.proofs.admission.admit_items.Goals as goal

pub loop-part-preserved : goal.loop-part-preserved
loop-part-preserved g c =
    let items = c.args.items.now in
    let same : c.as_slice-part-items.result.now ≡ items = c.as_slice-part-items.ensures in
    let i : ℕ = c.loop-part.part-index in
    let within : i < length items = omega (arith, ap length same) in
    let none : ItemInCode = B.Add (record { ref_ptr = (0, 0); now = [] }) in
    let part : ItemInCode = get_or c.as_slice-part-items.result.now i none in
    let here : part ≡ get_or items i none = ap (λ xs. get_or xs i none) same in (
      c.in-Ok-push.ensures.ok
          ∙ items_here items i part none within here _ _ c.loop-part.invariant.0 c.in-Ok.ensures.item,
      admits_here items i part none within here _ c.loop-part.invariant.1 c.in-Ok.ensures.admitted,
    )

pub returns-in-Err-clause-refused : goal.returns-in-Err-clause-refused
returns-in-Err-clause-refused g c =
    let items = c.args.items.now in
    let same : c.as_slice-part-items.result.now ≡ items = c.as_slice-part-items.ensures in
    let i : ℕ = c.loop-part.part-index in
    let within : i < length items = omega (arith, ap length same) in
    let size : length c.loop-part.admitted ≡ i =
    ap length c.loop-part.invariant.0 ∙ length-map (map item_in_code (take i items)) item_of
    ∙ in_front items i within in
    let number : c.len-number.result + 1 ≡ i + 1 = ap (λ (n : ℕ). n + 1) (c.len-number.ensures ∙ size) in
    let none : ItemInCode = B.Add (record { ref_ptr = (0, 0); now = [] }) in
    let part : ItemInCode = get_or c.as_slice-part-items.result.now i none in
    refuses_here items i part none within (ap (λ xs. get_or xs i none) same) _ (c.len-number.result + 1) _ _
    c.loop-part.invariant.1 number c.in-Err.ensures.refused c.refusal_of_item.ensures
