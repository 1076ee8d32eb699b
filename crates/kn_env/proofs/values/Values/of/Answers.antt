use Rattle.std.proofs.Common.{◌≡◌, ◌≤◌, length, None, sym, ap, ◌∙◌, subst, arith}
use Rattle.std.specs.List.{join_with_byte}
use Rattle.std.proofs.lemmas.List.Splits.{join_with_byte-slice_split}
use Rattle.kn_base.specs.declared.limits.TheConstants.{FEWEST_COMPLIANCE_VALUES, MOST_COMPLIANCE_VALUES}
use Rattle.kn_env.specs.Values.{bad_place, name_fault}
use Rattle.kn_env.proofs.ValueNames.{value_names}
use Rattle.kn_env.proofs.values.Values.of.Goals as goal

pub invariant_of-result : goal.invariant_of-result
invariant_of-result c =
    let joined : join_with_byte 44 c.in-Ok.names ≡ c.args.text.now = ap (join_with_byte 44) c.in-Ok.ensures
    ∙ join_with_byte-slice_split 44 c.args.text.now in
    let same : length c.in-Ok.names ≡ c.count_names-n.result = ap length c.in-Ok.ensures
    ∙ sym c.count_names-n.ensures in
    let least : FEWEST_COMPLIANCE_VALUES ≤ length c.in-Ok.names = omega arith in
    let most : length c.in-Ok.names ≤ MOST_COMPLIANCE_VALUES = omega arith in
    let none : name_fault (bad_place c.in-Ok.names) c.in-Ok.names ≡ None =
    subst (λ ns. name_fault (bad_place ns) ns ≡ None) c.as_slice.ensures (sym c.name_fault.ensures
    ∙ c.in_default-name_fault.is) in
    (c.in-Ok-from_slice.ensures ∙ sym joined, value_names c.in-Ok.names least most none)
