use Rattle.std.proofs.Common.{◌≡◌, ◌∙◌, ap, codes}
use Rattle.std.specs.Prelude.{decimal}
use Rattle.std.specs.Option.{unwrap_or}
use Rattle.kn_fields.specs.Numbers.{fault_number, fault_place}
use Rattle.kn_inputs.specs.InputFaults.{policy_fault_line}
use Rattle.kn_endings.proofs.LineParts.{parts_of, fault_parts, prints_line}
use Rattle.kn_endings.proofs.line.print_fault.Goals as goal

pub returns : goal.returns
returns g c =
    let a = c.as_bytes.result.now in
    let b = c.as_bytes-2.result.now in
    let p = c.as_bytes-3.result.now in
    let first : a ≡ decimal c.args.assertion = c.as_bytes.ensures.value ∙ c.format.ensures.text in
    let second : b ≡ decimal (unwrap_or (fault_number c.args.fault) 0) = c.as_bytes-2.ensures.value
    ∙ c.format-2.ensures.text ∙ ap decimal (c.unwrap_or.ensures ∙ ap (λ o. unwrap_or o 0) c.number.ensures) in
    let third : p ≡ decimal (fault_place c.args.fault) = c.as_bytes-3.ensures.value ∙ c.format-3.ensures.text
    ∙ ap decimal c.place.ensures in
    let same : parts_of c.args.name.now a (codes " ") b p
    ≡ policy_fault_line c.args.name.now c.args.assertion c.args.fault =
    fault_parts c.args.name.now a b p c.args.assertion c.args.fault first second third in
    prints_line _ _ _ _ _ same c.print_all.ensures
