use Rattle.std.proofs.Common.{◌≡◌, ◌∙◌, codes}
use Rattle.std.specs.Prelude.{decimal}
use Rattle.kn_inputs.specs.InputFaults.{limit_line}
use Rattle.kn_endings.proofs.LineParts.{parts_of, limit_parts, prints_line}
use Rattle.kn_endings.proofs.line.print_limit.Goals as goal

pub returns : goal.returns
returns g c =
    let a = c.as_bytes.result.now in
    let b = c.text.result.now in
    let p = c.as_bytes-2.result.now in
    let first : a ≡ decimal c.args.assertion = c.as_bytes.ensures.value ∙ c.format.ensures.text in
    let third : p ≡ decimal c.args.count = c.as_bytes-2.ensures.value ∙ c.format-2.ensures.text in
    let same : parts_of c.args.name.now a (codes " limit ") b p
    ≡ limit_line c.args.name.now c.args.assertion c.args.word c.args.count =
    limit_parts c.args.name.now a b p c.args.assertion c.args.word c.args.count first c.text.ensures third in
    prints_line _ _ _ _ _ same c.print_all.ensures
