use Rattle.std.proofs.Common.{◌≡◌, ◌∙◌}
use Rattle.std.specs.Prelude.{decimal}
use Rattle.kn_endings.proofs.LineParts.{prints_line}
use Rattle.keynoted.proofs.ServeLines.{served_parts}
use Rattle.keynoted.proofs.serve_line.print_served.Goals as goal

pub returns : goal.returns
returns g c =
    let a = c.as_bytes.result.now in
    let b = c.as_bytes-2.result.now in
    let first : a ≡ decimal c.args.finished = c.as_bytes.ensures.value ∙ c.format.ensures.text in
    let second : b ≡ decimal c.args.version = c.as_bytes-2.ensures.value ∙ c.format-2.ensures.text in
    prints_line _ _ _ _ _ (served_parts a b c.args.finished c.args.version first second) c.print_all.ensures
