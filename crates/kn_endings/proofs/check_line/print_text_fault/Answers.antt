use Rattle.std.proofs.Common.{◌≡◌, ◌∙◌, [], ◌++◌, codes}
use Rattle.std.specs.Prelude.{decimal}
use Rattle.kn_endings.specs.CheckEndings.{text_line}
use Rattle.kn_endings.proofs.LineParts.{prints_line}
use Rattle.kn_endings.proofs.Lines.{text_parts}
use Rattle.kn_endings.proofs.check_line.print_text_fault.Goals as goal

pub returns : goal.returns
returns g c =
    let a = c.as_bytes.result.now in
    let b = c.as_bytes-2.result.now in
    let first : a ≡ decimal c.args.fault = c.as_bytes.ensures.value ∙ c.format.ensures.text in
    let second : b ≡ decimal c.args.line = c.as_bytes-2.ensures.value ∙ c.format-2.ensures.text in
    let same : codes "error proof text " ++ (a ++ (codes " " ++ (b ++ (codes "\n" ++ []))))
    ≡ text_line c.args.fault c.args.line = text_parts a b c.args.fault c.args.line first second in
    prints_line _ _ _ _ _ same c.print_all.ensures
