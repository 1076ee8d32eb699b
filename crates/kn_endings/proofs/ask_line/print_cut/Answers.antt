use Rattle.std.proofs.Common.{◌≡◌, ◌∙◌, [], ◌++◌, codes}
use Rattle.std.specs.Prelude.{decimal}
use Rattle.kn_endings.specs.AskEndings.{cut_line}
use Rattle.kn_endings.proofs.LineParts.{cut_parts, prints_line}
use Rattle.kn_endings.proofs.ask_line.print_cut.Goals as goal

pub returns : goal.returns
returns g c =
    let a = c.as_bytes.result.now in
    let first : a ≡ decimal c.args.held = c.as_bytes.ensures.value ∙ c.format.ensures.text in
    let same : codes "error link cut " ++ (a ++ (codes "\n" ++ [])) ≡ cut_line c.args.held =
    cut_parts a c.args.held first in
    prints_line _ _ _ _ _ same c.print_all.ensures
