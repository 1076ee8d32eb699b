use Rattle.std.proofs.Common.{◌≡◌, ◌∙◌, [], ◌++◌, codes}
use Rattle.std.specs.Prelude.{decimal}
use Rattle.kn_endings.specs.CheckEndings.{proved_line}
use Rattle.kn_endings.proofs.LineParts.{prints_line}
use Rattle.kn_endings.proofs.Lines.{proved_parts}
use Rattle.kn_endings.proofs.check_line.print_proved.Goals as goal

pub returns : goal.returns
returns g c =
    let a = c.as_bytes.result.now in
    let first : a ≡ decimal c.args.value = c.as_bytes.ensures.value ∙ c.format.ensures.text in
    let same : codes "PROVED " ++ (a ++ (codes " " ++ (c.args.name.now ++ (codes "\n" ++ []))))
    ≡ proved_line c.args.value c.args.name.now = proved_parts a c.args.name.now c.args.value first in
    prints_line _ _ _ _ _ same c.print_all.ensures
