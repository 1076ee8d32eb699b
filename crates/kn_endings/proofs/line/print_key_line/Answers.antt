use Rattle.std.proofs.Common.{◌≡◌, ◌∙◌, [], ◌++◌, codes}
use Rattle.std.specs.Prelude.{decimal}
use Rattle.kn_inputs.specs.InputFaults.{keys_line}
use Rattle.kn_endings.proofs.LineParts.{keys_parts, prints_line}
use Rattle.kn_endings.proofs.line.print_key_line.Goals as goal

pub returns : goal.returns
returns g c =
    let a = c.as_bytes.result.now in
    let first : a ≡ decimal c.args.line = c.as_bytes.ensures.value ∙ c.format.ensures.text in
    let same : codes "error keys " ++ (a ++ (codes "\n" ++ [])) ≡ keys_line c.args.line =
    keys_parts a c.args.line first in
    prints_line _ _ _ _ _ same c.print_all.ensures
