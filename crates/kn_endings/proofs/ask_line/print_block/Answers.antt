use Rattle.std.proofs.Common.{◌≡◌, ◌∙◌, [], ◌++◌, codes}
use Rattle.std.specs.Prelude.{decimal}
use Rattle.kn_endings.specs.AskEndings.{block_line}
use Rattle.kn_endings.proofs.LineParts.{block_parts, prints_line}
use Rattle.kn_endings.proofs.ask_line.print_block.Goals as goal

pub returns : goal.returns
returns g c =
    let a = c.as_bytes.result.now in
    let first : a ≡ decimal c.args.n = c.as_bytes.ensures.value ∙ c.format.ensures.text in
    let same : codes "error link block " ++ (a ++ (codes "\n" ++ [])) ≡ block_line c.args.n =
    block_parts a c.args.n first in
    prints_line _ _ _ _ _ same c.print_all.ensures
