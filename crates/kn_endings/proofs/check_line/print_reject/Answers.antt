use Rattle.std.proofs.Common.{◌≡◌, ◌∙◌, [], ◌++◌, ap, codes}
use Rattle.std.specs.Prelude.{decimal}
use Rattle.kn_check.specs.Rejects.{reason_number, reason_row, reason_found}
use Rattle.kn_endings.specs.CheckEndings.{reject_line}
use Rattle.kn_endings.proofs.LineParts.{prints_line}
use Rattle.kn_endings.proofs.Lines.{reject_parts}
use Rattle.kn_endings.proofs.check_line.print_reject.Goals as goal

pub returns : goal.returns
returns g c =
    let a = c.as_bytes.result.now in
    let b = c.as_bytes-2.result.now in
    let p = c.as_bytes-3.result.now in
    let first : a ≡ decimal (reason_number c.args.reject.now) = c.as_bytes.ensures.value ∙ c.format.ensures.text
    ∙ ap decimal c.number.ensures in
    let second : b ≡ decimal (reason_row c.args.reject.now) = c.as_bytes-2.ensures.value ∙ c.format-2.ensures.text
    ∙ ap decimal c.row.ensures in
    let third : p ≡ decimal (reason_found c.args.reject.now) = c.as_bytes-3.ensures.value ∙ c.format-3.ensures.text
    ∙ ap decimal c.found.ensures in
    let same : codes "error proof reject " ++ (a ++ (codes " " ++ (b ++ (codes " " ++ (p ++ (codes "\n" ++ []))))))
    ≡ reject_line c.args.reject.now = reject_parts a b p c.args.reject.now first second third in
    prints_line _ _ _ _ _ same c.print_all.ensures
