use Rattle.std.proofs.Common.{◌≡◌, ◌∙◌, sym, Some}
use Rattle.std.specs.Prelude.{decimal}
use Rattle.kn_endings.specs.GenLine.{gen_line}
use Rattle.kn_endings.proofs.LineParts.{prints_line}
use Rattle.kn_endings.proofs.GenLines.{gen_parts, gen_told}
use Rattle.kn_endings.proofs.gen_line.print_gen.Goals as goal

pub returns : goal.returns
returns g c = λ name named.
    let m = c.args.measured in
    let l = c.as_bytes.result.now in
    let w = c.value_name.result.now in
    let v = c.as_bytes-2.result.now in
    let r = c.as_bytes-3.result.now in
    let p = c.as_bytes-4.result.now in
    let n = c.as_bytes-5.result.now in
    let u = c.as_bytes-6.result.now in
    let k = c.as_bytes-7.result.now in
    let level : l ≡ decimal m.level = c.as_bytes.ensures.value ∙ c.format.ensures.text in
    let both : Some w ≡ Some name = sym c.value_name.ensures ∙ named in
    let value : w ≡ name = cc in
    let version : v ≡ decimal c.args.count = c.as_bytes-2.ensures.value ∙ c.format-2.ensures.text in
    let rows : r ≡ decimal m.rows = c.as_bytes-3.ensures.value ∙ c.format-3.ensures.text in
    let principals : p ≡ decimal m.principals = c.as_bytes-4.ensures.value ∙ c.format-4.ensures.text in
    let nodes : n ≡ decimal m.nodes = c.as_bytes-5.ensures.value ∙ c.format-5.ensures.text in
    let uses : u ≡ decimal m.uses = c.as_bytes-6.ensures.value ∙ c.format-6.ensures.text in
    let levels : k ≡ decimal m.levels = c.as_bytes-7.ensures.value ∙ c.format-7.ensures.text in
    let same : gen_parts l w v r p n u k ≡ gen_line c.args.count name m =
    gen_told l w v r p n u k c.args.count name m level value version rows principals nodes uses levels in
    prints_line _ _ _ _ _ same c.print_all.ensures
