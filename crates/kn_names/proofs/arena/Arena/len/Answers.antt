use Rattle.std.proofs.Common.{ap, length, arith}
use Rattle.kn_names.proofs.NameBlocks.{length-names}
use Rattle.kn_names.proofs.arena.Arena.len.Goals as goal

pub returns : goal.returns
returns c =
    let all = length-names 0 c.self.inside.ends.items c.self.inside.bytes.items in
    omega (arith, c.len.ensures, all, ap length c.self.view_is)
