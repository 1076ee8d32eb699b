use Rattle.std.proofs.Common.{◌∙◌, ap, length, sym, arith}
use Rattle.std.proofs.lemmas.List.{take_all}
use Rattle.kn_names.proofs.names.Names.shorten.Goals as goal

pub returns : goal.returns
returns c =
    let short = ap length c.self.view_is in
    sym (take_all c.args.len c.loop-self.self (omega (arith, c.loop-self-test.false, c.len.ensures, short)))
    ∙ c.loop-self.invariant
