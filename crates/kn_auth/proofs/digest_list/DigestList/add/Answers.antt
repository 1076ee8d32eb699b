use Rattle.std.proofs.Common.{arith}
use Rattle.kn_auth.proofs.DigestSets.{digest_added}
use Rattle.kn_auth.proofs.digest_list.DigestList.add.Goals as goal

pub invariant_of-self-in-Ok : goal.invariant_of-self-in-Ok
invariant_of-self-in-Ok c = λ digest.
    let added = digest_added c.args.digest c.self.inside.index c.insert.new.self c.self.inside.digests
    c.in-Ok.ensures.updates c.self.invariant digest in
    grind (arith, added)
