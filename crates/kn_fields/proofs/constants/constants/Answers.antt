use Rattle.kn_fields.proofs.Lists.{settings_there}
use Rattle.kn_fields.proofs.constants.constants.Goals as goal

pub constants_between-requires-clause-settings : goal.constants_between-requires-clause-settings
constants_between-requires-clause-settings c =
    let has = c.in-Some.ensures in
    rw c.tokens.ensures (rw has.2.own at (settings_there c.args.tokens.now has.0 has.1 c.requires))
