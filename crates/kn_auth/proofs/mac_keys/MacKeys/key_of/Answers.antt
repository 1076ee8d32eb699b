use Rattle.std.proofs.Common.{Some, ap, ◌∙◌}
use Rattle.kn_auth.specs.Verdicts.{key_of}
use Rattle.kn_auth.proofs.KeyMaps.{key_found}
use Rattle.kn_auth.proofs.mac_keys.MacKeys.key_of.Goals as goal

pub returns-in-Some : goal.returns-in-Some
returns-in-Some c =
    ap Some c.as_slice.ensures
    ∙ c.in-Some.ensures.value
    ∙ key_found c.args.principal.now c.self.inside.keys.entries
    ∙ ap (key_of c.args.principal.now) c.self.view_is

pub returns-in-None : goal.returns-in-None
returns-in-None c =
    c.in-None.ensures.value
    ∙ key_found c.args.principal.now c.self.inside.keys.entries
    ∙ ap (key_of c.args.principal.now) c.self.view_is
