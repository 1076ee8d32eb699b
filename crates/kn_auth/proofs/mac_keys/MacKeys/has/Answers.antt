use Rattle.std.proofs.Common.{ap, ◌∙◌}
use Rattle.std.specs.Prelude.{is_some}
use Rattle.kn_auth.specs.Verdicts.{has_key}
use Rattle.kn_auth.proofs.KeyMaps.{key_found, is_some-copied}
use Rattle.kn_auth.proofs.mac_keys.MacKeys.has.Goals as goal

pub returns : goal.returns
returns c =
    c.is_some.ensures
    ∙ is_some-copied c.get.result
    ∙ ap is_some c.get.ensures.value
    ∙ ap is_some (key_found c.args.principal.now c.self.inside.keys.entries)
    ∙ ap (has_key c.args.principal.now) c.self.view_is
