use Rattle.std.proofs.Common.{ap, ◌∙◌}
use Rattle.std.specs.Prelude.{is_some}
use Rattle.kn_env.specs.Attributes.{has_attribute}
use Rattle.kn_env.proofs.AttributeMaps.{has_found, is_some-copied}
use Rattle.kn_env.proofs.attributes.Attributes.has.Goals as goal

pub returns : goal.returns
returns c =
    c.is_some.ensures
    ∙ is_some-copied c.get.result
    ∙ ap is_some c.get.ensures.value
    ∙ has_found c.args.name.now c.self.inside.entries.entries
    ∙ ap (has_attribute c.args.name.now) c.self.view_is
