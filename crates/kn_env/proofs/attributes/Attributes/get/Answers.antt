use Rattle.std.proofs.Common.{Some, ap, ◌∙◌}
use Rattle.std.specs.Option.{option_map}
use Rattle.kn_env.specs.Attributes.{attribute_value}
use Rattle.kn_env.proofs.AttributeMaps.{value_found}
use Rattle.kn_env.proofs.attributes.Attributes.get.Goals as goal

pub returns-in-Some : goal.returns-in-Some
returns-in-Some c =
    ap Some c.as_slice.ensures.value
    ∙ ap (option_map (λ v. v.items)) c.in-Some.ensures.value
    ∙ value_found c.args.name.now c.self.inside.entries.entries
    ∙ ap (attribute_value c.args.name.now) c.self.view_is

pub returns-in-None : goal.returns-in-None
returns-in-None c =
    ap (option_map (λ v. v.items)) c.in-None.ensures.value
    ∙ value_found c.args.name.now c.self.inside.entries.entries
    ∙ ap (attribute_value c.args.name.now) c.self.view_is
