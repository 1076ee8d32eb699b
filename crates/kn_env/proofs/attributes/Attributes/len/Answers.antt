use Rattle.std.proofs.Common.{subst}
use Rattle.std.specs.List.{IsDistinct}
use Rattle.std.specs.Str.{bytes_eq}
use Rattle.kn_env.specs.Attributes.{attribute_names}
use Rattle.kn_env.proofs.AttributeMaps.{names_different}
use Rattle.kn_env.proofs.attributes.Attributes.len.Goals as goal

pub returns-clause-different : goal.returns-clause-different
returns-clause-different c =
    subst (λ attributes. IsDistinct bytes_eq (attribute_names attributes)) c.self.view_is
    (names_different c.self.inside.entries.entries c.len.ensures.unique)
