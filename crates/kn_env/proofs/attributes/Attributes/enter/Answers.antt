use Rattle.std.proofs.Common.{◌≡◌, ◌<◌, false, length, map, ap, ◌∙◌}
use Rattle.kn_env.specs.Attributes.{has_attribute, with_attribute}
use Rattle.kn_env.specs.Entries.{attribute_of}
use Rattle.kn_env.proofs.AttributeMaps.{with_inserted, few_inserted}
use Rattle.kn_env.proofs.attributes.Attributes.enter.Goals as goal

pub returns-in-Ok-insert-clause-ok : goal.returns-in-Ok-insert-clause-ok
returns-in-Ok-insert-clause-ok c =
    ap (map attribute_of) c.in-Ok-insert.ensures.entries
    ∙ with_inserted c.in-Ok.key c.in-Ok-from_slice.kept c.self.inside.entries.entries
    ∙ ap (λ name. with_attribute name c.in-Ok-from_slice.kept.items (map attribute_of c.self.inside.entries.entries))
    c.in-Ok.ensures.items
    ∙ ap (λ value. with_attribute c.args.name.now value (map attribute_of c.self.inside.entries.entries))
    c.in-Ok-from_slice.ensures.items
    ∙ ap (with_attribute c.args.name.now c.args.value.now) c.self.view_is

pub invariant_of-self : goal.invariant_of-self
invariant_of-self c =
    few_inserted c.self.inside.entries.entries c.insert.new.self.entries c.in-Ok.key c.in-Ok-from_slice.kept
    c.in-Ok-insert.ensures.entries c.self.invariant
    (rw (c.in-Ok.ensures.items, c.self.view_is) c.requires.room)
