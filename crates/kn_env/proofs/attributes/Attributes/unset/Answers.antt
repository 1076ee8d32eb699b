use Rattle.std.proofs.Common.{◌≡◌, map, None, sym, ap, ◌∙◌}
use Rattle.std.specs.Prelude.{is_some}
use Rattle.kn_env.specs.Entries.{attribute_of}
use Rattle.kn_env.specs.Attributes.{has_attribute, without_attribute}
use Rattle.std.specs.Map.{lookup, remove_entry}
use Rattle.kn_env.proofs.AttributeMaps.{is_key, has_found, rest_without}
use Rattle.kn_env.proofs.attributes.Attributes.unset.Goals as goal
use Rattle.kn_env.proofs.attributes.Attributes.unset.Goals.{in-Some, in-None}

pub returns-clause-ok : goal.returns-clause-ok
returns-clause-ok c =
    let has : is_some c.shift_remove.result ≡ has_attribute c.args.name.now c.args.self.now =
    ap is_some c.shift_remove.ensures.value ∙ has_found c.args.name.now c.self.inside.entries.entries
    ∙ ap (has_attribute c.args.name.now) c.self.view_is in
    elim c.match-shift_remove.branch [
      | in-Some w ↦ rw w.result-is (sym has ∙ ap is_some w.in-Some.is)
      | in-None w ↦ rw w.result-is tt
    ]

pub returns-clause-absent : goal.returns-clause-absent
returns-clause-absent c =
    let has : is_some c.shift_remove.result ≡ has_attribute c.args.name.now c.args.self.now =
    ap is_some c.shift_remove.ensures.value ∙ has_found c.args.name.now c.self.inside.entries.entries
    ∙ ap (has_attribute c.args.name.now) c.self.view_is in
    elim c.match-shift_remove.branch [
      | in-Some w ↦ rw w.result-is tt
      | in-None w ↦ rw w.result-is (sym has ∙ ap is_some w.in-None.is)
    ]

pub returns-clause-rest : goal.returns-clause-rest
returns-clause-rest c =
    let none_left : lookup (is_key c.args.name.now)
    (remove_entry (is_key c.args.name.now) c.self.inside.entries.entries) ≡ None =
    ap (lookup (is_key c.args.name.now)) (sym c.shift_remove.ensures.entries) ∙ c.shift_remove.ensures.updates.1 in
    ap (map attribute_of) c.shift_remove.ensures.entries
    ∙ rest_without c.args.name.now c.self.inside.entries.entries none_left
    ∙ ap (without_attribute c.args.name.now) c.self.view_is
