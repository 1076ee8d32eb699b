use Rattle.std.proofs.Common.{◌≡◌, ◌∷◌, ◌++◌, [], List, false, map, ap, ◌∙◌}
use Rattle.kn_auth.specs.Entries.{mac_key_of}
use Rattle.kn_auth.specs.Verdicts.{has_key}
use Rattle.kn_auth.specs.declared.entry.MacKey.{MacKey}
use Rattle.kn_auth.proofs.KeyMaps.{inserted_last}
use Rattle.kn_auth.proofs.mac_keys.MacKeys.add.Goals as goal

pub returns-in-Ok-insert-clause-ok : goal.returns-in-Ok-insert-clause-ok
returns-in-Ok-insert-clause-ok c =
    let name = c.in-Ok.ensures.items ∙ c.as_slice.ensures in
    let none : has_key c.in-Ok.principal.items (map mac_key_of c.self.inside.keys.entries) ≡ false =
    ap (λ (n : List _). has_key n (map mac_key_of c.self.inside.keys.entries)) name
    ∙ ap (has_key c.args.mac.principal) c.self.view_is ∙ c.requires in
    ap (map mac_key_of) c.in-Ok-insert.ensures.entries
    ∙ inserted_last c.in-Ok.principal c.args.mac.key c.self.inside.keys.entries none
    ∙ ap (λ (n : List _). map mac_key_of c.self.inside.keys.entries ++ record { principal = n; key = c.args.mac.key }
    ∷ []) name
    ∙ ap (λ (keys : List MacKey). keys ++ c.args.mac ∷ []) c.self.view_is
