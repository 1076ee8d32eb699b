-- Keys that are the entries of a map.
use Rattle.std.proofs.Common.{◌≡◌, ℕ, Bool, true, false, cond, List, [], ◌∷◌, ◌++◌, find, map, Option, Some, None, Vec}
use Rattle.std.proofs.Common.{Bor, refl, ap}
use Rattle.std.specs.Prelude.{is_some}
use Rattle.std.specs.Option.{option_map, option_copied}
use Rattle.std.specs.Str.{bytes_eq}
use Rattle.std.specs.Map.{lookup}
use Rattle.std.specs.declared.alloc.Global.{Global}
use Rattle.indexmap.specs.IndexMap.{insert_entry}
use Rattle.kn_auth.specs.declared.entry.MacKey.{MacKey}
use Rattle.kn_auth.specs.Entries.{mac_key_of}
use Rattle.kn_auth.specs.Verdicts.{has_key, key_of}

abbrev pub Bytes : Type 0
Bytes = Vec ℕ Global

pub key_found : (name : List ℕ) (entries : List (Bytes × List ℕ))
    → lookup (λ (key : Bytes). bytes_eq name key.items) entries ≡ key_of name (map mac_key_of entries)
key_found name [] = refl
key_found name (e ∷ entries) =
    let rest = key_found name entries in
    elim (bytes_eq name e.0.items) as
    (λ b. cond b (Some e.1) (lookup (λ (key : Bytes). bytes_eq name key.items) entries)
    ≡ option_map (λ (mac : MacKey). mac.key)
    (cond b (Some (mac_key_of e)) (find (λ (mac : MacKey). bytes_eq name mac.principal) (map mac_key_of entries))))
    [ true ↦ refl | false ↦ rest ]

pub is_some-copied : {T : Type 0} (o : Option (Bor T)) → is_some o ≡ is_some (option_copied o)
is_some-copied None = refl
is_some-copied (Some x) = refl

-- the key of a new principal comes last
pub inserted_last : (principal : Bytes) (key : List ℕ) (entries : List (Bytes × List ℕ))
    → has_key principal.items (map mac_key_of entries) ≡ false
    → map mac_key_of (insert_entry (λ (x y : Bytes). bytes_eq x.items y.items) entries principal key)
    ≡ map mac_key_of entries ++ mac_key_of (principal, key) ∷ []
inserted_last principal key [] none = refl
inserted_last principal key (e ∷ entries) none =
    by (bytes_eq principal.items e.0.items) (inserted_last principal key entries) none
  where
    by : (b : Bool)
        → (has_key principal.items (map mac_key_of entries) ≡ false
        → map mac_key_of (insert_entry (λ (x y : Bytes). bytes_eq x.items y.items) entries principal key)
        ≡ map mac_key_of entries ++ mac_key_of (principal, key) ∷ [])
        → is_some (option_map (λ (mac : MacKey). mac.key)
        (cond b (Some (mac_key_of e))
        (find (λ (mac : MacKey). bytes_eq principal.items mac.principal) (map mac_key_of entries)))) ≡ false
        → map mac_key_of
        (cond b ((e.0, key) ∷ entries)
        (e ∷ insert_entry (λ (x y : Bytes). bytes_eq x.items y.items) entries principal key)) ≡ mac_key_of e
        ∷ (map mac_key_of entries ++ mac_key_of (principal, key) ∷ [])
    by true rest none = cc
    by false rest none = ap (λ (others : List MacKey). mac_key_of e ∷ others) (rest none)
