-- Attributes that are the entries of a map.
use Rattle.std.proofs.Common.{◌≡◌, ℕ, suc, ◌+◌, ◌<◌, ◌≤◌, Bool, true, false, ◌||◌, ◌&&◌, not, cond, nat_le, nat_lt}
use Rattle.std.proofs.Common.{List, [], ◌∷◌, ◌++◌, length, find, map, Option, Some, None, Vec, Bor, refl, sym, ap, ◌∙◌}
use Rattle.std.proofs.Common.{subst, arith, length-append, if◌then◌else◌}
use Rattle.std.specs.Option.{option_map, option_copied}
use Rattle.std.specs.Prelude.{is_some}
use Rattle.std.specs.Str.{bytes_eq}
use Rattle.std.specs.Map.{lookup, remove_entry, keys_of}
use Rattle.std.specs.List.{AllByRecursion, IsDistinct}
use Rattle.std.specs.declared.alloc.Global.{Global}
use Rattle.indexmap.specs.IndexMap.{insert_entry}
use Rattle.std.proofs.lemmas.Bool.{leb-false}
use Rattle.std.proofs.lemmas.List.{length-map}
use Rattle.std.proofs.lemmas.Slice.Eq.{bytes_eq-Decides}
use Rattle.kn_env.specs.declared.attributes.EnvFault.TheVariants.{BadName, BadValue, Full}
use Rattle.kn_env.specs.Attributes.{Attribute, is_settable, has_attribute, attribute_value, attribute_names}
use Rattle.kn_env.specs.Attributes.{with_attribute, without_attribute, attribute_fault}
use Rattle.kn_env.specs.Entries.{attribute_of}

abbrev pub Bytes : Type 0
Bytes = Vec ℕ Global

abbrev pub is_key : List ℕ → Bytes → Bool
is_key name key = bytes_eq name key.items

pub value_found : (name : List ℕ) (entries : List (Bytes × Bytes))
    → option_map (λ v. v.items) (lookup (is_key name) entries) ≡ attribute_value name (map attribute_of entries)
value_found name [] = refl
value_found name (e ∷ entries) =
    let rest = value_found name entries in
    elim (bytes_eq name e.0.items) as (λ b. option_map (λ v. v.items) (cond b (Some e.1) (lookup (is_key name) entries))
    ≡ option_map (λ a. a.value)
    (cond b (Some (attribute_of e)) (find (λ a. bytes_eq name a.name) (map attribute_of entries))))
    [ true ↦ refl | false ↦ rest ]

pub has_found : (name : List ℕ) (entries : List (Bytes × Bytes))
    → is_some (lookup (is_key name) entries) ≡ has_attribute name (map attribute_of entries)
has_found name [] = refl
has_found name (e ∷ entries) =
    let rest = has_found name entries in
    elim (bytes_eq name e.0.items) as (λ b. is_some (cond b (Some e.1) (lookup (is_key name) entries))
    ≡ (b || has_attribute name (map attribute_of entries)))
    [ true ↦ refl | false ↦ rest ]

-- entries of which none has this key are those of other names
all_others : (name : List ℕ) (entries : List (Bytes × Bytes)) → lookup (is_key name) entries ≡ None
    → map attribute_of entries ≡ without_attribute name (map attribute_of entries)
all_others name [] none = refl
all_others name (e ∷ entries) none = by (bytes_eq name e.0.items) (all_others name entries) none
  where
    by : (b : Bool) → (lookup (is_key name) entries ≡ None
        → map attribute_of entries ≡ without_attribute name (map attribute_of entries))
        → cond b (Some e.1) (lookup (is_key name) entries) ≡ None
        → attribute_of e ∷ map attribute_of entries
        ≡ cond (not b) (attribute_of e ∷ without_attribute name (map attribute_of entries))
        (without_attribute name (map attribute_of entries))
    by true rest none = cc
    by false rest none = ap (λ others. attribute_of e ∷ others) (rest none)

-- where no entry of this key is left, those left are the ones of other names
pub rest_without : (name : List ℕ) (entries : List (Bytes × Bytes))
    → lookup (is_key name) (remove_entry (is_key name) entries) ≡ None
    → map attribute_of (remove_entry (is_key name) entries) ≡ without_attribute name (map attribute_of entries)
rest_without name [] none = refl
rest_without name (e ∷ entries) none = by (bytes_eq name e.0.items) refl (rest_without name entries) none
  where
    by : (b : Bool) → bytes_eq name e.0.items ≡ b
        → (lookup (is_key name) (remove_entry (is_key name) entries) ≡ None
        → map attribute_of (remove_entry (is_key name) entries) ≡ without_attribute name (map attribute_of entries))
        → lookup (is_key name) (cond b entries (e ∷ remove_entry (is_key name) entries)) ≡ None
        → map attribute_of (cond b entries (e ∷ remove_entry (is_key name) entries))
        ≡ cond (not b) (attribute_of e ∷ without_attribute name (map attribute_of entries))
        (without_attribute name (map attribute_of entries))
    by true is rest none = all_others name entries none
    by false is rest none =
        let none_behind : lookup (is_key name) (remove_entry (is_key name) entries) ≡ None =
        sym (ap (λ b. cond b (Some e.1) (lookup (is_key name) (remove_entry (is_key name) entries))) is) ∙ none in
        ap (λ others. attribute_of e ∷ others) (rest none_behind)

abbrev pub same_key : Bytes → Bytes → Bool
same_key key other = bytes_eq key.items other.items

pub with_inserted : (key value : Bytes) (entries : List (Bytes × Bytes))
    → map attribute_of (insert_entry same_key entries key value)
    ≡ with_attribute key.items value.items (map attribute_of entries)
with_inserted key value [] = refl
with_inserted key value (e ∷ entries) =
    let rest = with_inserted key value entries in
    elim (bytes_eq key.items e.0.items) as
    (λ b. map attribute_of (cond b ((e.0, value) ∷ entries) (e ∷ insert_entry same_key entries key value))
    ≡ cond b (record (attribute_of e) { value = value.items } ∷ map attribute_of entries)
    (attribute_of e ∷ with_attribute key.items value.items (map attribute_of entries)))
    [ true ↦ refl | false ↦ ap (λ others. attribute_of e ∷ others) rest ]

length-with_attribute : (name value : List ℕ) (attributes : List Attribute)
    → length (with_attribute name value attributes)
    ≡ (if has_attribute name attributes then length attributes else length attributes + 1)
length-with_attribute name value [] = refl
length-with_attribute name value (a ∷ attributes) =
    let rest = length-with_attribute name value attributes in
    elim (bytes_eq name a.name) as
    (λ b. length (cond b (record a { value = value } ∷ attributes) (a ∷ with_attribute name value attributes))
    ≡ (if b || has_attribute name attributes then length (a ∷ attributes) else length (a ∷ attributes) + 1)) [
      | true ↦ refl
      | false ↦ one_more (has_attribute name attributes) (length (with_attribute name value attributes))
          (length attributes) rest
    ]
  where
    one_more : (b : Bool) (m n : ℕ) → m ≡ (if b then n else n + 1) → suc m ≡ (if b then suc n else suc n + 1)
    one_more true m n e = ap suc e
    one_more false m n e = omega arith

not_full : (a b c : Bool) (n : ℕ)
    → (if a then Some BadName else if b then Some BadValue else if c then Some (Full n) else None) ≡ None → c ≡ false
not_full true b c n e = cc
not_full false true c n e = cc
not_full false false true n e = cc
not_full false false false n e = refl

-- there is room for a new attribute with which there is no fault
pub room_for_new : (name value : List ℕ) (attributes : List Attribute) → attribute_fault name value attributes ≡ None
    → has_attribute name attributes ≡ false → length attributes < 256
room_for_new name value attributes none new =
    let full : (not (has_attribute name attributes) && nat_le 256 (length attributes)) ≡ false =
    not_full (not (is_settable name)) (nat_lt 4096 (length value)) (not (has_attribute name attributes)
    && nat_le 256 (length attributes)) (length attributes) none in
    leb-false 256 (length attributes) (sym (ap (λ b. not b && nat_le 256 (length attributes)) new) ∙ full)

pub is_some-copied : {T : Type 0} (o : Option (Bor T)) → is_some o ≡ is_some (option_copied o)
is_some-copied None = refl
is_some-copied (Some x) = refl

room_by : (b : Bool) (n m : ℕ) → (b ≡ false → n < 256) → n ≤ 256 → m ≡ (if b then n else n + 1) → m ≤ 256
room_by true n m room few is = omega arith
room_by false n m room few is = let below : n < 256 = room refl in omega arith

-- the entries of the map stay few
pub few_inserted : (old new : List (Bytes × Bytes)) (key value : Bytes) → new ≡ insert_entry same_key old key value
    → length old ≤ 256 → (has_attribute key.items (map attribute_of old) ≡ false → length (map attribute_of old) < 256)
    → length new ≤ 256
few_inserted old new key value is few room =
    let before : length (map attribute_of old) ≡ length old = simp length-map in
    let after : length (map attribute_of new) ≡ length new = simp length-map in
    let grown : length (map attribute_of new)
    ≡ (if has_attribute key.items (map attribute_of old) then length (map attribute_of old) else length
    (map attribute_of old) + 1) =
    ap (λ entries. length (map attribute_of entries)) is ∙ ap length (with_inserted key value old)
    ∙ length-with_attribute key.items value.items (map attribute_of old) in
    let most : length (map attribute_of new) ≤ 256 =
    room_by (has_attribute key.items (map attribute_of old)) (length (map attribute_of old))
    (length (map attribute_of new)) room (omega arith) grown in
    omega arith

-- other keys than this one are other names
others_named : (key : Bytes) (entries : List (Bytes × Bytes))
    → AllByRecursion (λ other. same_key key other ≡ false) (keys_of entries)
    → AllByRecursion (λ name. bytes_eq key.items name ≡ false) (attribute_names (map attribute_of entries))
others_named key [] all = tt
others_named key (e ∷ entries) all = (all.0, others_named key entries all.1)

-- where no two keys are equal, no two names are
pub names_different : (entries : List (Bytes × Bytes)) → IsDistinct same_key (keys_of entries)
    → IsDistinct bytes_eq (attribute_names (map attribute_of entries))
unfolding IsDistinct
names_different [] distinct = tt
names_different (e ∷ entries) distinct = (others_named e.0 entries distinct.0, names_different entries distinct.1)

-- an attribute of a new name comes last
pub with_new_attribute : (name value : List ℕ) (attributes : List Attribute) → has_attribute name attributes ≡ false
    → with_attribute name value attributes ≡ attributes ++ record { name = name; value = value } ∷ []
with_new_attribute name value [] new = refl
with_new_attribute name value (a ∷ attributes) new =
    by (bytes_eq name a.name) new (with_new_attribute name value attributes)
  where
    by : (b : Bool) → (b || has_attribute name attributes) ≡ false
        → (has_attribute name attributes ≡ false
        → with_attribute name value attributes ≡ attributes ++ record { name = name; value = value } ∷ [])
        → cond b (record a { value = value } ∷ attributes) (a ∷ with_attribute name value attributes) ≡ a
        ∷ (attributes ++ record { name = name; value = value } ∷ [])
    by true new rest = cc
    by false new rest = ap (λ others. a ∷ others) (rest new)

differs_back : (a b : List ℕ) → bytes_eq a b ≡ false → bytes_eq b a ≡ false
differs_back a b differs = by (bytes_eq b a) refl
  where
    by : (t : Bool) → bytes_eq b a ≡ t → bytes_eq b a ≡ false
    by true same = let again : bytes_eq a b ≡ true = (bytes_eq-Decides a b).1 (sym ((bytes_eq-Decides b a).0 same)) in
        absurd (cc)
    by false other = other

name_behind : (name : List ℕ) (before : List Attribute) (a : Attribute) (behind : List Attribute)
    → AllByRecursion (λ other. bytes_eq name other ≡ false) (attribute_names (before ++ a ∷ behind))
    → bytes_eq name a.name ≡ false
name_behind name [] a behind all = all.0
name_behind name (b ∷ before) a behind all = name_behind name before a behind all.1

-- where no two names are equal, an attribute's name is a new one behind those before it
pub new_behind : (before : List Attribute) (a : Attribute) (behind : List Attribute)
    → IsDistinct bytes_eq (attribute_names (before ++ a ∷ behind)) → has_attribute a.name before ≡ false
unfolding IsDistinct
new_behind [] a behind distinct = refl
new_behind (b ∷ before) a behind distinct =
    let other : bytes_eq a.name b.name ≡ false =
    differs_back b.name a.name (name_behind b.name before a behind distinct.0) in
    rw other (new_behind before a behind distinct.1)

-- the attribute behind those that were copied so far has a new name, and there is room for it
pub record IsNext (copied : List Attribute) (a : Attribute) : Type 0 where
  pub new : has_attribute a.name copied ≡ false
  pub room : length copied < 256

pub next_copied : (entries : List (Bytes × Bytes)) (copied : List Attribute) (a : Attribute) (left : List Attribute)
    → length entries ≤ 256 → IsDistinct same_key (keys_of entries) → copied ++ a ∷ left ≡ map attribute_of entries
    → IsNext copied a
next_copied entries copied a left few distinct all =
    let size : length copied + suc (length left) ≡ length entries = sym (length-append copied (a ∷ left))
    ∙ ap length all ∙ simp length-map in
    record {
      new = new_behind copied a left
          (subst (λ attributes. IsDistinct bytes_eq (attribute_names attributes)) (sym all)
          (names_different entries distinct));
      room = omega arith;
    }
