-- A base of the assertions of one query, narrowed to those who may have a level in it.
use Rattle.std.proofs.Common.{◌≡◌, ℕ, zero, suc, ◌+◌, ◌<◌, ◌≤◌, Bool, true, false, cond, ◌||◌, List, [], ◌∷◌, ◌++◌}
use Rattle.std.proofs.Common.{length, map, get_or, inl, inr, refl, sym, ap, ◌∙◌, subst, arith, true≢false}
use Rattle.std.specs.List.{list_any}
use Rattle.std.specs.Str.{bytes_eq}
use Rattle.std.proofs.lemmas.List.{get_or-map}
use Rattle.std.proofs.lemmas.List.Folds.{list_any-append}
use Rattle.kn_principal.specs.Principals.{policy}
use Rattle.kn_env.specs.Environment.{Asked}
use Rattle.kn_meaning.specs.Equations.{Part, statement_of}
use Rattle.kn_system.specs.Equations.{SystemEquations, node_total}
use Rattle.kn_rows.specs.declared.numbered.Numbered.{Numbered}
use Rattle.kn_rows.specs.Numbering.{AreDistinct, HaveNumbers, IsNumber, with_name, with_names}
use Rattle.kn_rows.specs.BaseRows.{AreBaseRows, IsBaseOf}
use Rattle.kn_rows.specs.Extending.{AddsNarrowedRow}
use Rattle.kn_rows.specs.Sizes.{size_of}
use Rattle.kn_rows.proofs.BaseRows.{AreBaseRows-longer}
use Rattle.kn_rows.proofs.Names.{bytes_eq-true, number_or_none, absent-among, or_as_true, true_or}
use Rattle.kn_rows.proofs.SizesAdded.{node_total-longer}
use Rattle.kn_answer.specs.Based.{condition_values}
use Rattle.kn_answer.specs.Narrowed.{principals_with_level, narrow_parts, narrowed_part}
use Rattle.kn_answer.proofs.NarrowedFormulas.{narrowed_by_members}

or_none : (a : Bool) → a ≡ (a || false)
or_none true = refl
or_none false = refl

or_both : (a b c : Bool) → ((a || b) || c) ≡ (a || (b || c))
or_both true b c = refl
or_both false b c = refl

-- who is among names that got numbers is among those before them, or one of them
with_name-members : (names : List (List ℕ)) (other name : List ℕ)
    → list_any (bytes_eq name) (with_name names other) ≡ (list_any (bytes_eq name) names || bytes_eq name other)
with_name-members names other name = by (list_any (bytes_eq other) names) (bytes_eq name other) refl refl
  where
    by : (known same : Bool) → list_any (bytes_eq other) names ≡ known → bytes_eq name other ≡ same
        → list_any (bytes_eq name) (cond known names (names ++ other ∷ [])) ≡ (list_any (bytes_eq name) names || same)
    by true true known same =
        let here : list_any (bytes_eq name) names ≡ true =
        subst (λ n. list_any (bytes_eq n) names ≡ true) (sym (bytes_eq-true name other same)) known in
        here ∙ sym (true_or (list_any (bytes_eq name) names) true here)
    by true false known same = or_none (list_any (bytes_eq name) names)
    by false b known same =
        list_any-append (bytes_eq name) names (other ∷ [])
        ∙ ap (λ a. list_any (bytes_eq name) names || a) (sym (or_none (bytes_eq name other)) ∙ same)

with_names-members : (names others : List (List ℕ)) (name : List ℕ)
    → list_any (bytes_eq name) (with_names names others)
    ≡ (list_any (bytes_eq name) names || list_any (bytes_eq name) others)
with_names-members names [] name = or_none (list_any (bytes_eq name) names)
with_names-members names (other ∷ others) name =
    with_names-members (with_name names other) others name
    ∙ ap (λ a. a || list_any (bytes_eq name) others) (with_name-members names other name)
    ∙ or_both (list_any (bytes_eq name) names) (bytes_eq name other) (list_any (bytes_eq name) others)

-- the names of a base for a query
abbrev pub leveled_names : Asked → List Part → List (List ℕ)
leveled_names asked parts =
    with_names (with_names (policy ∷ []) (map (λ part. part.assertion.authorizer) parts)) asked.requesters

leveled-members : (asked : Asked) (parts : List Part) (name : List ℕ)
    → list_any (bytes_eq name) (leveled_names asked parts)
    ≡ list_any (bytes_eq name) (principals_with_level asked parts)
leveled-members asked parts name =
    let authorizers : List (List ℕ) = map (λ part. part.assertion.authorizer) parts in
    let authorizes : Bool = list_any (bytes_eq name) authorizers in
    let asks : Bool = list_any (bytes_eq name) asked.requesters in
    with_names-members (with_names (policy ∷ []) authorizers) asked.requesters name
    ∙ ap (λ a. a || asks) (with_names-members (policy ∷ []) authorizers name)
    ∙ ap (λ a. (a || authorizes) || asks) (sym (or_none (bytes_eq name policy)))
    ∙ or_both (bytes_eq name policy) authorizes asks
    ∙ ap (λ a. bytes_eq name policy || a) (sym (list_any-append (bytes_eq name) authorizers asked.requesters))

-- who is among names has a number
number-of : (names : List (List ℕ)) (name : List ℕ) → list_any (bytes_eq name) names ≡ true → (p : ℕ)
    × IsNumber names name p
number-of names name among =
    elim (number_or_none names name) [
      | inl number ↦ number
      | inr none ↦ absurd (true≢false (sym among ∙ absent-among names name none))
    ]

-- so each authorizer has one
pub authorizers-numbered : (asked : Asked) (parts : List Part) (names : List (List ℕ))
    → names ≡ leveled_names asked parts → HaveNumbers (map (λ part. part.assertion.authorizer) parts) names
authorizers-numbered asked parts names entered = λ name among.
    let authorizers : List (List ℕ) = map (λ part. part.assertion.authorizer) parts in
    let front : list_any (bytes_eq name) (authorizers ++ asked.requesters) ≡ true =
    list_any-append (bytes_eq name) authorizers asked.requesters
    ∙ true_or (list_any (bytes_eq name) authorizers) (list_any (bytes_eq name) asked.requesters) among in
    number-of names name (ap (list_any (bytes_eq name)) entered ∙ leveled-members asked parts name
    ∙ or_as_true (bytes_eq name policy) (list_any (bytes_eq name) (authorizers ++ asked.requesters)) front)

-- assertions that are narrowed to these names are those of the query
pub narrowed-leveled : (asked : Asked) (parts : List Part) (names : List (List ℕ)) → names ≡ leveled_names asked parts
    → map (narrowed_part names) parts ≡ narrow_parts asked parts
narrowed-leveled asked parts names entered = each parts
  where
    same : (part : Part) → narrowed_part names part ≡ narrowed_part (principals_with_level asked parts) part
    same = narrowed_by_members names (principals_with_level asked parts)
        (λ name. ap (list_any (bytes_eq name)) entered ∙ leveled-members asked parts name)

    each : (others : List Part)
        → map (narrowed_part names) others ≡ map (narrowed_part (principals_with_level asked parts)) others
    each [] = refl
    each (part ∷ others) =
        ap (λ p. p ∷ map (narrowed_part names) others) (same part)
        ∙ ap (λ ps. narrowed_part (principals_with_level asked parts) part ∷ ps) (each others)

-- their conditions and ids stay
pub conditions-narrowed : (asked : Asked) (names : List (List ℕ)) (parts : List Part)
    → condition_values asked (map (narrowed_part names) parts) ≡ condition_values asked parts
conditions-narrowed asked names [] = refl
conditions-narrowed asked names (part ∷ parts) =
    ap (λ values. (statement_of asked part).ceiling ∷ values) (conditions-narrowed asked names parts)

pub ids-narrowed : (names : List (List ℕ)) (parts : List Part)
    → map (λ part. part.id) (map (narrowed_part names) parts) ≡ map (λ part. part.id) parts
ids-narrowed names [] = refl
ids-narrowed names (part ∷ parts) = ap (λ ids. part.id ∷ ids) (ids-narrowed names parts)

-- the policy alone
policy-distinct : AreDistinct (policy ∷ [])
policy-distinct zero zero item here there = refl
policy-distinct zero (suc q) item here there = absurd (cc)
policy-distinct (suc p) q item here there = absurd (cc)

pub policy-base : (names : List (List ℕ)) (system : SystemEquations) → names ≡ policy ∷ [] → system.rows ≡ []
    → IsBaseOf [] names system
policy-base names system alone none = record {
  first = subst (λ (ns : List (List ℕ)). IsNumber ns policy 0) (sym alone) refl;
  distinct = subst (λ (ns : List (List ℕ)). AreDistinct ns) (sym alone) policy-distinct;
  rows = subst (AreBaseRows names []) (sym none) tt;
}

-- the authorizer of the assertion at a place
pub authorizer-here : (parts : List Part) (i : ℕ) (part : Part) → i < length parts → part ≡ get_or parts i part
    → part.assertion.authorizer ≡ get_or (map (λ p. p.assertion.authorizer) parts) i part.assertion.authorizer
authorizer-here parts i part within here =
    ap (λ (p : Part). p.assertion.authorizer) here
    ∙ sym (get_or-map (λ (p : Part). p.assertion.authorizer) parts i part part.assertion.authorizer within)

-- one more row
module _ (part : Part) (ceiling : ℕ) (old new : Numbered) (adds : AddsNarrowedRow part.assertion ceiling old new) where
  longer : new.system.rows ≡ old.system.rows ++ adds.row ∷ []
  longer = ap (λ (s : SystemEquations). s.rows) adds.system

  pub narrowed-nodes : node_total new.system.rows ≤ node_total old.system.rows + size_of part
  narrowed-nodes =
      let total : node_total new.system.rows ≡ node_total old.system.rows + length adds.row.formula =
      ap node_total longer ∙ node_total-longer old.system.rows adds.row in
      omega (arith, total, adds.short)

  pub narrowed-base : (parts : List Part) → IsBaseOf parts old.names old.system
      → IsBaseOf (parts ++ narrowed_part old.names part ∷ []) new.names new.system
  narrowed-base parts is =
      let all : List Part = parts ++ narrowed_part old.names part ∷ [] in
      let rows : AreBaseRows old.names all new.system.rows =
      subst (AreBaseRows old.names all) (sym longer)
      (AreBaseRows-longer old.names parts old.system.rows is.rows (narrowed_part old.names part) adds.row adds.is) in
      record {
        first = subst (λ (names : List (List ℕ)). IsNumber names policy 0) (sym adds.names) is.first;
        distinct = subst (λ (names : List (List ℕ)). AreDistinct names) (sym adds.names) is.distinct;
        rows = subst (λ (names : List (List ℕ)). AreBaseRows names all new.system.rows) (sym adds.names) rows;
      }
