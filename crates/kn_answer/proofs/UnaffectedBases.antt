-- Where an update of a base's rows can't affect the policy, the policy keeps its level.
use Rattle.std.proofs.Common.{◌≡◌, ◌<◌, ℕ, zero, suc, Bool, true, false, cond, not, List, [], ◌∷◌, length}
use Rattle.std.proofs.Common.{slice_get, All, Some, inl, inr, refl, sym, ap, ◌∙◌, subst, arith, true≢false}
use Rattle.std.specs.List.{Contains}
use Rattle.std.proofs.lemmas.List.Elements.{All-nil, All-cons}
use Rattle.std.proofs.lemmas.Option.{slice_get-get_or}
use Rattle.kn_principal.specs.Principals.{policy}
use Rattle.kn_meaning.specs.Equations.{Part}
use Rattle.kn_laws.specs.Unaffected.{IsUserAffected, unaffected_parts, UnaffectedKeepLevel}
use Rattle.kn_system.specs.Rows.{SystemRow}
use Rattle.kn_system.specs.Equations.{row_at}
use Rattle.kn_watch.specs.Affected.{is_affected}
use Rattle.kn_watch.specs.Unaffected.{IsUnaffected}
use Rattle.kn_rows.specs.Numbering.{AreDistinct, IsNumber}
use Rattle.kn_answer.specs.Removed.{live_parts}
use Rattle.kn_rows.specs.BaseRows.{AreBaseRows, IsBaseOf, IsBaseRow}
use Rattle.kn_answer.specs.Based.{BaseView}
use Rattle.kn_answer.specs.Unaffected.{KeepsPolicyLevel}
use Rattle.kn_rows.proofs.Names.{number_or_none}
use Rattle.kn_answer.proofs.NamedLevels.{MayHave}
use Rattle.kn_answer.proofs.NamedLeaves.{row-uses}

abbrev is_found_affected : (flags : List Bool) (names : List (List ℕ)) (name : List ℕ) → MayHave names name → Bool
is_found_affected flags names name (inl number) = is_affected flags number.0
is_found_affected flags names name (inr none) = false

-- whether a principal is affected by its name: by its number, where it has one
abbrev is_name_affected : List Bool → List (List ℕ) → List ℕ → Bool
is_name_affected flags names name = is_found_affected flags names name (number_or_none names name)

name-affected : (flags : List Bool) (names : List (List ℕ)) → AreDistinct names → (name : List ℕ) (p : ℕ)
    → IsNumber names name p → is_name_affected flags names name ≡ is_affected flags p
name-affected flags names distinct name p here = by (number_or_none names name)
  where
    by : (found : MayHave names name) → is_found_affected flags names name found ≡ is_affected flags p
    by (inl number) = ap (is_affected flags) (distinct number.0 p name number.1 here)
    by (inr none) = absurd (none p here)

-- an assertion's row by its place
base_row-at : (names : List (List ℕ)) (parts : List Part) (rows : List SystemRow) → AreBaseRows names parts rows
    → (i : ℕ) (part : Part) → slice_get parts i ≡ Some part
    → (i < length rows) × IsBaseRow names part.assertion (row_at rows i)
base_row-at names [] rows are i part is = absurd (cc)
base_row-at names (first ∷ parts) [] are i part is = absurd are
base_row-at names (first ∷ parts) (row ∷ rows) are zero part is =
    let same : first ≡ part = cc in
    (omega arith, subst (λ (p : Part). IsBaseRow names p.assertion row) same are.0)
base_row-at names (first ∷ parts) (row ∷ rows) are (suc i) part is =
    let rest = base_row-at names parts rows are.1 i part is in
    (omega (arith, rest.0), rest.1)

-- what holds of all assertions holds of those that are there
All-live : (P : Part → Type 0) (parts : List Part) → ((i : ℕ) (part : Part) → slice_get parts i ≡ Some part → P part)
    → (live : List Bool) → All P (live_parts parts live)
All-live P [] each live = All-nil P
All-live P (part ∷ parts) each [] = All-nil P
All-live P (part ∷ parts) each (true ∷ live) =
    All-cons P part (live_parts parts live) (each 0 part refl) (All-live P parts (λ i. each (suc i)) live)
All-live P (part ∷ parts) each (false ∷ live) = All-live P parts (λ i. each (suc i)) live

-- where no unaffected assertion comes or goes, the unaffected ones that are there stay
unaffected-same : (affected : List ℕ → Bool) (parts : List Part) (old new : List Bool)
    → length old ≡ length parts → length new ≡ length parts
    → ((i : ℕ) (part : Part) → slice_get parts i ≡ Some part → affected part.assertion.authorizer ≡ false
    → slice_get old i ≡ slice_get new i)
    → unaffected_parts affected (live_parts parts old) ≡ unaffected_parts affected (live_parts parts new)
unaffected-same affected [] old new olds news same = refl
unaffected-same affected (part ∷ parts) [] new olds news same = absurd (omega (arith, olds))
unaffected-same affected (part ∷ parts) (was ∷ old) [] olds news same = absurd (omega (arith, news))
unaffected-same affected (part ∷ parts) (was ∷ old) (is ∷ new) olds news same =
    by (affected part.assertion.authorizer) refl was is (same 0 part refl)
    (unaffected-same affected parts old new (omega (arith, olds)) (omega (arith, news)) (λ i. same (suc i)))
  where
    kept : Bool → List Bool → List Part
    kept flag live = unaffected_parts affected (cond flag (part ∷ live_parts parts live) (live_parts parts live))

    left_out : affected part.assertion.authorizer ≡ true → (flag : Bool) (live : List Bool)
        → kept flag live ≡ unaffected_parts affected (live_parts parts live)
    left_out own true live = ap (λ b. cond (not b) (part ∷ unaffected_parts affected (live_parts parts live))
        (unaffected_parts affected (live_parts parts live))) own
    left_out own false live = refl

    behind : (flag : Bool) → unaffected_parts affected (live_parts parts old)
        ≡ unaffected_parts affected (live_parts parts new) → kept flag old ≡ kept flag new
    behind true rest = ap (λ (ps : List Part). cond (not (affected part.assertion.authorizer)) (part ∷ ps) ps) rest
    behind false rest = rest

    by : (b : Bool) → affected part.assertion.authorizer ≡ b → (was is : Bool) → (b ≡ false → Some was ≡ Some is)
        → unaffected_parts affected (live_parts parts old) ≡ unaffected_parts affected (live_parts parts new)
        → kept was old ≡ kept is new
    by true own was is equal rest = left_out own was old ∙ rest ∙ sym (left_out own is new)
    by false own was is equal rest =
        let same_flag : was ≡ is = let both = equal refl in cc in
        behind was rest ∙ ap (λ flag. kept flag new) same_flag

module _ (base : BaseView) (rows : List ℕ) (found : IsUnaffected base.system rows 0) (parts : List Part)
    (of : IsBaseOf parts base.names base.system) where
  abbrev affected : List ℕ → Bool
  affected = is_name_affected found.affected base.names

  authorizer-affected : (i : ℕ) (part : Part) → slice_get parts i ≡ Some part
      → affected part.assertion.authorizer ≡ is_affected found.affected (row_at base.system.rows i).authorizer
  authorizer-affected i part here =
      let row = (base_row-at base.names parts base.system.rows of.rows i part here).1 in
      name-affected found.affected base.names of.distinct part.assertion.authorizer
      (row_at base.system.rows i).authorizer row.authorizer

  users-affected : (i : ℕ) (part : Part) → slice_get parts i ≡ Some part → IsUserAffected affected part
  users-affected i part here name among is =
      let row = base_row-at base.names parts base.system.rows of.rows i part here in
      let uses = row-uses base.names part.assertion (row_at base.system.rows i) row.1 name among in
      let known : is_affected found.affected uses.0 ≡ true =
      sym (name-affected found.affected base.names of.distinct name uses.0 uses.2) ∙ is in
      authorizer-affected i part here ∙ found.users uses.0 i known row.0 uses.1

  changed-affected : (i : ℕ) (part : Part) → slice_get parts i ≡ Some part → affected part.assertion.authorizer ≡ false
      → Contains rows i → ⊥
  changed-affected i part here own (k, within, is) =
      let row : slice_get rows k ≡ Some i = slice_get-get_or rows k i within ∙ ap Some is in
      true≢false (sym (found.has_rows k i row) ∙ sym (authorizer-affected i part here) ∙ own)

pub keeps-policy_level : UnaffectedKeepLevel → (base : BaseView) (rows : List ℕ) → IsUnaffected base.system rows 0
    → KeepsPolicyLevel rows base
keeps-policy_level law base rows found parts of old new olds news same asked level before =
    law asked (affected base rows found parts of) (live_parts parts old) (live_parts parts new)
    (All-live _ parts (users-affected base rows found parts of) old)
    (All-live _ parts (users-affected base rows found parts of) new)
    (unaffected-same (affected base rows found parts of) parts old new olds news
    (λ i part here own. same i (changed-affected base rows found parts of i part here own)))
    (name-affected found.affected base.names of.distinct policy 0 of.first ∙ found.without) level before
