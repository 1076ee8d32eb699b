-- The ceilings of a base's rows in a query.
use Rattle.std.proofs.Common.{◌≡◌, ℕ, zero, suc, ◌<◌, Bool, true, false, cond, All, List, [], ◌∷◌, length, map, get_or}
use Rattle.std.proofs.Common.{slice_index, refl, sym, ap, ◌∙◌, arith, replicate}
use Rattle.std.proofs.lemmas.List.{get_or_default, length-map}
use Rattle.std.proofs.lemmas.List.Elements.{All-nil, All-cons}
use Rattle.kn_trees.specs.declared.assertion.Assertion.{Assertion}
use Rattle.kn_env.specs.Environment.{Asked}
use Rattle.kn_cond.specs.Programs.{field_value}
use Rattle.kn_meaning.specs.Equations.{Part, statement_of}
use Rattle.kn_rows.specs.Numbering.{IsNumber}
use Rattle.kn_answer.specs.Removed.{live_parts}
use Rattle.kn_answer.specs.Based.{capped_values, ceilings_of, condition_values}
use Rattle.kn_answer.proofs.BaseSystems.{length-kept}
use Rattle.kn_answer.proofs.ConditionBounds.{field_value-within}

pub length-ceilings : (asked : Asked) (parts : List Part) (live : List Bool) → length live ≡ length parts
    → length (ceilings_of asked parts live) ≡ length parts
length-ceilings asked parts live size = length-map _ _ ∙ length-kept asked parts live size

-- they are the values of conditions, capped
pub ceilings-capped : (asked : Asked) (parts : List Part) (live : List Bool)
    → capped_values (condition_values asked parts) live ≡ ceilings_of asked parts live
ceilings-capped asked [] live = refl
ceilings-capped asked (part ∷ parts) [] = refl
ceilings-capped asked (part ∷ parts) (flag ∷ live) =
    ap (λ cs. cond flag (statement_of asked part).ceiling 0 ∷ cs) (ceilings-capped asked parts live)

-- a row that has a ceiling has a value, and it is known whether its assertion is still there
pub capped-rows : (values : List ℕ) (live : List Bool) (row : ℕ) → row < length (capped_values values live)
    → (row < length values) × (row < length live)
capped-rows [] live row l = absurd (omega (arith, l))
capped-rows (value ∷ values) [] row l = absurd (omega (arith, l))
capped-rows (value ∷ values) (flag ∷ live) zero l = (omega arith, omega arith)
capped-rows (value ∷ values) (flag ∷ live) (suc row) l = let (a, b) = capped-rows values live row (omega (arith, l)) in
    (omega (arith, a), omega (arith, b))

-- that of an assertion that is still there is its value
pub capped-live : (values : List ℕ) (live : List Bool) (row : ℕ) (flag : Bool) → row < length live
    → flag ≡ get_or live row flag → flag ≡ true → slice_index values row ≡ slice_index (capped_values values live) row
capped-live [] live row flag l e yes_now = refl
capped-live (value ∷ values) [] row flag l e yes_now = absurd (omega (arith, l))
capped-live (value ∷ values) (b ∷ live) zero flag l e yes_now = sym (ap (λ t. cond t value 0) (sym e ∙ yes_now))
capped-live (value ∷ values) (b ∷ live) (suc row) flag l e yes_now =
    capped-live values live row flag (omega (arith, l)) e yes_now

-- and that of one that was removed is 0
pub capped-removed : (values : List ℕ) (live : List Bool) (row : ℕ) (flag : Bool) → row < length live
    → flag ≡ get_or live row flag → flag ≡ false → 0 ≡ slice_index (capped_values values live) row
capped-removed [] live row flag l e not_now = refl
capped-removed (value ∷ values) [] row flag l e not_now = absurd (omega (arith, l))
capped-removed (value ∷ values) (b ∷ live) zero flag l e not_now = sym (ap (λ t. cond t value 0) (sym e ∙ not_now))
capped-removed (value ∷ values) (b ∷ live) (suc row) flag l e not_now =
    capped-removed values live row flag (omega (arith, l)) e not_now

-- the value of a row's conditions
pub value-here : (asked : Asked) (parts : List Part) (row : ℕ) (assertion : Assertion)
    → IsNumber (map (λ part. part.assertion) parts) assertion row
    → field_value (record { asked = asked; constants = assertion.constants }) assertion.conditions
    ≡ slice_index (condition_values asked parts) row
value-here asked [] row assertion here = absurd (cc)
value-here asked (part ∷ parts) zero assertion here =
    let same : part.assertion ≡ assertion = cc in
    ap (λ (a : Assertion). field_value (record { asked = asked; constants = a.constants }) a.conditions) (sym same)
value-here asked (part ∷ parts) (suc row) assertion here = value-here asked parts row assertion here

-- all are below the number of compliance values
pub ceilings-low : (asked : Asked) (parts : List Part) (live : List Bool) (levels : ℕ) → levels ≡ length asked.values
    → 0 < levels → All (λ ceiling. ceiling < levels) (ceilings_of asked parts live)
ceilings-low asked [] live levels e some = All-nil (λ ceiling. ceiling < levels)
ceilings-low asked (part ∷ parts) [] levels e some = All-nil (λ ceiling. ceiling < levels)
ceilings-low asked (part ∷ parts) (flag ∷ live) levels e some =
    All-cons (λ ceiling. ceiling < levels) (cond flag (statement_of asked part).ceiling 0)
    (ceilings_of asked parts live) (either flag) (ceilings-low asked parts live levels e some)
  where
    either : (b : Bool) → cond b (statement_of asked part).ceiling 0 < levels
    either true =
        let within : field_value (record { asked = asked; constants = part.assertion.constants })
        part.assertion.conditions < length asked.values =
        field_value-within (record { asked = asked; constants = part.assertion.constants }) (omega (arith, e, some))
        part.assertion.conditions in
        omega (arith, within, e)
    either false = some

-- a flag that was read
pub flag-here : (seen live : List Bool) (row : ℕ) (flag : Bool) → seen ≡ live → row < length live
    → get_or seen row false ≡ flag → flag ≡ get_or live row flag
flag-here seen live row flag same within e = sym e ∙ ap (λ fs. get_or fs row false) same
    ∙ get_or_default live row false flag within

-- all are there
pub live-all : (parts : List Part) (n : ℕ) → n ≡ length parts → live_parts parts (replicate n true) ≡ parts
live-all [] n size = refl
live-all (part ∷ parts) zero size = absurd (omega (arith, size))
live-all (part ∷ parts) (suc n) size = ap (λ ps. part ∷ ps) (live-all parts n (omega (arith, size)))
