-- A narrowed formula has the level of the formula itself where all who are not among the names have the lowest.
use Rattle.std.proofs.Common.{◌≡◌, ℕ, zero, suc, ◌≤◌, Bool, true, false, cond, List, [], ◌∷◌, length, map, slice_index}
use Rattle.std.proofs.Common.{Option, Some, None, inl, inr, sym, ap, ◌∙◌, refl, subst, arith, le_refl}
use Rattle.std.specs.List.{list_any}
use Rattle.std.specs.Str.{bytes_eq}
use Rattle.std.specs.Option.{option_map}
use Rattle.std.proofs.lemmas.Bool.{cases_lt}
use Rattle.std.proofs.lemmas.List.{length-map}
use mathlib.Core.Path.{fun_ext}
use Rattle.kn_base.specs.Threshold.{threshold}
use Rattle.kn_trees.specs.declared.formula.Formula.{Formula}
use Rattle.kn_trees.specs.declared.formula.Formula.TheVariants as formula
use Rattle.kn_trees.specs.declared.formula.Formula.TheViews.{roll-Formula}
use Rattle.kn_trees.specs.declared.formula.Formula.TheOpen.{Formula-F}
use Rattle.kn_trees.specs.declared.formula.Formula.TheOpen.Formula-F.{Who, All, Any, Threshold}
use Rattle.kn_trees.specs.declared.formula.Formula.TheFolds.{fold-Formula, fold-roll-Formula, map-Formula, ind-Formula}
use Rattle.kn_meaning.specs.Formulas.{Levels, level_step, formula_level}
use Rattle.kn_meaning.specs.Equations.{Part, licensees_level}
use Rattle.kn_meaning.proofs.Walks.{formula_level_who, formula_level_all, formula_level_any, formula_level_threshold}
use Rattle.kn_system.specs.Order.{Below}
use Rattle.kn_system.proofs.Thresholds.{threshold-carried}
use Rattle.kn_rows.specs.Narrowing.{narrowed_step, narrowed_formula}
use Rattle.kn_answer.specs.Narrowed.{narrowed_part}

-- the level of a formula by its parts
formula_level-roll : (top : ℕ) (at : Levels) (x : Formula-F Formula)
    → formula_level top at (roll-Formula x) ≡ level_step top at (map-Formula Formula ℕ (formula_level top at) x)
unfolding formula_level
formula_level-roll top at x = fold-roll-Formula ℕ (level_step top at) x

-- a narrowed formula by its parts
narrowed_formula-roll : (names : List (List ℕ)) (x : Formula-F Formula)
    → narrowed_formula names (roll-Formula x)
    ≡ narrowed_step names (map-Formula Formula Formula (narrowed_formula names) x)
unfolding narrowed_formula
narrowed_formula-roll names x = fold-roll-Formula Formula (narrowed_step names) x

-- the levels of these principals, and the lowest of all others
abbrev pub levels_among : List (List ℕ) → Levels → Levels
levels_among names at name = cond (list_any (bytes_eq name) names) (at name) 0

-- where all others have the lowest, they are the levels of all
pub levels_among-all : (names : List (List ℕ)) (at : Levels)
    → ((name : List ℕ) → list_any (bytes_eq name) names ≡ false → at name ≡ 0) → levels_among names at ≡ at
levels_among-all names at lowest = fun_ext (λ name. by name (list_any (bytes_eq name) names) (lowest name))
  where
    by : (name : List ℕ) (b : Bool) → (b ≡ false → at name ≡ 0) → cond b (at name) 0 ≡ at name
    by name true low = refl
    by name false low = sym (low refl)

-- they are at most those of all
pub levels_among-below : (names : List (List ℕ)) (at : Levels) (name : List ℕ) → levels_among names at name ≤ at name
levels_among-below names at name = by (list_any (bytes_eq name) names)
  where
    by : (b : Bool) → cond b (at name) 0 ≤ at name
    by true = le_refl (at name)
    by false = omega arith

threshold-none : (n : ℕ) → threshold n 1 [] ≡ 0
threshold-none zero = refl
threshold-none (suc n) = threshold-none n

module _ (names : List (List ℕ)) (top : ℕ) (at : Levels) where
  abbrev IsSame : Formula → Type 0
  IsSame f = formula_level top at (narrowed_formula names f) ≡ formula_level top (levels_among names at) f

  abbrev SameParts : Type 0
  SameParts = List ((part : Formula) × IsSame part)

  same-parts : (parts : SameParts)
      → map (formula_level top at) (map (narrowed_formula names) (map (λ e. e.0) parts))
      ≡ map (formula_level top (levels_among names at)) (map (λ e. e.0) parts)
  same-parts [] = refl
  same-parts (e ∷ parts) =
      ap (λ l. l ∷ map (formula_level top at) (map (narrowed_formula names) (map (λ e. e.0) parts))) e.1
      ∙ ap (λ ls. formula_level top (levels_among names at) e.0 ∷ ls) (same-parts parts)

  same-who : (name : List ℕ) (b : Bool)
      → formula_level top at (cond b (formula.Who name) (formula.Any [])) ≡ cond b (at name) 0
  same-who name true = formula_level_who top at name
  same-who name false = formula_level_any top at [] ∙ threshold-none top

  same-step : (y : Formula-F ((part : Formula) × IsSame part))
      → formula_level top at
      (narrowed_step names
      (map-Formula Formula Formula (narrowed_formula names)
      (map-Formula ((part : Formula) × IsSame part) Formula (λ e. e.0) y)))
      ≡ level_step top (levels_among names at)
      (map-Formula Formula ℕ (formula_level top (levels_among names at))
      (map-Formula ((part : Formula) × IsSame part) Formula (λ e. e.0) y))
  same-step (Who name) = same-who name (list_any (bytes_eq name) names)
  same-step (All parts) = formula_level_all top at (map (narrowed_formula names) (map (λ e. e.0) parts))
      ∙ ap (λ ls. threshold top (length ls) ls) (same-parts parts)
  same-step (Any parts) = formula_level_any top at (map (narrowed_formula names) (map (λ e. e.0) parts))
      ∙ ap (threshold top 1) (same-parts parts)
  same-step (Threshold need parts) =
      formula_level_threshold top at need (map (narrowed_formula names) (map (λ e. e.0) parts))
      ∙ ap (threshold top need) (same-parts parts)

  -- a narrowed formula has the level of the formula under the levels of these principals alone
  pub formula_level-narrowed : (f : Formula) → IsSame f
  formula_level-narrowed = ind-Formula IsSame (λ x y is. subst (λ z. IsSame (roll-Formula z)) is (rolled y))
    where
      rolled : (y : Formula-F ((part : Formula) × IsSame part))
          → IsSame (roll-Formula (map-Formula ((part : Formula) × IsSame part) Formula (λ e. e.0) y))
      rolled y =
          let x : Formula-F Formula = map-Formula ((part : Formula) × IsSame part) Formula (λ e. e.0) y in
          ap (formula_level top at) (narrowed_formula-roll names x) ∙ same-step y
          ∙ sym (formula_level-roll top (levels_among names at) x)

  -- so have the licensees of an assertion
  pub licensees_level-narrowed : (licensees : Option Formula)
      → licensees_level top at (option_map (narrowed_formula names) licensees)
      ≡ licensees_level top (levels_among names at) licensees
  licensees_level-narrowed None = refl
  licensees_level-narrowed (Some f) = formula_level-narrowed f

-- higher levels give a threshold that isn't lower
threshold-below : (top k : ℕ) (xs ys : List ℕ) → Below xs ys → threshold top k xs ≤ threshold top k ys
threshold-below top k xs ys below =
    let u : ℕ = threshold top k xs in
    elim (cases_lt 0 u) [
      | inl some ↦
          threshold-carried top k u some xs ys (λ i l. let le : slice_index xs i ≤ slice_index ys i = below i in
          omega arith) (le_refl u)
      | inr none ↦ omega arith
    ]

module _ (top : ℕ) (at other : Levels) (below : (name : List ℕ) → at name ≤ other name) where
  abbrev IsBelow : Formula → Type 0
  IsBelow f = formula_level top at f ≤ formula_level top other f

  abbrev BelowParts : Type 0
  BelowParts = List ((part : Formula) × IsBelow part)

  below-parts : (parts : BelowParts)
      → Below (map (formula_level top at) (map (λ e. e.0) parts)) (map (formula_level top other) (map (λ e. e.0) parts))
  below-parts [] i = omega arith
  below-parts (e ∷ parts) zero = e.1
  below-parts (e ∷ parts) (suc i) = below-parts parts i

  below-all : (parts : BelowParts) (k j : ℕ) → k ≡ j
      → threshold top k (map (formula_level top at) (map (λ e. e.0) parts))
      ≤ threshold top j (map (formula_level top other) (map (λ e. e.0) parts))
  below-all parts k j same =
      subst (λ n. threshold top k (map (formula_level top at) (map (λ e. e.0) parts))
      ≤ threshold top n (map (formula_level top other) (map (λ e. e.0) parts))) same
      (threshold-below top k _ _ (below-parts parts))

  below-step : (y : Formula-F ((part : Formula) × IsBelow part))
      → level_step top at
      (map-Formula Formula ℕ (formula_level top at)
      (map-Formula ((part : Formula) × IsBelow part) Formula (λ e. e.0) y))
      ≤ level_step top other
      (map-Formula Formula ℕ (formula_level top other)
      (map-Formula ((part : Formula) × IsBelow part) Formula (λ e. e.0) y))
  below-step (Who name) = below name
  below-step (All parts) = below-all parts _ _ (length-map _ _ ∙ sym (length-map _ _))
  below-step (Any parts) = below-all parts 1 1 refl
  below-step (Threshold need parts) = below-all parts need need refl

  -- higher levels give a formula a level that isn't lower
  pub formula_level-below : (f : Formula) → IsBelow f
  formula_level-below = ind-Formula IsBelow (λ x y is. subst (λ z. IsBelow (roll-Formula z)) is (rolled y))
    where
      rolled : (y : Formula-F ((part : Formula) × IsBelow part))
          → IsBelow (roll-Formula (map-Formula ((part : Formula) × IsBelow part) Formula (λ e. e.0) y))
      rolled y =
          let x : Formula-F Formula = map-Formula ((part : Formula) × IsBelow part) Formula (λ e. e.0) y in
          let before = formula_level-roll top at x in
          let after = formula_level-roll top other x in
          let step = below-step y in
          omega arith

  -- so do they to the licensees of an assertion
  pub licensees_level-below : (licensees : Option Formula)
      → licensees_level top at licensees ≤ licensees_level top other licensees
  licensees_level-below None = omega arith
  licensees_level-below (Some f) = formula_level-below f

-- narrowing depends on who is among the names alone
narrowed_step-members : (names others : List (List ℕ))
    → ((name : List ℕ) → list_any (bytes_eq name) names ≡ list_any (bytes_eq name) others) → (x : Formula-F Formula)
    → narrowed_step names x ≡ narrowed_step others x
narrowed_step-members names others same (Who name) =
    ap (λ b. cond b (formula.Who name) (formula.Any [])) (same name)
narrowed_step-members names others same (All parts) = refl
narrowed_step-members names others same (Any parts) = refl
narrowed_step-members names others same (Threshold need parts) = refl

narrowed_formula-members : (names others : List (List ℕ))
    → ((name : List ℕ) → list_any (bytes_eq name) names ≡ list_any (bytes_eq name) others)
    → narrowed_formula names ≡ narrowed_formula others
unfolding narrowed_formula
narrowed_formula-members names others same =
    ap (fold-Formula Formula) (fun_ext (narrowed_step-members names others same))

pub narrowed_by_members : (names others : List (List ℕ))
    → ((name : List ℕ) → list_any (bytes_eq name) names ≡ list_any (bytes_eq name) others) → (part : Part)
    → narrowed_part names part ≡ narrowed_part others part
narrowed_by_members names others same part =
    ap (λ narrow. record part {
      assertion = record part.assertion { licensees = option_map narrow part.assertion.licensees };
    }) (narrowed_formula-members names others same)
