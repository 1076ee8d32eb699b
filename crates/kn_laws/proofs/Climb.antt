-- The cut: where those that have u in the first levels have it in the second, each formula that reaches u does so
-- there.
use Rattle.std.proofs.Common.{◌≡◌, ℕ, ◌<◌, ◌≤◌, List, [], ◌∷◌, map, refl, sym, ◌∙◌, subst, arith}
use Rattle.std.proofs.lemmas.Bool.Decides.{nat_tests}
use Rattle.std.proofs.lemmas.List.{length-map}
use Rattle.kn_base.specs.Threshold.{reaching, threshold}
use Rattle.kn_trees.specs.declared.formula.Formula.{Formula}
use Rattle.kn_trees.specs.declared.formula.Formula.TheViews.{roll-Formula}
use Rattle.kn_trees.specs.declared.formula.Formula.TheOpen.{Formula-F}
use Rattle.kn_trees.specs.declared.formula.Formula.TheOpen.Formula-F.{Who, All, Any, Threshold}
use Rattle.kn_trees.specs.declared.formula.Formula.TheFolds.{fold-roll-Formula, map-Formula, ind-Formula}
use Rattle.kn_meaning.specs.Formulas.{Levels, level_step, formula_level}
use Rattle.kn_laws.proofs.Thresholds.{threshold-carried, threshold-le}

-- who has u in the first has it in the second
abbrev pub Carries : ℕ → Levels → Levels → Type 0
Carries u at other = (name : List ℕ) → u ≤ at name → u ≤ other name

-- the level of a formula by its parts
pub formula_level-roll : (top : ℕ) (at : Levels) (x : Formula-F Formula)
    → formula_level top at (roll-Formula x) ≡ level_step top at (map-Formula Formula ℕ (formula_level top at) x)
unfolding formula_level
formula_level-roll top at x = fold-roll-Formula ℕ (level_step top at) x

module _ (u top : ℕ) (at other : Levels) (some : 0 < u) (carries : Carries u at other) where
  abbrev IsCarried : Formula → Type 0
  IsCarried formula = u ≤ formula_level top at formula → u ≤ formula_level top other formula

  abbrev Parts : Type 0
  Parts = List ((part : Formula) × IsCarried part)

  -- as many parts reach u
  reaching-parts : (parts : Parts) → reaching u (map (formula_level top at) (map (λ e. e.0) parts))
      ≤ reaching u (map (formula_level top other) (map (λ e. e.0) parts))
  reaching-parts [] = omega arith
  reaching-parts (e ∷ parts) =
      let rest = reaching-parts parts in
      let first : u ≤ formula_level top at e.0 → u ≤ formula_level top other e.0 = e.1 in
      grind (arith, nat_tests)

  threshold-parts : (k j : ℕ) (parts : Parts) → k ≡ j
      → u ≤ threshold top k (map (formula_level top at) (map (λ e. e.0) parts))
      → u ≤ threshold top j (map (formula_level top other) (map (λ e. e.0) parts))
  threshold-parts k j parts same l =
      let carried = threshold-carried top k u some _ _ (reaching-parts parts) l in
      subst (λ n. u ≤ threshold top n (map (formula_level top other) (map (λ e. e.0) parts))) same carried

  layer : (y : Formula-F ((part : Formula) × IsCarried part))
      → u ≤ level_step top at
      (map-Formula Formula ℕ (formula_level top at)
      (map-Formula ((part : Formula) × IsCarried part) Formula (λ e. e.0) y))
      → u ≤ level_step top other
      (map-Formula Formula ℕ (formula_level top other)
      (map-Formula ((part : Formula) × IsCarried part) Formula (λ e. e.0) y))
  layer (Who name) l = carries name l
  layer (All parts) l = threshold-parts _ _ parts (length-map _ _ ∙ sym (length-map _ _)) l
  layer (Any parts) l = threshold-parts 1 1 parts refl l
  layer (Threshold need parts) l = threshold-parts need need parts refl l

  rolled : (x : Formula-F Formula)
      → (u ≤ level_step top at (map-Formula Formula ℕ (formula_level top at) x)
      → u ≤ level_step top other (map-Formula Formula ℕ (formula_level top other) x)) → IsCarried (roll-Formula x)
  rolled x carried l =
      let before = formula_level-roll top at x in
      let after = formula_level-roll top other x in
      let given : u ≤ level_step top at (map-Formula Formula ℕ (formula_level top at) x) = omega arith in
      let found = carried given in
      omega arith

  pub formula_level-carried : (formula : Formula) → IsCarried formula
  formula_level-carried =
      ind-Formula IsCarried (λ x y is. subst (λ z. IsCarried (roll-Formula z)) is (rolled _ (layer y)))

-- where no level is above the top, no formula's is
pub formula_level-le : (top : ℕ) (at : Levels) → ((name : List ℕ) → at name ≤ top) → (formula : Formula)
    → formula_level top at formula ≤ top
formula_level-le top at low =
    ind-Formula (λ formula. formula_level top at formula ≤ top) (λ x y is. let level = formula_level-roll top at x in
    let le = layer-le x in omega arith)
  where
    layer-le : (x : Formula-F Formula) → level_step top at (map-Formula Formula ℕ (formula_level top at) x) ≤ top
    layer-le (Who name) = low name
    layer-le (All parts) = threshold-le top _ _
    layer-le (Any parts) = threshold-le top _ _
    layer-le (Threshold need parts) = threshold-le top _ _
