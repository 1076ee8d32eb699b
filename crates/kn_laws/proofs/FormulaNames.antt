-- The level of a formula depends on the principals in it alone.
use Rattle.std.proofs.Common.{◌≡◌, ℕ, ◌||◌, true, List, [], ◌∷◌, length, map, flat_map, Option, Some, None, refl, sym}
use Rattle.std.proofs.Common.{ap, ◌∙◌, subst}
use Rattle.std.proofs.lemmas.Slice.Eq.{bytes_eq-Decides}
use Rattle.kn_base.specs.Threshold.{threshold}
use Rattle.kn_trees.specs.declared.formula.Formula.{Formula}
use Rattle.kn_trees.specs.declared.formula.Formula.TheViews.{roll-Formula}
use Rattle.kn_trees.specs.declared.formula.Formula.TheOpen.{Formula-F}
use Rattle.kn_trees.specs.declared.formula.Formula.TheOpen.Formula-F.{Who, All, Any, Threshold}
use Rattle.kn_trees.specs.declared.formula.Formula.TheFolds.{fold-roll-Formula, map-Formula, ind-Formula}
use Rattle.kn_meaning.specs.Formulas.{Levels, level_step, formula_level}
use Rattle.kn_meaning.specs.Equations.{licensees_level}
use Rattle.kn_meaning.specs.Occurring.{names_step, formula_names, licensees_names}
use Rattle.kn_laws.proofs.Climb.{formula_level-roll}
use Rattle.kn_laws.proofs.Settles.{is_among, among-left, among-right}

-- the principals of a formula by its parts
formula_names-roll : (x : Formula-F Formula)
    → formula_names (roll-Formula x) ≡ names_step (map-Formula Formula (List (List ℕ)) formula_names x)
unfolding formula_names
formula_names-roll x = fold-roll-Formula (List (List ℕ)) names_step x

-- these principals have the same levels in both
abbrev pub Agree : Levels → Levels → List (List ℕ) → Type 0
Agree at other names = (name : List ℕ) → is_among name names ≡ true → at name ≡ other name

module _ (top : ℕ) (at other : Levels) where
  abbrev IsSame : Formula → Type 0
  IsSame formula = Agree at other (formula_names formula)
      → formula_level top at formula ≡ formula_level top other formula

  abbrev Parts : Type 0
  Parts = List ((part : Formula) × IsSame part)

  same-parts : (parts : Parts) → Agree at other (flat_map (λ names. names) (map formula_names (map (λ e. e.0) parts)))
      → map (formula_level top at) (map (λ e. e.0) parts) ≡ map (formula_level top other) (map (λ e. e.0) parts)
  same-parts [] agree = refl
  same-parts (e ∷ parts) agree =
      let others : List (List ℕ) = flat_map (λ names. names) (map formula_names (map (λ e. e.0) parts)) in
      let first : formula_level top at e.0 ≡ formula_level top other e.0 =
      e.1 (λ name among. agree name (among-left name (formula_names e.0) others among)) in
      let rest : map (formula_level top at) (map (λ e. e.0) parts)
      ≡ map (formula_level top other) (map (λ e. e.0) parts) =
      same-parts parts (λ name among. agree name (among-right name (formula_names e.0) others among)) in
      ap (λ level. level ∷ map (formula_level top at) (map (λ e. e.0) parts)) first
      ∙ ap (λ levels. formula_level top other e.0 ∷ levels) rest

  same-step : (y : Formula-F ((part : Formula) × IsSame part))
      → Agree at other
      (names_step
      (map-Formula Formula (List (List ℕ)) formula_names
      (map-Formula ((part : Formula) × IsSame part) Formula (λ e. e.0) y)))
      → level_step top at
      (map-Formula Formula ℕ (formula_level top at)
      (map-Formula ((part : Formula) × IsSame part) Formula (λ e. e.0) y))
      ≡ level_step top other
      (map-Formula Formula ℕ (formula_level top other)
      (map-Formula ((part : Formula) × IsSame part) Formula (λ e. e.0) y))
  same-step (Who name) agree = agree name (ap (λ t. t || is_among name []) ((bytes_eq-Decides name name).1 refl))
  same-step (All parts) agree = ap (λ levels. threshold top (length levels) levels) (same-parts parts agree)
  same-step (Any parts) agree = ap (threshold top 1) (same-parts parts agree)
  same-step (Threshold need parts) agree = ap (threshold top need) (same-parts parts agree)

  -- where its principals have the same levels in both, a formula has
  pub formula_level-names : (formula : Formula) → IsSame formula
  formula_level-names = ind-Formula IsSame (λ x y is. subst (λ z. IsSame (roll-Formula z)) is (rolled y))
    where
      rolled : (y : Formula-F ((part : Formula) × IsSame part))
          → IsSame (roll-Formula (map-Formula ((part : Formula) × IsSame part) Formula (λ e. e.0) y))
      rolled y agree =
          let x : Formula-F Formula = map-Formula ((part : Formula) × IsSame part) Formula (λ e. e.0) y in
          formula_level-roll top at x
          ∙ same-step y (subst (Agree at other) (formula_names-roll x) agree)
          ∙ sym (formula_level-roll top other x)

  -- so have the licensees of an assertion
  pub licensees_level-names : (licensees : Option Formula) → Agree at other (licensees_names licensees)
      → licensees_level top at licensees ≡ licensees_level top other licensees
  licensees_level-names None agree = refl
  licensees_level-names (Some formula) agree = formula_level-names formula agree
