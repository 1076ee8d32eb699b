-- The level of a formula by its variants.
use Rattle.std.proofs.Common.{rules, ◌≡◌, length, ℕ, List, map}
use Rattle.kn_base.specs.Threshold.{threshold}
use Rattle.kn_trees.specs.declared.formula.Formula.{Formula}
use Rattle.kn_trees.specs.declared.formula.Formula.TheViews.{the_lemmas}
use Rattle.kn_trees.specs.declared.formula.Formula.TheVariants.{Who, All, Any, Threshold}
use Rattle.kn_trees.specs.declared.formula.Formula.TheFolds.{fold_out-Formula}
use Rattle.kn_meaning.specs.Formulas.{Levels, formula_level}

pub formula_level_who : (top : ℕ) (at : Levels) (name : List ℕ) → formula_level top at (Who name) ≡ at name
unfolding formula_level
formula_level_who top at name = search (rules, the_lemmas, fold_out-Formula)

pub formula_level_all : (top : ℕ) (at : Levels) (parts : List Formula)
    → formula_level top at (All parts) ≡ threshold top (length (map (formula_level top at) parts))
    (map (formula_level top at) parts)
unfolding formula_level
formula_level_all top at parts = search (rules, the_lemmas, fold_out-Formula)

pub formula_level_any : (top : ℕ) (at : Levels) (parts : List Formula)
    → formula_level top at (Any parts) ≡ threshold top 1 (map (formula_level top at) parts)
unfolding formula_level
formula_level_any top at parts = search (rules, the_lemmas, fold_out-Formula)

pub formula_level_threshold : (top : ℕ) (at : Levels) (need : ℕ) (parts : List Formula)
    → formula_level top at (Threshold need parts) ≡ threshold top need (map (formula_level top at) parts)
unfolding formula_level
formula_level_threshold top at need parts = search (rules, the_lemmas, fold_out-Formula)

pub ruleset formula_levels = (formula_level_who, formula_level_all, formula_level_any, formula_level_threshold)
