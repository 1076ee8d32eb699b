-- The value of a Licensees field under given levels (RFC 2704, sections 4 and 5).
use Rattle.std.specs.Prelude.{ℕ, List, length}
use Rattle.kn_base.specs.Threshold.{threshold}
use Rattle.kn_trees.specs.declared.formula.Formula.{Formula}
use Rattle.kn_trees.specs.declared.formula.Formula.TheOpen.{Formula-F}
use Rattle.kn_trees.specs.declared.formula.Formula.TheOpen.Formula-F.{Who, All, Any, Threshold}
use Rattle.kn_trees.specs.declared.formula.Formula.TheFolds.{fold-Formula}

-- the level of each principal, by its name
abbrev pub Levels : Type 0
Levels = List ℕ → ℕ

-- The level of a formula whose parts have these levels: the greatest level that all of them reach, that one of them
-- reaches, or that `need` of them reach.
abbrev pub level_step : ℕ → Levels → Formula-F ℕ → ℕ
level_step top at (Who name) = at name
level_step top at (All levels) = threshold top (length levels) levels
level_step top at (Any levels) = threshold top 1 levels
level_step top at (Threshold need levels) = threshold top need levels

-- the level of a formula, where each principal has a level
unfoldable pub formula_level : ℕ → Levels → Formula → ℕ
formula_level top at = fold-Formula ℕ (level_step top at)
