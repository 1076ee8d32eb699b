-- Assertions narrowed to some principals: each other one has a formula over no parts in its place (keynoted's own).
use Rattle.std.specs.Prelude.{ℕ, List, [], option_map, if◌then◌else◌}
use Rattle.std.specs.List.{list_any}
use Rattle.std.specs.Str.{bytes_eq}
use Rattle.kn_trees.specs.declared.assertion.Assertion.{Assertion}
use Rattle.kn_trees.specs.declared.formula.Formula.{Formula}
use Rattle.kn_trees.specs.declared.formula.Formula.TheVariants as formula
use Rattle.kn_trees.specs.declared.formula.Formula.TheOpen.{Formula-F}
use Rattle.kn_trees.specs.declared.formula.Formula.TheOpen.Formula-F.{Who, All, Any, Threshold}
use Rattle.kn_trees.specs.declared.formula.Formula.TheFolds.{fold-Formula}

-- the formula, with one over no parts in place of each principal who is none of these
abbrev pub narrowed_step : List (List ℕ) → Formula-F Formula → Formula
narrowed_step names (Who name) = if list_any (bytes_eq name) names then formula.Who name else formula.Any []
narrowed_step names (All parts) = formula.All parts
narrowed_step names (Any parts) = formula.Any parts
narrowed_step names (Threshold need parts) = formula.Threshold need parts

unfoldable pub narrowed_formula : List (List ℕ) → Formula → Formula
narrowed_formula names = fold-Formula Formula (narrowed_step names)

-- the assertion with its formula narrowed so
abbrev pub narrowed_assertion : List (List ℕ) → Assertion → Assertion
narrowed_assertion names assertion =
    record assertion { licensees = option_map (narrowed_formula names) assertion.licensees }
