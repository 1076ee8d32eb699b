-- How large and how deep formulas are, and which of them a reader gives.
use Rattle.std.specs.Prelude.{ℕ, ◌+◌, ◌≡◌, ◌≤◌, Bool, true, ◌&&◌, nat_le, max, List, [], ◌∷◌, length, Option, Some}
use Rattle.std.specs.Prelude.{None}
use Rattle.std.specs.List.{list_all}
use Rattle.kn_trees.specs.declared.formula.Formula.{Formula}
use Rattle.kn_trees.specs.declared.formula.Formula.TheOpen.{Formula-F}
use Rattle.kn_trees.specs.declared.formula.Formula.TheOpen.Formula-F.{Who, All, Any, Threshold}
use Rattle.kn_trees.specs.declared.formula.Formula.TheFolds.{fold-Formula}

abbrev pub total : List ℕ → ℕ
total [] = 0
total (n ∷ ns) = n + total ns

abbrev pub node_step : Formula-F ℕ → ℕ
node_step (Who name) = 1
node_step (All counts) = 1 + total counts
node_step (Any counts) = 1 + total counts
node_step (Threshold need counts) = 1 + total counts

-- how many nodes a formula has: its principals, and its lists
unfoldable pub formula_nodes : Formula → ℕ
formula_nodes = fold-Formula ℕ node_step

abbrev pub greatest_of : List ℕ → ℕ
greatest_of [] = 0
greatest_of (n ∷ ns) = max n (greatest_of ns)

abbrev pub depth_step : Formula-F ℕ → ℕ
depth_step (Who name) = 1
depth_step (All depths) = 1 + greatest_of depths
depth_step (Any depths) = 1 + greatest_of depths
depth_step (Threshold need depths) = 1 + greatest_of depths

-- how many levels a formula has: a principal is one, and a list one above the deepest of its parts
unfoldable pub formula_depth : Formula → ℕ
formula_depth = fold-Formula ℕ depth_step

abbrev pub itself : Bool → Bool
itself b = b

abbrev pub sound_step : Formula-F Bool → Bool
sound_step (Who name) = true
sound_step (All parts) = nat_le 2 (length parts) && list_all itself parts
sound_step (Any parts) = nat_le 2 (length parts) && list_all itself parts
sound_step (Threshold need parts) = (nat_le 1 need && nat_le need (length parts)) && list_all itself parts

-- `&&` and `||` have two parts at least, and a threshold needs 1 to all of its parts
unfoldable pub is_sound : Formula → Bool
is_sound = fold-Formula Bool sound_step

abbrev pub field_nodes : Option Formula → ℕ
field_nodes None = 0
field_nodes (Some formula) = formula_nodes formula

-- A formula that a reader gives for a text of so many bytes: sound, with no more nodes than the text has bytes, and of
-- at most 200 levels.
pub record IsReadable (bytes : ℕ) (formula : Formula) : Type 0 where
  pub sound : is_sound formula ≡ true
  pub small : formula_nodes formula ≤ bytes
  pub shallow : formula_depth formula ≤ 200
