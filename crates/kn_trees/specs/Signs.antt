-- Expressions that differ in their sign alone, or in whether their bytes are a text or a name.
use Rattle.std.specs.Prelude.{ℕ, List}
use Rattle.kn_trees.specs.declared.program.Expr.{Expr}
use Rattle.kn_trees.specs.declared.program.Expr.TheVariants as E
use Rattle.kn_trees.specs.declared.signs.Prefix.{Prefix}
use Rattle.kn_trees.specs.declared.signs.Prefix.TheVariants.{Not, Minus, Number, Deref}
use Rattle.kn_trees.specs.declared.signs.Joint.{Joint}
use Rattle.kn_trees.specs.declared.signs.Joint.TheVariants.{And, Or}
use Rattle.kn_trees.specs.declared.signs.Leaf.{Leaf}
use Rattle.kn_trees.specs.declared.signs.Leaf.TheVariants.{Text, Name}

-- an expression behind this sign
abbrev pub with_prefix : Prefix → Expr → Expr
with_prefix Not part = E.Not part
with_prefix Minus part = E.Minus part
with_prefix Number part = E.Number part
with_prefix Deref part = E.Deref part

-- expressions with this sign between them
abbrev pub join_expressions : Joint → List Expr → Expr
join_expressions And parts = E.And parts
join_expressions Or parts = E.Or parts

-- a literal or a name of these bytes
abbrev pub leaf_of : Leaf → List ℕ → Expr
leaf_of Text bytes = E.Text bytes
leaf_of Name bytes = E.Name bytes
