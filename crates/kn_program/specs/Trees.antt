-- The trees of expressions by their parts (RFC 2704, section 4; the grouping to the left is keynoted's own choice).
use Rattle.std.specs.Prelude.{List, [], ◌∷◌}
use Rattle.kn_trees.specs.declared.program.Expr.{Expr}
use Rattle.kn_trees.specs.declared.program.Expr.TheVariants as E
use Rattle.kn_trees.specs.declared.program.Link2.{Link2}
use Rattle.kn_program.specs.declared.signs.Joint.{Joint}
use Rattle.kn_program.specs.declared.signs.Joint.TheVariants.{Or, And}
use Rattle.kn_program.specs.declared.signs.Prefix.{Prefix}
use Rattle.kn_program.specs.declared.signs.Prefix.TheVariants.{Minus, Number, Deref}

abbrev pub several : Joint → List Expr → Expr
several Or parts = E.Or parts
several And parts = E.And parts

-- one part alone is itself
unfoldable pub joined : Joint → List Expr → Expr
joined joint [] = several joint []
joined joint (part ∷ []) = part
joined joint (part ∷ next ∷ parts) = several joint (part ∷ next ∷ parts)

-- a first part with operations behind it; alone it is itself
unfoldable pub chained : Expr → List Link2 → Expr
chained first [] = first
chained first (link ∷ links) = E.Chain first (link ∷ links)

abbrev pub with_prefix : Prefix → Expr → Expr
with_prefix Minus part = E.Minus part
with_prefix Number part = E.Number part
with_prefix Deref part = E.Deref part
