-- What an expression is made of, and links by their signs and right sides.
use Rattle.std.specs.Prelude.{List, map, zip}
use Rattle.kn_trees.specs.declared.program.Operation.{Operation}
use Rattle.kn_trees.specs.declared.program.Link2.{Link2}
use Rattle.kn_trees.specs.declared.program.Expr.{Expr}
use Rattle.kn_trees.specs.declared.program.Expr.TheVariants as E
use Rattle.kn_trees.specs.declared.form.Form.{Form}
use Rattle.kn_trees.specs.declared.form.Form.TheVariants.{Truth, Whole, Text, Name, Not, Minus, Number, Deref, And, Or}
use Rattle.kn_trees.specs.declared.form.Form.TheVariants.{Compare, Chain}

-- the expression that is made of this
abbrev pub expr_of : Form → Expr
expr_of (Truth value) = E.Truth value
expr_of (Whole value) = E.Whole value
expr_of (Text value) = E.Text value.now
expr_of (Name name) = E.Name name.now
expr_of (Not part) = E.Not part
expr_of (Minus part) = E.Minus part
expr_of (Number part) = E.Number part
expr_of (Deref part) = E.Deref part
expr_of (And parts) = E.And parts
expr_of (Or parts) = E.Or parts
expr_of (Compare sign left right) = E.Compare sign left right
expr_of (Chain first rest) = E.Chain first rest

abbrev pub link : Operation → Expr → Link2
link sign right = record { sign = sign; right = right }

-- these signs with these right sides
abbrev pub links_of : List Operation → List Expr → List Link2
links_of signs rights = map (λ pair. link pair.0 pair.1) (zip signs rights)
