-- The kinds of expressions (keynoted's own statement of the typing that RFC 2704, section 4, asks of conditions),
-- apart from programs, since `FlatExpr` cites them.
use Rattle.std.specs.Prelude.{Option, Some, None, Bool, true, false, List, [], ◌∷◌, if◌then◌else◌, ◌&&◌}
use Rattle.std.specs.List.{list_all}
use Rattle.kn_trees.specs.declared.kinds.Kind.{Kind}
use Rattle.kn_trees.specs.declared.kinds.Kind.TheVariants as K
use Rattle.kn_trees.specs.declared.program.Operation.{Operation}
use Rattle.kn_trees.specs.declared.program.Operation.TheVariants.{Join}
use Rattle.kn_trees.specs.declared.program.Expr.{Expr}
use Rattle.kn_trees.specs.declared.program.Expr.TheOpen.{Expr-F, Link2-F}
use Rattle.kn_trees.specs.declared.program.Expr.TheOpen.Expr-F.{Truth, Whole, Text, Name, Not, Minus, Number, Deref}
use Rattle.kn_trees.specs.declared.program.Expr.TheOpen.Expr-F.{And, Or, Compare, Chain}
use Rattle.kn_trees.specs.declared.program.Expr.TheFolds.{fold-Expr}

abbrev pub is_truth : Option Kind → Bool
is_truth (Some K.Truth) = true
is_truth kind = false

abbrev pub is_whole : Option Kind → Bool
is_whole (Some K.Whole) = true
is_whole kind = false

abbrev pub is_text : Option Kind → Bool
is_text (Some K.Text) = true
is_text kind = false

-- both sides of a comparison are whole, or both are texts
abbrev pub are_compared : Option Kind → Option Kind → Bool
are_compared left right = if is_whole left then is_whole right else is_text left && is_text right

-- an operand that is as it must be gives this kind
abbrev pub gives : Bool → Kind → Option Kind
gives right kind = if right then Some kind else None

-- `.` joins texts, and the other operations are on whole numbers
abbrev pub operation_kind : Operation → Option Kind → Option Kind → Option Kind
operation_kind Join left right = gives (is_text left && is_text right) K.Text
operation_kind sign left right = gives (is_whole left && is_whole right) K.Whole

-- a chain groups to the left
abbrev pub chain_kind : Option Kind → List (Operation × Option Kind) → Option Kind
chain_kind first [] = first
chain_kind first (link ∷ links) = chain_kind (operation_kind link.0 first link.1) links

-- the kind of an expression whose parts have these
abbrev pub kind_step : Expr-F (Option Kind) (Operation × Option Kind) → Option Kind
kind_step (Truth value) = Some K.Truth
kind_step (Whole value) = Some K.Whole
kind_step (Text value) = Some K.Text
kind_step (Name name) = Some K.Text
kind_step (Not part) = gives (is_truth part) K.Truth
kind_step (Minus part) = gives (is_whole part) K.Whole
kind_step (Number part) = gives (is_text part) K.Whole
kind_step (Deref part) = gives (is_text part) K.Text
kind_step (And parts) = gives (list_all is_truth parts) K.Truth
kind_step (Or parts) = gives (list_all is_truth parts) K.Truth
kind_step (Compare sign left right) = gives (are_compared left right) K.Truth
kind_step (Chain first links) = chain_kind first links

abbrev pub link_step : Link2-F (Option Kind) (Operation × Option Kind) → Operation × Option Kind
link_step link = (link.sign, link.right)

-- the kind of an expression, or none
unfoldable pub kind_of : Expr → Option Kind
kind_of = fold-Expr (Option Kind) (Operation × Option Kind) kind_step link_step
