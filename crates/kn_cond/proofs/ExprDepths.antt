-- The parts of an expression have fewer levels than the expression, and what is left of a list from a place on.
use Rattle.std.proofs.Common.{◌≡◌, ℕ, zero, suc, ◌+◌, ◌<◌, ◌≤◌, List, [], ◌∷◌, map, drop, Some, ap, ◌∙◌, arith}
use Rattle.std.proofs.lemmas.List.{drop_more}
use Rattle.std.proofs.lemmas.Option.{slice_get_within, get_or_from_slice_get}
use Rattle.std.specs.List.{slice_get}
use Rattle.kn_trees.specs.Forms.{link}
use Rattle.kn_trees.specs.Formulas.{greatest_of}
use Rattle.kn_trees.specs.Depths.{expr_depth}
use Rattle.kn_trees.specs.declared.program.Expr.{Expr}
use Rattle.kn_trees.specs.declared.program.Link2.{Link2}
use Rattle.kn_trees.specs.declared.program.Operation.{Operation}
use Rattle.kn_cond.proofs.JoinLaws.{or_right}
use Rattle.kn_trees.proofs.ExprDepthLaws.{link_depths, depth-Not, depth-Minus, depth-Number, depth-Deref, depth-And}
use Rattle.kn_trees.proofs.ExprDepthLaws.{depth-Or}
use Rattle.kn_trees.proofs.ExprDepthLaws.{depth-Compare, depth-Chain}

at_most_greatest : {X : Type 0} (f : X → ℕ) (xs : List X) (k : ℕ) (x : X) → slice_get xs k ≡ Some x
    → f x ≤ greatest_of (map f xs)
at_most_greatest f [] k x e = cc
at_most_greatest f (y ∷ ys) zero x e = let same : y ≡ x = cc in omega (arith, ap f same)
at_most_greatest f (y ∷ ys) (suc k) x e = omega (arith, at_most_greatest f ys k x e)

-- a part that stands among others is at most as deep as the deepest
pub part_depth : (parts : List Expr) (k : ℕ) (part : Expr) → slice_get parts k ≡ Some part
    → expr_depth part ≤ greatest_of (map expr_depth parts)
part_depth parts k part e = at_most_greatest expr_depth parts k part e

-- the right side of a link is less deep than the deepest link
pub right_depth : (links : List Link2) (k : ℕ) (sign : Operation) (right : Expr)
    → slice_get links k ≡ Some (link sign right)
    → expr_depth right < greatest_of (link_depths links)
right_depth links k sign right e =
    omega (arith, at_most_greatest (λ (l : Link2). 1 + expr_depth l.right) links k (link sign right) e)

-- what is left of a list from a place on begins with what stands there
pub drop_here : {X : Type 0} (xs : List X) (k : ℕ) (x : X) → slice_get xs k ≡ Some x → drop k xs ≡ x ∷ drop (k + 1) xs
drop_here xs k x e = drop_more xs k x (slice_get_within xs k x e)
    ∙ ap (λ y. y ∷ drop (k + 1) xs) (get_or_from_slice_get xs k x x e)

pub ruleset depths =
    (depth-Not, depth-Minus, depth-Number, depth-Deref, depth-And, depth-Or, depth-Compare, depth-Chain)

-- what a walk over parts, and over links, goes by
pub ruleset part_steps = (part_depth, drop_here, or_right)

pub ruleset link_steps = (right_depth, drop_here, or_right)
