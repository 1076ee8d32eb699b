-- How many levels an expression or a program has, by its parts.
use Rattle.std.proofs.Common.{◌≡◌, ℕ, ℤ, ◌+◌, max, Bool, List, [], ◌∷◌, map, refl, ap, ◌∙◌}
use Rattle.kn_trees.specs.Formulas.{greatest_of}
use Rattle.kn_trees.specs.Depths.{expr_depth_step, link_depth_step, expr_depth, program_depth_step, clause_depth_step}
use Rattle.kn_trees.specs.Depths.{then_depth_step}
use Rattle.kn_trees.specs.Depths.{program_depth, clause_depth, then_depth}
use Rattle.kn_trees.specs.declared.program.Expr.{Expr}
use Rattle.kn_trees.specs.declared.program.Link2.{Link2}
use Rattle.kn_trees.specs.declared.program.Comparison.{Comparison}
use Rattle.kn_trees.specs.declared.program.Expr.TheVariants.{Truth, Whole, Text, Name, Not, Minus, Number, Deref, And}
use Rattle.kn_trees.specs.declared.program.Expr.TheVariants.{Or, Compare, Chain}
use Rattle.kn_trees.specs.declared.program.Expr.TheFolds.{fold-Link2}
use Rattle.kn_trees.specs.declared.program.Program.{Program, roll-Program}
use Rattle.kn_trees.specs.declared.program.Then.TheFolds.{fold-roll-Program}
use Rattle.kn_trees.specs.declared.program.Clause.{Clause}
use Rattle.kn_trees.specs.declared.program.Then.TheVariants.{Top, Value, Block}
use Rattle.kn_trees.proofs.Folds.{fold-Truth, fold-Whole, fold-Text, fold-Name, fold-Not, fold-Minus, fold-Number}
use Rattle.kn_trees.proofs.Folds.{fold-Deref, fold-And, fold-Or, fold-Compare, fold-Link, fold-Chain, fold-Top}
use Rattle.kn_trees.proofs.Folds.{fold-Value, fold-Block, fold-one_clause}

pub depth-Truth : (value : Bool) → expr_depth (Truth value) ≡ 1
unfolding expr_depth
depth-Truth value = fold-Truth ℕ ℕ expr_depth_step link_depth_step value

pub depth-Whole : (value : ℤ) → expr_depth (Whole value) ≡ 1
unfolding expr_depth
depth-Whole value = fold-Whole ℕ ℕ expr_depth_step link_depth_step value

pub depth-Text : (value : List ℕ) → expr_depth (Text value) ≡ 1
unfolding expr_depth
depth-Text value = fold-Text ℕ ℕ expr_depth_step link_depth_step value

pub depth-Name : (name : List ℕ) → expr_depth (Name name) ≡ 1
unfolding expr_depth
depth-Name name = fold-Name ℕ ℕ expr_depth_step link_depth_step name

pub depth-Not : (part : Expr) → expr_depth (Not part) ≡ 1 + expr_depth part
unfolding expr_depth
depth-Not part = fold-Not ℕ ℕ expr_depth_step link_depth_step part

pub depth-Minus : (part : Expr) → expr_depth (Minus part) ≡ 1 + expr_depth part
unfolding expr_depth
depth-Minus part = fold-Minus ℕ ℕ expr_depth_step link_depth_step part

pub depth-Number : (part : Expr) → expr_depth (Number part) ≡ 1 + expr_depth part
unfolding expr_depth
depth-Number part = fold-Number ℕ ℕ expr_depth_step link_depth_step part

pub depth-Deref : (part : Expr) → expr_depth (Deref part) ≡ 1 + expr_depth part
unfolding expr_depth
depth-Deref part = fold-Deref ℕ ℕ expr_depth_step link_depth_step part

pub depth-And : (parts : List Expr) → expr_depth (And parts) ≡ 1 + greatest_of (map expr_depth parts)
unfolding expr_depth
depth-And parts = fold-And ℕ ℕ expr_depth_step link_depth_step parts

pub depth-Or : (parts : List Expr) → expr_depth (Or parts) ≡ 1 + greatest_of (map expr_depth parts)
unfolding expr_depth
depth-Or parts = fold-Or ℕ ℕ expr_depth_step link_depth_step parts

pub depth-Compare : (sign : Comparison) (left right : Expr)
    → expr_depth (Compare sign left right) ≡ 1 + max (expr_depth left) (expr_depth right)
unfolding expr_depth
depth-Compare sign left right = fold-Compare ℕ ℕ expr_depth_step link_depth_step sign left right

-- the levels of links
abbrev pub link_depths : List Link2 → List ℕ
link_depths links = map (λ link. 1 + expr_depth link.right) links

links_are : (links : List Link2) → map (fold-Link2 ℕ ℕ expr_depth_step link_depth_step) links ≡ link_depths links
unfolding expr_depth
links_are [] = refl
links_are (link ∷ links) =
    let one : fold-Link2 ℕ ℕ expr_depth_step link_depth_step link ≡ 1 + expr_depth link.right =
    fold-Link ℕ ℕ expr_depth_step link_depth_step link in
    ap (λ n. n ∷ map (fold-Link2 ℕ ℕ expr_depth_step link_depth_step) links) one
    ∙ ap (λ ns. (1 + expr_depth link.right) ∷ ns) (links_are links)

pub depth-Chain : (first : Expr) (links : List Link2)
    → expr_depth (Chain first links) ≡ 1 + max (expr_depth first) (greatest_of (link_depths links))
unfolding expr_depth
depth-Chain first links =
    fold-Chain ℕ ℕ expr_depth_step link_depth_step first links
    ∙ ap (λ ns. 1 + max (expr_depth first) (greatest_of ns)) (links_are links)

pub depth-Top : then_depth Top ≡ 1
unfolding then_depth
depth-Top = fold-Top ℕ ℕ ℕ then_depth_step clause_depth_step program_depth_step

pub depth-Value : (value : Expr) → then_depth (Value value) ≡ 1 + expr_depth value
unfolding then_depth
depth-Value value = fold-Value ℕ ℕ ℕ then_depth_step clause_depth_step program_depth_step value

pub depth-Block : (block : Program) → then_depth (Block block) ≡ 1 + program_depth block
unfolding then_depth program_depth
depth-Block block = fold-Block ℕ ℕ ℕ then_depth_step clause_depth_step program_depth_step block

pub depth-clause : (clause : Clause) → clause_depth clause ≡ 1 + max (expr_depth clause.test) (then_depth clause.then)
unfolding then_depth clause_depth
depth-clause clause = fold-one_clause ℕ ℕ ℕ then_depth_step clause_depth_step program_depth_step clause

pub depth-program : (clauses : List Clause) → program_depth (roll-Program (record { clauses = clauses })) ≡ 1
    + greatest_of (map clause_depth clauses)
unfolding program_depth clause_depth
depth-program clauses =
    fold-roll-Program ℕ ℕ ℕ then_depth_step clause_depth_step program_depth_step (record { clauses = clauses })
