-- Whether an expression or a program joins texts, by its parts.
use Rattle.std.proofs.Common.{◌≡◌, Bool, true, false, ◌||◌, List, [], ◌∷◌, map, refl, ap, ◌∙◌}
use Rattle.std.specs.List.{list_any}
use Rattle.kn_trees.specs.declared.program.Expr.{Expr}
use Rattle.kn_trees.specs.declared.program.Link2.{Link2}
use Rattle.kn_trees.specs.declared.program.Comparison.{Comparison}
use Rattle.kn_trees.specs.declared.program.Expr.TheVariants.{Not, Minus, Number, Deref, And, Or, Compare, Chain}
use Rattle.kn_trees.specs.declared.program.Expr.TheFolds.{fold-Link2}
use Rattle.kn_trees.specs.declared.program.Program.{Program, out-Program}
use Rattle.kn_trees.specs.declared.program.Clause.{Clause}
use Rattle.kn_trees.specs.declared.program.Then.TheVariants.{Value, Block}
use Rattle.kn_trees.proofs.Folds.{fold-Not, fold-Minus, fold-Number, fold-Deref, fold-And, fold-Or, fold-Compare}
use Rattle.kn_trees.proofs.Folds.{fold-Link, fold-Chain, fold-Value, fold-Block, fold-one_clause, fold-whole_program}
use Rattle.kn_cond.specs.Joining.{itself, joins_step, link_joins_step, joins, link_joins, then_joins_step}
use Rattle.kn_cond.specs.Joining.{clause_joins_step, program_joins_step, program_joins, clause_joins, then_joins}

any_mapped : {X : Type 0} (f : X → Bool) (xs : List X) → list_any itself (map f xs) ≡ list_any f xs
any_mapped f [] = refl
any_mapped f (x ∷ xs) = ap (λ b. f x || b) (any_mapped f xs)

pub joins-Not : (part : Expr) → joins (Not part) ≡ joins part
unfolding joins
joins-Not part = fold-Not Bool Bool joins_step link_joins_step part

pub joins-Minus : (part : Expr) → joins (Minus part) ≡ joins part
unfolding joins
joins-Minus part = fold-Minus Bool Bool joins_step link_joins_step part

pub joins-Number : (part : Expr) → joins (Number part) ≡ joins part
unfolding joins
joins-Number part = fold-Number Bool Bool joins_step link_joins_step part

pub joins-Deref : (part : Expr) → joins (Deref part) ≡ joins part
unfolding joins
joins-Deref part = fold-Deref Bool Bool joins_step link_joins_step part

pub joins-And : (parts : List Expr) → joins (And parts) ≡ list_any joins parts
unfolding joins
joins-And parts = fold-And Bool Bool joins_step link_joins_step parts ∙ any_mapped joins parts

pub joins-Or : (parts : List Expr) → joins (Or parts) ≡ list_any joins parts
unfolding joins
joins-Or parts = fold-Or Bool Bool joins_step link_joins_step parts ∙ any_mapped joins parts

pub joins-Compare : (sign : Comparison) (left right : Expr)
    → joins (Compare sign left right) ≡ (joins left || joins right)
unfolding joins
joins-Compare sign left right = fold-Compare Bool Bool joins_step link_joins_step sign left right

links_join : (links : List Link2) → list_any itself (map (fold-Link2 Bool Bool joins_step link_joins_step) links)
    ≡ list_any link_joins links
unfolding joins
links_join [] = refl
links_join (link ∷ links) =
    ap (λ b. b || list_any itself (map (fold-Link2 Bool Bool joins_step link_joins_step) links))
    (fold-Link Bool Bool joins_step link_joins_step link)
    ∙ ap (λ b. link_joins link || b) (links_join links)

pub joins-Chain : (first : Expr) (links : List Link2)
    → joins (Chain first links) ≡ (joins first || list_any link_joins links)
unfolding joins
joins-Chain first links = fold-Chain Bool Bool joins_step link_joins_step first links
    ∙ ap (λ b. joins first || b) (links_join links)

pub then_joins-Value : (value : Expr) → then_joins (Value value) ≡ joins value
unfolding then_joins
then_joins-Value value = fold-Value Bool Bool Bool then_joins_step clause_joins_step program_joins_step value

pub then_joins-Block : (block : Program) → then_joins (Block block) ≡ program_joins block
unfolding then_joins program_joins
then_joins-Block block = fold-Block Bool Bool Bool then_joins_step clause_joins_step program_joins_step block

pub clause_joins-parts : (clause : Clause) → clause_joins clause ≡ (joins clause.test || then_joins clause.then)
unfolding then_joins clause_joins
clause_joins-parts clause = fold-one_clause Bool Bool Bool then_joins_step clause_joins_step program_joins_step clause

pub program_joins-clauses : (program : Program)
    → program_joins program ≡ list_any clause_joins (out-Program program).clauses
unfolding clause_joins program_joins
program_joins-clauses program =
    fold-whole_program Bool Bool Bool then_joins_step clause_joins_step program_joins_step program
    ∙ any_mapped clause_joins (out-Program program).clauses

pub or_right : (a b : Bool) → b ≡ true → (a || b) ≡ true
or_right true b e = refl
or_right false b e = e

pub or_third : (a b c : Bool) → c ≡ true → ((a || b) || c) ≡ true
or_third a b c e = or_right (a || b) c e

pub ruleset joined = (
  joins-Not,
  joins-Minus,
  joins-Number,
  joins-Deref,
  joins-And,
  joins-Or,
  joins-Compare,
  joins-Chain,
  then_joins-Value,
  then_joins-Block,
  clause_joins-parts,
  program_joins-clauses,
  or_right,
  or_third,
)
