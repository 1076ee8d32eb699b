-- The kind of an expression, and whether a program is well kinded, by their parts.
use Rattle.std.proofs.Common.{◌≡◌, ℕ, ℤ, Bool, true, ◌&&◌, List, [], ◌∷◌, map, Option, Some, refl, ap, ◌∙◌}
use Rattle.std.specs.List.{list_all}
use Rattle.kn_trees.specs.declared.kinds.Kind.{Kind}
use Rattle.kn_trees.specs.declared.kinds.Kind.TheVariants as K
use Rattle.kn_trees.specs.declared.program.Expr.{Expr}
use Rattle.kn_trees.specs.declared.program.Link2.{Link2}
use Rattle.kn_trees.specs.declared.program.Operation.{Operation}
use Rattle.kn_trees.specs.declared.program.Comparison.{Comparison}
use Rattle.kn_trees.specs.declared.program.Expr.TheVariants.{Truth, Whole, Text, Name, Not, Minus, Number, Deref, And}
use Rattle.kn_trees.specs.declared.program.Expr.TheVariants.{Or, Compare, Chain}
use Rattle.kn_trees.specs.declared.program.Expr.TheFolds.{fold-Link2}
use Rattle.kn_trees.specs.declared.program.Program.{Program, out-Program}
use Rattle.kn_trees.specs.declared.program.Clause.{Clause}
use Rattle.kn_trees.specs.declared.program.Then.TheVariants.{Top, Value, Block}
use Rattle.kn_trees.specs.declared.signs.Joint.{Joint}
use Rattle.kn_trees.specs.declared.signs.Joint.TheVariants as J
use Rattle.kn_trees.specs.declared.signs.Leaf.{Leaf}
use Rattle.kn_trees.specs.declared.signs.Leaf.TheVariants as L
use Rattle.kn_trees.specs.Signs.{join_expressions, leaf_of}
use Rattle.kn_trees.specs.ExprKinds.{is_truth, is_whole, is_text, are_compared, gives, chain_kind, kind_step, link_step}
use Rattle.kn_trees.specs.ExprKinds.{kind_of}
use Rattle.kn_trees.specs.Kinds.{program_step, clause_step, then_step, is_well_kinded, is_clause_well_kinded}
use Rattle.kn_trees.specs.Kinds.{is_then_well_kinded}
use Rattle.kn_trees.proofs.Folds.{fold-Truth, fold-Whole, fold-Text, fold-Name, fold-Not, fold-Minus, fold-Number}
use Rattle.kn_trees.proofs.Folds.{fold-Deref, fold-And, fold-Or, fold-Compare, fold-Link, fold-Chain, fold-Top}
use Rattle.kn_trees.proofs.Folds.{fold-Value, fold-Block, fold-one_clause, fold-whole_program}

abbrev Found : Type 0
Found = Option Kind

abbrev Linked : Type 0
Linked = Operation × Option Kind

pub kind_of-Truth : (value : Bool) → kind_of (Truth value) ≡ Some K.Truth
unfolding kind_of
kind_of-Truth value = fold-Truth Found Linked kind_step link_step value

pub kind_of-Whole : (value : ℤ) → kind_of (Whole value) ≡ Some K.Whole
unfolding kind_of
kind_of-Whole value = fold-Whole Found Linked kind_step link_step value

pub kind_of-Text : (value : List ℕ) → kind_of (Text value) ≡ Some K.Text
unfolding kind_of
kind_of-Text value = fold-Text Found Linked kind_step link_step value

pub kind_of-Name : (name : List ℕ) → kind_of (Name name) ≡ Some K.Text
unfolding kind_of
kind_of-Name name = fold-Name Found Linked kind_step link_step name

pub kind_of-Not : (part : Expr) → kind_of (Not part) ≡ gives (is_truth (kind_of part)) K.Truth
unfolding kind_of
kind_of-Not part = fold-Not Found Linked kind_step link_step part

pub kind_of-Minus : (part : Expr) → kind_of (Minus part) ≡ gives (is_whole (kind_of part)) K.Whole
unfolding kind_of
kind_of-Minus part = fold-Minus Found Linked kind_step link_step part

pub kind_of-Number : (part : Expr) → kind_of (Number part) ≡ gives (is_text (kind_of part)) K.Whole
unfolding kind_of
kind_of-Number part = fold-Number Found Linked kind_step link_step part

pub kind_of-Deref : (part : Expr) → kind_of (Deref part) ≡ gives (is_text (kind_of part)) K.Text
unfolding kind_of
kind_of-Deref part = fold-Deref Found Linked kind_step link_step part

pub kind_of-And : (parts : List Expr) → kind_of (And parts) ≡ gives (list_all is_truth (map kind_of parts)) K.Truth
unfolding kind_of
kind_of-And parts = fold-And Found Linked kind_step link_step parts

pub kind_of-Or : (parts : List Expr) → kind_of (Or parts) ≡ gives (list_all is_truth (map kind_of parts)) K.Truth
unfolding kind_of
kind_of-Or parts = fold-Or Found Linked kind_step link_step parts

pub kind_of-joined : (joint : Joint) (parts : List Expr)
    → kind_of (join_expressions joint parts) ≡ gives (list_all is_truth (map kind_of parts)) K.Truth
kind_of-joined J.And parts = kind_of-And parts
kind_of-joined J.Or parts = kind_of-Or parts

pub kind_of-leaf : (leaf : Leaf) (bytes : List ℕ) → kind_of (leaf_of leaf bytes) ≡ Some K.Text
kind_of-leaf L.Text bytes = kind_of-Text bytes
kind_of-leaf L.Name bytes = kind_of-Name bytes

pub kind_of-Compare : (sign : Comparison) (left right : Expr)
    → kind_of (Compare sign left right) ≡ gives (are_compared (kind_of left) (kind_of right)) K.Truth
unfolding kind_of
kind_of-Compare sign left right = fold-Compare Found Linked kind_step link_step sign left right

-- the signs of links, with the kinds of their right sides
abbrev pub kinds_of : List Link2 → List Linked
kinds_of links = map (λ link. (link.sign, kind_of link.right)) links

kinds_of-links : (links : List Link2) → map (fold-Link2 Found Linked kind_step link_step) links ≡ kinds_of links
unfolding kind_of
kinds_of-links [] = refl
kinds_of-links (link ∷ links) =
    let one : fold-Link2 Found Linked kind_step link_step link ≡ (link.sign, kind_of link.right) =
    fold-Link Found Linked kind_step link_step link in
    ap (λ l. l ∷ map (fold-Link2 Found Linked kind_step link_step) links) one
    ∙ ap (λ ls. (link.sign, kind_of link.right) ∷ ls) (kinds_of-links links)

pub kind_of-Chain : (first : Expr) (links : List Link2)
    → kind_of (Chain first links) ≡ chain_kind (kind_of first) (kinds_of links)
unfolding kind_of
kind_of-Chain first links = fold-Chain Found Linked kind_step link_step first links
    ∙ ap (chain_kind (kind_of first)) (kinds_of-links links)

pub is_then_well_kinded-Top : is_then_well_kinded Top ≡ true
unfolding is_then_well_kinded
is_then_well_kinded-Top = fold-Top Bool Bool Bool then_step clause_step program_step

pub is_then_well_kinded-Value : (value : Expr) → is_then_well_kinded (Value value) ≡ is_text (kind_of value)
unfolding is_then_well_kinded
is_then_well_kinded-Value value = fold-Value Bool Bool Bool then_step clause_step program_step value

pub is_then_well_kinded-Block : (block : Program) → is_then_well_kinded (Block block) ≡ is_well_kinded block
unfolding is_then_well_kinded is_well_kinded
is_then_well_kinded-Block block = fold-Block Bool Bool Bool then_step clause_step program_step block

pub is_clause_well_kinded-parts : (clause : Clause)
    → is_clause_well_kinded clause ≡ (is_truth (kind_of clause.test) && is_then_well_kinded clause.then)
unfolding is_then_well_kinded is_clause_well_kinded
is_clause_well_kinded-parts clause = fold-one_clause Bool Bool Bool then_step clause_step program_step clause

all_are : (clauses : List Clause) → list_all (λ right. right) (map is_clause_well_kinded clauses)
    ≡ list_all is_clause_well_kinded clauses
all_are [] = refl
all_are (clause ∷ clauses) = ap (λ b. is_clause_well_kinded clause && b) (all_are clauses)

pub is_well_kinded-clauses : (program : Program)
    → is_well_kinded program ≡ list_all is_clause_well_kinded (out-Program program).clauses
unfolding is_well_kinded is_clause_well_kinded
is_well_kinded-clauses program = fold-whole_program Bool Bool Bool then_step clause_step program_step program
    ∙ all_are (out-Program program).clauses

pub ruleset kinds = (
  kind_of-Truth,
  kind_of-Whole,
  kind_of-Text,
  kind_of-Name,
  kind_of-Not,
  kind_of-Minus,
  kind_of-Number,
  kind_of-Deref,
  kind_of-And,
  kind_of-Or,
  kind_of-Compare,
  kind_of-Chain,
)

pub ruleset well_kinded = (
  is_then_well_kinded-Top,
  is_then_well_kinded-Value,
  is_then_well_kinded-Block,
  is_clause_well_kinded-parts,
  is_well_kinded-clauses,
)
