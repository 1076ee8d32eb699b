-- The meaning of an expression, by the meanings of its parts.
use Rattle.std.proofs.Common.{◌≡◌, ℕ, ℤ, Bool, List, [], ◌∷◌, map, refl, ap, ◌∙◌}
use Rattle.kn_env.specs.Environment.{Environment, name_value}
use Rattle.kn_trees.specs.declared.program.Expr.{Expr}
use Rattle.kn_trees.specs.declared.program.Link2.{Link2}
use Rattle.kn_trees.specs.declared.program.Operation.{Operation}
use Rattle.kn_trees.specs.declared.program.Comparison.{Comparison}
use Rattle.kn_trees.specs.declared.program.Expr.TheVariants.{Truth, Whole, Text, Name, Not, Minus, Number, Deref, And}
use Rattle.kn_trees.specs.declared.program.Expr.TheVariants.{Or, Compare, Chain}
use Rattle.kn_trees.specs.declared.program.Expr.TheFolds.{fold-Link2}
use Rattle.kn_trees.proofs.Folds.{fold-Truth, fold-Whole, fold-Text, fold-Name, fold-Not, fold-Minus, fold-Number}
use Rattle.kn_trees.proofs.Folds.{fold-Deref, fold-And, fold-Or, fold-Compare, fold-Link, fold-Chain}
use Rattle.kn_cond.specs.Meaning.{Meaning, truth, whole, text, text_in_range, negation, minus, number_of, value_named}
use Rattle.kn_cond.specs.Meaning.{conjunction, disjunction, comparison, chain_of, meaning_step, link_step, meaning_of}
use Rattle.kn_cond.specs.Meaning.{links_of}

abbrev Linked : Type 0
Linked = Operation × Meaning

pub meaning_of-Truth : (e : Environment) (value : Bool) → meaning_of e (Truth value) ≡ truth value
unfolding meaning_of
meaning_of-Truth e value = fold-Truth Meaning Linked (meaning_step e) link_step value

pub meaning_of-Whole : (e : Environment) (value : ℤ) → meaning_of e (Whole value) ≡ whole value
unfolding meaning_of
meaning_of-Whole e value = fold-Whole Meaning Linked (meaning_step e) link_step value

pub meaning_of-Text : (e : Environment) (value : List ℕ) → meaning_of e (Text value) ≡ text value
unfolding meaning_of
meaning_of-Text e value = fold-Text Meaning Linked (meaning_step e) link_step value

pub meaning_of-Name : (e : Environment) (name : List ℕ) → meaning_of e (Name name) ≡ text_in_range (name_value e name)
unfolding meaning_of
meaning_of-Name e name = fold-Name Meaning Linked (meaning_step e) link_step name

pub meaning_of-Not : (e : Environment) (part : Expr) → meaning_of e (Not part) ≡ negation (meaning_of e part)
unfolding meaning_of
meaning_of-Not e part = fold-Not Meaning Linked (meaning_step e) link_step part

pub meaning_of-Minus : (e : Environment) (part : Expr) → meaning_of e (Minus part) ≡ minus (meaning_of e part)
unfolding meaning_of
meaning_of-Minus e part = fold-Minus Meaning Linked (meaning_step e) link_step part

pub meaning_of-Number : (e : Environment) (part : Expr) → meaning_of e (Number part) ≡ number_of (meaning_of e part)
unfolding meaning_of
meaning_of-Number e part = fold-Number Meaning Linked (meaning_step e) link_step part

pub meaning_of-Deref : (e : Environment) (part : Expr) → meaning_of e (Deref part) ≡ value_named e (meaning_of e part)
unfolding meaning_of
meaning_of-Deref e part = fold-Deref Meaning Linked (meaning_step e) link_step part

pub meaning_of-And : (e : Environment) (parts : List Expr)
    → meaning_of e (And parts) ≡ conjunction (map (meaning_of e) parts)
unfolding meaning_of
meaning_of-And e parts = fold-And Meaning Linked (meaning_step e) link_step parts

pub meaning_of-Or : (e : Environment) (parts : List Expr)
    → meaning_of e (Or parts) ≡ disjunction (map (meaning_of e) parts)
unfolding meaning_of
meaning_of-Or e parts = fold-Or Meaning Linked (meaning_step e) link_step parts

pub meaning_of-Compare : (e : Environment) (sign : Comparison) (left right : Expr)
    → meaning_of e (Compare sign left right) ≡ comparison sign (meaning_of e left) (meaning_of e right)
unfolding meaning_of
meaning_of-Compare e sign left right = fold-Compare Meaning Linked (meaning_step e) link_step sign left right

links_of-folds : (e : Environment) (links : List Link2)
    → map (fold-Link2 Meaning Linked (meaning_step e) link_step) links ≡ links_of e links
unfolding meaning_of
links_of-folds e [] = refl
links_of-folds e (link ∷ links) =
    let one : fold-Link2 Meaning Linked (meaning_step e) link_step link ≡ (link.sign, meaning_of e link.right) =
    fold-Link Meaning Linked (meaning_step e) link_step link in
    ap (λ l. l ∷ map (fold-Link2 Meaning Linked (meaning_step e) link_step) links) one
    ∙ ap (λ others. (link.sign, meaning_of e link.right) ∷ others) (links_of-folds e links)

pub meaning_of-Chain : (e : Environment) (first : Expr) (links : List Link2)
    → meaning_of e (Chain first links) ≡ chain_of (meaning_of e first) (links_of e links)
unfolding meaning_of
meaning_of-Chain e first links = fold-Chain Meaning Linked (meaning_step e) link_step first links
    ∙ ap (chain_of (meaning_of e first)) (links_of-folds e links)

pub ruleset meanings = (
  meaning_of-Truth,
  meaning_of-Whole,
  meaning_of-Text,
  meaning_of-Name,
  meaning_of-Not,
  meaning_of-Minus,
  meaning_of-Number,
  meaning_of-Deref,
  meaning_of-And,
  meaning_of-Or,
  meaning_of-Compare,
  meaning_of-Chain,
)
