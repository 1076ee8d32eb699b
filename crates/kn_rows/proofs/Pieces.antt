-- How many pieces formulas are, and how many of these are principals.
use Rattle.std.proofs.Common.{◌≡◌, ◌∙◌, ◌+◌, ◌≤◌, ℕ, zero, suc, List, [], ◌∷◌, ◌++◌, length, map, flat_map, take}
use Rattle.std.proofs.Common.{Option, Some, None, refl, sym, ap, subst, arith}
use Rattle.std.proofs.lemmas.List.{length-append}
use Rattle.std.proofs.lemmas.List.Sums.{sum_by-cons}
use Rattle.kn_trees.specs.declared.formula.Formula.{Formula}
use Rattle.kn_trees.specs.declared.formula.Formula.TheVariants.{rolls-Who, rolls-All, rolls-Any, rolls-Threshold}
use Rattle.kn_trees.specs.declared.formula.Formula.TheViews.{roll-Formula}
use Rattle.kn_trees.specs.declared.formula.Formula.TheOpen.{Formula-F}
use Rattle.kn_trees.specs.declared.formula.Formula.TheOpen.Formula-F.{Who, All, Any, Threshold}
use Rattle.kn_trees.specs.declared.formula.Formula.TheFolds.{map-Formula, ind-Formula}
use Rattle.kn_trees.specs.Formulas.{total, formula_nodes}
use Rattle.kn_env.specs.Environment.{Asked}
use Rattle.kn_meaning.specs.Critical.{equation_nodes, licensees_nodes}
use Rattle.kn_meaning.specs.Equations.{Part, Statement, equations_over, statement_of}
use Rattle.kn_meaning.specs.Occurring.{licensees_names, formula_names}
use Rattle.kn_system.specs.declared.rows.Piece.{Piece}
use Rattle.kn_system.specs.declared.rows.Piece.TheVariants as P
use Rattle.kn_system.specs.Rows.{SystemRow}
use Rattle.kn_system.specs.Form.{leaf_count}
use Rattle.kn_system.specs.Equations.{node_total}
use Rattle.kn_rows.specs.Numbering.{NamedPiece, Leaf, Gate, formula_pieces, licensees_pieces, ArePiecesOf}
use Rattle.kn_rows.specs.BaseRows.{AreBaseRows}
use Rattle.kn_rows.proofs.FormulaFolds.{formula_nodes-Who, formula_names-Who, formula_pieces-Who, IsGate, IsGate-All}
use Rattle.kn_rows.proofs.FormulaFolds.{IsGate-Any, IsGate-Threshold}

-- how many principals stand in pieces
abbrev pub leaves : List NamedPiece → ℕ
leaves [] = 0
leaves (Leaf name ∷ pieces) = suc (leaves pieces)
leaves (Gate need count ∷ pieces) = leaves pieces

leaves-append : (xs ys : List NamedPiece) → leaves (xs ++ ys) ≡ leaves xs + leaves ys
leaves-append [] ys = omega arith
leaves-append (Leaf name ∷ xs) ys = let rest = leaves-append xs ys in omega (arith, rest)
leaves-append (Gate need count ∷ xs) ys = leaves-append xs ys

-- pieces are as many as nodes, and those of principals as many as names
record HasPieces (formula : Formula) : Type 0 where
  nodes : length (formula_pieces formula) ≡ formula_nodes formula
  uses : leaves (formula_pieces formula) ≡ length (formula_names formula)

abbrev Parts : Type 0
Parts = List ((part : Formula) × HasPieces part)

abbrev formulas_of : Parts → List Formula
formulas_of parts = map (λ e. e.0) parts

nodes-parts : (parts : Parts)
    → length (flat_map formula_pieces (formulas_of parts)) ≡ total (map formula_nodes (formulas_of parts))
nodes-parts [] = refl
nodes-parts (e ∷ parts) =
    let both : length (formula_pieces e.0 ++ flat_map formula_pieces (formulas_of parts)) ≡ length (formula_pieces e.0)
    + length (flat_map formula_pieces (formulas_of parts)) = length-append _ _ in
    let first = e.1.nodes in
    let rest = nodes-parts parts in
    omega (arith, both, first, rest)

uses-parts : (parts : Parts)
    → leaves (flat_map formula_pieces (formulas_of parts)) ≡ length (flat_map formula_names (formulas_of parts))
uses-parts [] = refl
uses-parts (e ∷ parts) =
    let pieces = leaves-append (formula_pieces e.0) (flat_map formula_pieces (formulas_of parts)) in
    let names : length (formula_names e.0 ++ flat_map formula_names (formulas_of parts)) ≡ length (formula_names e.0)
    + length (flat_map formula_names (formulas_of parts)) = length-append _ _ in
    let first = e.1.uses in
    let rest = uses-parts parts in
    omega (arith, pieces, names, first, rest)

gate-pieces : (need : ℕ) (parts : Parts) (formula : Formula) → IsGate need (formulas_of parts) formula
    → HasPieces formula
gate-pieces need parts formula gate = record {
  nodes =
      let pieces : length (formula_pieces formula) ≡ suc (length (flat_map formula_pieces (formulas_of parts))) =
      ap length gate.pieces in
      let all = nodes-parts parts in
      let nodes = gate.nodes in
      omega (arith, pieces, all, nodes);
  uses = ap leaves gate.pieces ∙ uses-parts parts ∙ sym (ap length gate.names);
}

who-pieces : (name : List ℕ) → HasPieces (roll-Formula (Who name))
who-pieces name = subst HasPieces (sym (rolls-Who name)) (record {
  nodes = ap length (formula_pieces-Who name) ∙ sym (formula_nodes-Who name);
  uses = ap leaves (formula_pieces-Who name) ∙ sym (ap length (formula_names-Who name));
})

layer : (y : Formula-F ((part : Formula) × HasPieces part))
    → HasPieces (roll-Formula (map-Formula ((part : Formula) × HasPieces part) Formula (λ e. e.0) y))
layer (Who name) = who-pieces name
layer (All parts) =
    subst HasPieces (sym (rolls-All (formulas_of parts))) (gate-pieces _ parts _ (IsGate-All (formulas_of parts)))
layer (Any parts) =
    subst HasPieces (sym (rolls-Any (formulas_of parts))) (gate-pieces _ parts _ (IsGate-Any (formulas_of parts)))
layer (Threshold need parts) =
    subst HasPieces (sym (rolls-Threshold need (formulas_of parts)))
    (gate-pieces _ parts _ (IsGate-Threshold need (formulas_of parts)))

formula-pieces : (formula : Formula) → HasPieces formula
formula-pieces = ind-Formula HasPieces (λ x y is. subst (λ z. HasPieces (roll-Formula z)) is (layer y))

-- so it is of a Licensees field
pub licensees-nodes : (licensees : Option Formula) → length (licensees_pieces licensees) ≡ licensees_nodes licensees
licensees-nodes None = refl
licensees-nodes (Some formula) = (formula-pieces formula).nodes

pub licensees-uses : (licensees : Option Formula)
    → leaves (licensees_pieces licensees) ≡ length (licensees_names licensees)
licensees-uses None = refl
licensees-uses (Some formula) = (formula-pieces formula).uses

-- and of the pieces over numbers
pub same-nodes : (names : List (List ℕ)) (named : List NamedPiece) (pieces : List Piece)
    → ArePiecesOf names named pieces → length pieces ≡ length named
same-nodes names [] [] are = refl
same-nodes names [] (piece ∷ pieces) are = absurd are
same-nodes names (n ∷ named) [] are = absurd are
same-nodes names (n ∷ named) (piece ∷ pieces) are = ap suc (same-nodes names named pieces are.1)

pub same-uses : (names : List (List ℕ)) (named : List NamedPiece) (pieces : List Piece) → ArePiecesOf names named pieces
    → leaf_count pieces ≡ leaves named
same-uses names [] [] are = refl
same-uses names [] (piece ∷ pieces) are = absurd are
same-uses names (n ∷ named) [] are = absurd are
same-uses names (Leaf name ∷ named) (P.Who p ∷ pieces) are = ap suc (same-uses names named pieces are.1)
same-uses names (Leaf name ∷ named) (P.Gate need count ∷ pieces) are = absurd are.0
same-uses names (Gate need count ∷ named) (P.Who p ∷ pieces) are = absurd are.0
same-uses names (Gate need count ∷ named) (P.Gate k n ∷ pieces) are = same-uses names named pieces are.1

-- the rows of assertions have the nodes of their formulas, whatever is asked
pub rows-nodes : (asked : Asked) (names : List (List ℕ)) (parts : List Part) (rows : List SystemRow)
    → AreBaseRows names parts rows
    → node_total rows ≡ equation_nodes (equations_over asked parts)
rows-nodes asked names [] [] are = refl
rows-nodes asked names [] (row ∷ rows) are = absurd are
rows-nodes asked names (part ∷ parts) [] are = absurd are
rows-nodes asked names (part ∷ parts) (row ∷ rows) are =
    let licensees = part.assertion.licensees in
    let first = same-nodes names (licensees_pieces licensees) row.formula are.0.pieces ∙ licensees-nodes licensees in
    let rest = rows-nodes asked names parts rows are.1 in
    let sum = sum_by-cons (λ (s : Statement). licensees_nodes s.licensees) (statement_of asked part)
    (map (statement_of asked) parts) in
    omega (arith, first, rest, sum)

-- the first assertions have no more than all
pub nodes-front : (asked : Asked) (parts : List Part) (n : ℕ)
    → equation_nodes (equations_over asked (take n parts)) ≤ equation_nodes (equations_over asked parts)
nodes-front asked parts zero = omega arith
nodes-front asked [] (suc n) = omega arith
nodes-front asked (part ∷ parts) (suc n) =
    let few = sum_by-cons (λ (s : Statement). licensees_nodes s.licensees) (statement_of asked part)
    (map (statement_of asked) (take n parts)) in
    let all = sum_by-cons (λ (s : Statement). licensees_nodes s.licensees) (statement_of asked part)
    (map (statement_of asked) parts) in
    let rest = nodes-front asked parts n in
    omega (arith, few, all, rest)
