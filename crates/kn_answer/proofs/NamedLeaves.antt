-- Whom an assertion names stands in the formula of its row.
use Rattle.std.proofs.Common.{◌≡◌, ℕ, zero, suc, true, List, [], ◌∷◌, flat_map, map, slice_get}
use Rattle.std.proofs.Common.{Option, Some, None, inl, inr, refl, sym, ap, subst, ◌∙◌, arith}
use Rattle.std.specs.List.{Contains, list_any}
use Rattle.std.specs.Str.{bytes_eq}
use Rattle.std.proofs.lemmas.Bool.{or_cases}
use Rattle.std.proofs.lemmas.List.Elements.{Contains-append_left, Contains-append_right}
use Rattle.std.proofs.lemmas.List.Folds.{list_any-append}
use Rattle.std.proofs.lemmas.Option.{slice_get-get_or}
use Rattle.kn_trees.specs.declared.formula.Formula.{Formula}
use Rattle.kn_trees.specs.declared.formula.Formula.TheVariants.{rolls-Who, rolls-All, rolls-Any, rolls-Threshold}
use Rattle.kn_trees.specs.declared.formula.Formula.TheViews.{roll-Formula}
use Rattle.kn_trees.specs.declared.formula.Formula.TheOpen.{Formula-F}
use Rattle.kn_trees.specs.declared.formula.Formula.TheOpen.Formula-F.{Who, All, Any, Threshold}
use Rattle.kn_trees.specs.declared.formula.Formula.TheFolds.{map-Formula, ind-Formula}
use Rattle.kn_trees.specs.declared.assertion.Assertion.{Assertion}
use Rattle.kn_meaning.specs.Occurring.{licensees_names, formula_names}
use Rattle.kn_system.specs.declared.rows.Piece.{Piece}
use Rattle.kn_system.specs.declared.rows.Piece.TheVariants as P
use Rattle.kn_system.specs.Rows.{SystemRow}
use Rattle.kn_watch.specs.Affected.{UsesPrincipal}
use Rattle.kn_rows.specs.Numbering.{NamedPiece, Leaf, Gate, ArePiecesOf, IsNumber, formula_pieces, licensees_pieces}
use Rattle.kn_rows.specs.BaseRows.{IsBaseRow}
use Rattle.kn_rows.proofs.FormulaFolds.{formula_names-Who, formula_pieces-Who, IsGate, IsGate-All, IsGate-Any}
use Rattle.kn_rows.proofs.FormulaFolds.{IsGate-Threshold}
use Rattle.kn_rows.proofs.NewNames.{among_one}

-- each principal of the formula is one of its pieces
abbrev HasLeaves : Formula → Type 0
HasLeaves formula = (name : List ℕ) → list_any (bytes_eq name) (formula_names formula) ≡ true
    → Contains (formula_pieces formula) (Leaf name)

abbrev Parts : Type 0
Parts = List ((part : Formula) × HasLeaves part)

abbrev formulas_of : Parts → List Formula
formulas_of parts = map (λ e. e.0) parts

leaves-parts : (parts : Parts) (name : List ℕ)
    → list_any (bytes_eq name) (flat_map formula_names (formulas_of parts)) ≡ true
    → Contains (flat_map formula_pieces (formulas_of parts)) (Leaf name)
leaves-parts [] name among = absurd (cc)
leaves-parts (e ∷ parts) name among =
    let names : List (List ℕ) = flat_map formula_names (formulas_of parts) in
    let pieces : List NamedPiece = flat_map formula_pieces (formulas_of parts) in
    elim (or_cases (list_any (bytes_eq name) (formula_names e.0)) (list_any (bytes_eq name) names)
    (sym (list_any-append (bytes_eq name) (formula_names e.0) names) ∙ among)) [
      | inl here ↦ Contains-append_left (formula_pieces e.0) pieces (Leaf name) (e.1 name here)
      | inr later ↦ Contains-append_right (formula_pieces e.0) pieces (Leaf name) (leaves-parts parts name later)
    ]

gate-leaves : (need : ℕ) (parts : Parts) (formula : Formula) → IsGate need (formulas_of parts) formula
    → HasLeaves formula
gate-leaves need parts formula gate name among =
    let behind = leaves-parts parts name (ap (list_any (bytes_eq name)) (sym gate.names) ∙ among) in
    subst (λ pieces. Contains pieces (Leaf name)) (sym gate.pieces) (suc behind.0, omega (arith, behind.1), behind.2)

who-leaves : (who : List ℕ) → HasLeaves (roll-Formula (Who who))
who-leaves who = subst HasLeaves (sym (rolls-Who who)) (λ name among.
    let same : name ≡ who = among_one name who (ap (list_any (bytes_eq name)) (sym (formula_names-Who who)) ∙ among) in
    subst (λ pieces. Contains pieces (Leaf name)) (sym (formula_pieces-Who who))
    (0, omega arith, ap Leaf (sym same)))

layer : (y : Formula-F ((part : Formula) × HasLeaves part))
    → HasLeaves (roll-Formula (map-Formula ((part : Formula) × HasLeaves part) Formula (λ e. e.0) y))
layer (Who name) = who-leaves name
layer (All parts) =
    subst HasLeaves (sym (rolls-All (formulas_of parts))) (gate-leaves _ parts _ (IsGate-All (formulas_of parts)))
layer (Any parts) =
    subst HasLeaves (sym (rolls-Any (formulas_of parts))) (gate-leaves _ parts _ (IsGate-Any (formulas_of parts)))
layer (Threshold need parts) =
    subst HasLeaves (sym (rolls-Threshold need (formulas_of parts)))
    (gate-leaves _ parts _ (IsGate-Threshold need (formulas_of parts)))

formula-leaves : (formula : Formula) → HasLeaves formula
formula-leaves = ind-Formula HasLeaves (λ x y is. subst (λ z. HasLeaves (roll-Formula z)) is (layer y))

licensees-leaves : (licensees : Option Formula) (name : List ℕ)
    → list_any (bytes_eq name) (licensees_names licensees) ≡ true → Contains (licensees_pieces licensees) (Leaf name)
licensees-leaves None name among = absurd (cc)
licensees-leaves (Some formula) name among = formula-leaves formula name among

-- a principal with its number, which stands in these pieces
abbrev IsLeafOf : List (List ℕ) → List Piece → ℕ → List ℕ → ℕ → Type 0
IsLeafOf names pieces k name p = (slice_get pieces k ≡ Some (P.Who p)) × IsNumber names name p

leaf-numbered : (names : List (List ℕ)) (named : List NamedPiece) (pieces : List Piece) → ArePiecesOf names named pieces
    → (name : List ℕ) (k : ℕ) → slice_get named k ≡ Some (Leaf name) → (p : ℕ) × IsLeafOf names pieces k name p
leaf-numbered names [] pieces are name k is = absurd (cc)
leaf-numbered names (n ∷ named) [] are name k is = absurd are
leaf-numbered names (n ∷ named) (piece ∷ pieces) are name (suc k) is = leaf-numbered names named pieces are.1 name k is
leaf-numbered names (Leaf own ∷ named) (P.Who p ∷ pieces) are name zero is =
    let same : own ≡ name = cc in
    (p, (refl, are.0 ∙ ap Some same))
leaf-numbered names (Leaf own ∷ named) (P.Gate need count ∷ pieces) are name zero is = absurd are.0
leaf-numbered names (Gate need count ∷ named) (piece ∷ pieces) are name zero is = absurd (cc)

-- whom an assertion names has a number that its row uses
pub row-uses : (names : List (List ℕ)) (assertion : Assertion) (row : SystemRow) → IsBaseRow names assertion row
    → (name : List ℕ) → list_any (bytes_eq name) (licensees_names assertion.licensees) ≡ true
    → (p : ℕ) × UsesPrincipal row p × IsNumber names name p
row-uses names assertion row is name among =
    let named : List NamedPiece = licensees_pieces assertion.licensees in
    let there = licensees-leaves assertion.licensees name among in
    let here : slice_get named there.0 ≡ Some (Leaf name) = slice_get-get_or named there.0 (Leaf name) there.1
    ∙ ap Some there.2 in
    let found = leaf-numbered names named row.formula is.pieces name there.0 here in
    (found.0, (there.0, found.1.0), found.1.1)
