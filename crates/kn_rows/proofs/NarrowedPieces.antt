-- Narrowed formulas: how large they are, and which pieces spell them.
use Rattle.std.proofs.Common.{◌≡◌, ◌∙◌, ℕ, ◌+◌, ◌<◌, Bool, true, false, cond, List, [], ◌∷◌, ◌++◌, length, map, take}
use Rattle.std.proofs.Common.{◌≤◌, get_or, Option, option_map, Some, None, refl, sym, ap, subst, arith}
use Rattle.std.specs.List.{list_any}
use Rattle.std.specs.Str.{bytes_eq}
use Rattle.std.proofs.lemmas.List.{length-map, map-append, take_more}
use Rattle.kn_trees.specs.declared.formula.Formula.{Formula}
use Rattle.kn_trees.specs.declared.formula.Formula.TheVariants.{rolls-Who, rolls-All, rolls-Any, rolls-Threshold}
use Rattle.kn_trees.specs.declared.formula.Formula.TheVariants as formula
use Rattle.kn_trees.specs.declared.formula.Formula.TheViews.{roll-Formula}
use Rattle.kn_trees.specs.declared.formula.Formula.TheOpen.{Formula-F}
use Rattle.kn_trees.specs.declared.formula.Formula.TheOpen.Formula-F.{Who, All, Any, Threshold}
use Rattle.kn_trees.specs.declared.formula.Formula.TheFolds.{map-Formula, ind-Formula}
use Rattle.kn_trees.specs.Formulas.{total, formula_nodes, greatest_of, formula_depth, field_nodes, IsReadable}
use Rattle.kn_system.specs.declared.rows.Piece.{Piece}
use Rattle.kn_system.specs.declared.rows.Piece.TheVariants as P
use Rattle.kn_rows.specs.Narrowing.{narrowed_step, narrowed_formula}
use Rattle.kn_rows.specs.Numbering.{IsNumber, IsAbsent}
use Rattle.kn_rows.specs.Spelling.{AreSpelled}
use Rattle.kn_rows.proofs.Names.{number-among, absent-among}
use Rattle.kn_rows.proofs.FormulaFolds.{fold-Who, fold-All, fold-Any, fold-Threshold, formula_nodes-Who}
use Rattle.kn_rows.proofs.FormulaFolds.{formula_depth-Who, IsGate, IsGate-All, IsGate-Any, IsGate-Threshold}
use Rattle.kn_rows.proofs.FormulaPieces.{AreSpelled-none, AreSpelled-Who, AreSpelled-gate, IsField, IsField-None}
use Rattle.kn_rows.proofs.FormulaPieces.{IsField-Some}

-- a principal without a number becomes a formula over no parts
narrowed-Who : (names : List (List ℕ)) (name : List ℕ)
    → narrowed_formula names (formula.Who name)
    ≡ cond (list_any (bytes_eq name) names) (formula.Who name) (formula.Any [])
unfolding narrowed_formula
narrowed-Who names name = fold-Who Formula (narrowed_step names) name

-- and as many of the narrowed parts are needed
pub IsGate-All-narrowed : (names : List (List ℕ)) (parts : List Formula)
    → IsGate (length parts) (map (narrowed_formula names) parts) (narrowed_formula names (formula.All parts))
unfolding narrowed_formula
IsGate-All-narrowed names parts =
    let fs : List Formula = map (narrowed_formula names) parts in
    let count : length fs ≡ length parts = simp length-map in
    subst (IsGate (length parts) fs) (sym (fold-All Formula (narrowed_step names) parts))
    (subst (λ n. IsGate n fs (formula.All fs)) count (IsGate-All fs))

pub IsGate-Any-narrowed : (names : List (List ℕ)) (parts : List Formula)
    → IsGate 1 (map (narrowed_formula names) parts) (narrowed_formula names (formula.Any parts))
unfolding narrowed_formula
IsGate-Any-narrowed names parts =
    let fs : List Formula = map (narrowed_formula names) parts in
    subst (IsGate 1 fs) (sym (fold-Any Formula (narrowed_step names) parts)) (IsGate-Any fs)

pub IsGate-Threshold-narrowed : (names : List (List ℕ)) (need : ℕ) (parts : List Formula)
    → IsGate need (map (narrowed_formula names) parts) (narrowed_formula names (formula.Threshold need parts))
unfolding narrowed_formula
IsGate-Threshold-narrowed names need parts =
    let fs : List Formula = map (narrowed_formula names) parts in
    subst (IsGate need fs) (sym (fold-Threshold Formula (narrowed_step names) need parts)) (IsGate-Threshold need fs)

-- a narrowed formula has as many nodes, and is as deep
pub record IsAsLarge (names : List (List ℕ)) (formula : Formula) : Type 0 where
  pub nodes : formula_nodes (narrowed_formula names formula) ≡ formula_nodes formula
  pub depth : formula_depth (narrowed_formula names formula) ≡ formula_depth formula

module _ (names : List (List ℕ)) where
  abbrev Parts : Type 0
  Parts = List ((part : Formula) × IsAsLarge names part)

  abbrev formulas_of : Parts → List Formula
  formulas_of parts = map (λ e. e.0) parts

  parts-same : (measure : Formula → ℕ)
      → ((part : Formula) → IsAsLarge names part → measure (narrowed_formula names part) ≡ measure part)
      → (parts : Parts)
      → map measure (map (narrowed_formula names) (formulas_of parts)) ≡ map measure (formulas_of parts)
  parts-same measure same [] = refl
  parts-same measure same (e ∷ parts) =
      let first = same e.0 e.1 in
      let rest = parts-same measure same parts in
      cc

  gate-large : (need : ℕ) (parts : Parts) (formula : Formula) → IsGate need (formulas_of parts) formula
      → IsGate need (map (narrowed_formula names) (formulas_of parts)) (narrowed_formula names formula)
      → IsAsLarge names formula
  gate-large need parts formula gate narrowed = record {
    nodes = narrowed.nodes
        ∙ ap (λ ns. 1 + total ns) (parts-same formula_nodes (λ part large. large.nodes) parts) ∙ sym gate.nodes;
    depth = narrowed.depth
        ∙ ap (λ ds. 1 + greatest_of ds) (parts-same formula_depth (λ part large. large.depth) parts)
        ∙ sym gate.depth;
  }

  who-large : (name : List ℕ) → IsAsLarge names (formula.Who name)
  who-large name = record {
    nodes = ap formula_nodes (narrowed-Who names name) ∙ nodes (list_any (bytes_eq name) names);
    depth = ap formula_depth (narrowed-Who names name) ∙ depth (list_any (bytes_eq name) names);
  }
    where
      nodes : (b : Bool) → formula_nodes (cond b (formula.Who name) (formula.Any [])) ≡ formula_nodes (formula.Who name)
      nodes true = refl
      nodes false = (IsGate-Any []).nodes ∙ sym (formula_nodes-Who name)

      depth : (b : Bool) → formula_depth (cond b (formula.Who name) (formula.Any [])) ≡ formula_depth (formula.Who name)
      depth true = refl
      depth false = (IsGate-Any []).depth ∙ sym (formula_depth-Who name)

  layer : (y : Formula-F ((part : Formula) × IsAsLarge names part))
      → IsAsLarge names (roll-Formula (map-Formula ((part : Formula) × IsAsLarge names part) Formula (λ e. e.0) y))
  layer (Who name) = subst (IsAsLarge names) (sym (rolls-Who name)) (who-large name)
  layer (All parts) =
      subst (IsAsLarge names) (sym (rolls-All (formulas_of parts)))
      (gate-large _ parts _ (IsGate-All (formulas_of parts)) (IsGate-All-narrowed names (formulas_of parts)))
  layer (Any parts) =
      subst (IsAsLarge names) (sym (rolls-Any (formulas_of parts)))
      (gate-large _ parts _ (IsGate-Any (formulas_of parts)) (IsGate-Any-narrowed names (formulas_of parts)))
  layer (Threshold need parts) =
      subst (IsAsLarge names) (sym (rolls-Threshold need (formulas_of parts)))
      (gate-large _ parts _ (IsGate-Threshold need (formulas_of parts))
      (IsGate-Threshold-narrowed names need (formulas_of parts)))

  pub narrowed-large : (formula : Formula) → IsAsLarge names formula
  narrowed-large = ind-Formula (IsAsLarge names)
      (λ x y is. subst (λ z. IsAsLarge names (roll-Formula z)) is (layer y))

-- the piece of a principal with a number, and that of one without
pub AreSpelled-known : (names : List (List ℕ)) (name : List ℕ) (p : ℕ) → IsNumber names name p
    → AreSpelled names (narrowed_formula names (formula.Who name) ∷ []) (P.Who p ∷ [])
AreSpelled-known names name p here =
    subst (λ f. AreSpelled names (f ∷ []) (P.Who p ∷ [])) (sym (narrowed-Who names name
    ∙ ap (λ b. cond b (formula.Who name) (formula.Any [])) (number-among names name p here)))
    (AreSpelled-Who names name p here)

pub AreSpelled-unknown : (names : List (List ℕ)) (name : List ℕ) → IsAbsent names name
    → AreSpelled names (narrowed_formula names (formula.Who name) ∷ []) (P.Gate 1 0 ∷ [])
AreSpelled-unknown names name absent =
    subst (λ f. AreSpelled names (f ∷ []) (P.Gate 1 0 ∷ [])) (sym (narrowed-Who names name
    ∙ ap (λ b. cond b (formula.Who name) (formula.Any [])) (absent-among names name absent)))
    (AreSpelled-gate names 1 [] [] (formula.Any []) (omega arith) (IsGate-Any []) (AreSpelled-none names))

-- one part more is narrowed behind the others
pub narrowed-more : (names : List (List ℕ)) (parts : List Formula) (i : ℕ) (part : Formula) → i < length parts
    → part ≡ get_or parts i part
    → map (narrowed_formula names) (take i parts) ++ narrowed_formula names part ∷ []
    ≡ map (narrowed_formula names) (take (i + 1) parts)
narrowed-more names parts i part within here =
    let longer : take i parts ++ part ∷ [] ≡ take (i + 1) parts = ap (λ p. take i parts ++ p ∷ []) here
    ∙ sym (take_more parts i part within) in
    sym (map-append (narrowed_formula names) (take i parts) (part ∷ [])) ∙ ap (map (narrowed_formula names)) longer

-- The pieces are those of a narrowed field, which is one formula over the names.
pub record IsNarrowedField (names : List (List ℕ)) (licensees : Option Formula) (pieces : List Piece) : Type 0 where
  pub field : IsField names (option_map (narrowed_formula names) licensees) pieces
  pub short : length pieces ≤ 1 + field_nodes licensees

pub IsNarrowedField-Some : (names : List (List ℕ)) (formula : Formula) (bytes : ℕ) (pieces : List Piece)
    → IsReadable bytes formula → AreSpelled names (narrowed_formula names formula ∷ []) pieces
    → IsNarrowedField names (Some formula) pieces
IsNarrowedField-Some names formula bytes pieces readable are =
    let large : IsAsLarge names formula = narrowed-large names formula in
    let shallow : formula_depth formula ≤ 200 = readable.shallow in
    record {
      field = IsField-Some names (narrowed_formula names formula) pieces (omega (arith, shallow, large.depth)) are;
      short = omega (arith, large.nodes, are.nodes);
    }

pub IsNarrowedField-None : (names : List (List ℕ)) → IsNarrowedField names None (P.Gate 1 0 ∷ [])
IsNarrowedField-None names = record { field = IsField-None names; short = omega arith }
