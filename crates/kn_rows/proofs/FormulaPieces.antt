-- The pieces of formulas have their levels, depths and nodes.
use Rattle.std.proofs.Common.{◌≡◌, ℕ, suc, zero, ◌+◌, ◌<◌, ◌≤◌, max, List, [], ◌∷◌, ◌++◌, slice_index, get_or, length}
use Rattle.std.proofs.Common.{map, flat_map, take, drop, Option, Some, None, refl, sym, ap, subst, ◌∙◌, arith}
use Rattle.std.proofs.Math.Seq.{take-append_seam, drop-append_seam}
use Rattle.std.proofs.lemmas.List.{length-map, length-append, map-append, append_assoc, append-nil}
use Rattle.std.proofs.lemmas.Option.{slice_get_within, slice_get-get_or}
use Rattle.std.proofs.lemmas.Grind.{flat_map-append}
use Rattle.kn_base.specs.Threshold.{threshold}
use Rattle.kn_trees.specs.declared.formula.Formula.{Formula}
use Rattle.kn_trees.specs.declared.formula.Formula.TheVariants.{Who}
use Rattle.kn_trees.specs.Formulas.{total, formula_nodes, formula_depth}
use Rattle.kn_trees.specs.Formulas as trees
use Rattle.kn_meaning.specs.Formulas.{Levels, formula_level}
use Rattle.kn_system.specs.declared.rows.Piece.{Piece}
use Rattle.kn_system.specs.declared.rows.Piece.TheVariants as P
use Rattle.kn_system.specs.Form.{form_levels}
use Rattle.kn_system.specs.Forms.{AreForms, IsFormula, form_depths, greatest_of}
use Rattle.kn_rows.specs.Numbering.{IsNumber, HaveLevels, NamedPiece, ArePiecesOf, formula_pieces, licensees_pieces}
use Rattle.kn_rows.specs.Numbering.{SpellLicensees}
use Rattle.kn_rows.specs.Extending.{Keeps}
use Rattle.kn_rows.specs.Spelling.{AreSpelled, AddsSpelled, AddsGate}
use Rattle.kn_rows.proofs.FormulaFolds.{total-append, formula_level-Who, formula_nodes-Who, formula_depth-Who}
use Rattle.kn_rows.proofs.FormulaFolds.{formula_pieces-Who, IsGate}
use Rattle.kn_rows.proofs.NewNames.{ArePiecesOf-kept}

-- names that keep their numbers are no fewer
pub Keeps-length : (old new : List (List ℕ)) → Keeps old new → length old ≤ length new
Keeps-length [] new keeps = omega arith
Keeps-length (name ∷ old) new keeps =
    let last : IsNumber (name ∷ old) (get_or (name ∷ old) (length old) []) (length old) =
    slice_get-get_or (name ∷ old) (length old) [] (omega arith) in
    let there : length old < length new = slice_get_within new (length old) _ (keeps (length old) _ last) in
    omega arith

HaveLevels-kept : (old new : List (List ℕ)) → Keeps old new → (at : Levels) (levels : List ℕ) → HaveLevels new at levels
    → HaveLevels old at levels
HaveLevels-kept old new keeps at levels have p name here = have p name (keeps p name here)

-- no formulas have no pieces
pub AreSpelled-none : (names : List (List ℕ)) → AreSpelled names [] []
AreSpelled-none names = record {
  pieces_of = tt;
  levels = λ top at levels rest have. refl;
  forms = λ principals n rest within are. subst (λ k. AreForms principals k rest) (omega arith) are;
  depths = λ rest. refl;
  nodes = refl;
}

-- one principal
pub AreSpelled-Who : (names : List (List ℕ)) (name : List ℕ) (p : ℕ) → IsNumber names name p
    → AreSpelled names (Who name ∷ []) (P.Who p ∷ [])
AreSpelled-Who names name p here = record {
  pieces_of = subst (λ named. ArePiecesOf names (named ++ []) (P.Who p ∷ [])) (sym (formula_pieces-Who name)) (
    here,
    tt,
  );
  levels = λ top at levels rest have. ap (λ l. l ∷ form_levels top levels rest) (have p name here
      ∙ sym (formula_level-Who top at name));
  forms = λ principals n rest within are. let same : suc n ≡ 1 + n = omega arith in
      subst (λ k. AreForms principals k (P.Who p ∷ rest)) same (one principals n rest within are);
  depths = λ rest. ap (λ d. d ∷ form_depths rest) (sym (formula_depth-Who name));
  nodes = let one : formula_nodes (Who name) ≡ 1 = formula_nodes-Who name in omega arith;
}
  where
    one : (principals n : ℕ) (rest : List Piece) → length names ≤ principals → AreForms principals n rest
        → AreForms principals (suc n) (P.Who p ∷ rest)
    one principals n rest within are = (
      let there : p < length names = slice_get_within names p name here in
          omega arith,
      are,
    )

greatest-same : (xs : List ℕ) → greatest_of xs ≡ trees.greatest_of xs
greatest-same [] = refl
greatest-same (x ∷ xs) = ap (max x) (greatest-same xs)

-- pieces that stand behind names which have got more numbers
pub AreSpelled-kept : (old new : List (List ℕ)) → Keeps old new → (formulas : List Formula) (pieces : List Piece)
    → AreSpelled old formulas pieces → AreSpelled new formulas pieces
AreSpelled-kept old new keeps formulas pieces are = record {
  pieces_of = ArePiecesOf-kept old new keeps (flat_map formula_pieces formulas) pieces are.pieces_of;
  levels = λ top at levels rest have. are.levels top at levels rest (HaveLevels-kept old new keeps at levels have);
  forms = λ principals n rest within forms. are.forms principals n rest (let more : length old ≤ length new =
      Keeps-length old new keeps in omega arith) forms;
  depths = are.depths;
  nodes = are.nodes;
}

-- the pieces of formulas and of more formulas
ArePiecesOf-append : (names : List (List ℕ)) (ns ms : List NamedPiece) (ps qs : List Piece) → ArePiecesOf names ns ps
    → ArePiecesOf names ms qs → ArePiecesOf names (ns ++ ms) (ps ++ qs)
ArePiecesOf-append names [] ms [] qs first second = second
ArePiecesOf-append names [] ms (p ∷ ps) qs first second = absurd first
ArePiecesOf-append names (n ∷ ns) ms [] qs first second = absurd first
ArePiecesOf-append names (n ∷ ns) ms (p ∷ ps) qs first second =
    (first.0, ArePiecesOf-append names ns ms ps qs first.1 second)

-- formulas and more formulas
pub AreSpelled-then : (names : List (List ℕ)) (fs gs : List Formula) (ps qs : List Piece) → AreSpelled names fs ps
    → AreSpelled names gs qs → AreSpelled names (fs ++ gs) (ps ++ qs)
AreSpelled-then names fs gs ps qs first second = record {
  pieces_of = subst (λ named. ArePiecesOf names named (ps ++ qs)) (sym (flat_map-append formula_pieces fs gs))
      (ArePiecesOf-append names (flat_map formula_pieces fs) (flat_map formula_pieces gs) ps qs first.pieces_of
      second.pieces_of);
  levels = λ top at levels rest have.
      let f = formula_level top at in
      ap (form_levels top levels) (append_assoc ps qs rest)
      ∙ first.levels top at levels (qs ++ rest) have
      ∙ ap (λ ls. map f fs ++ ls) (second.levels top at levels rest have)
      ∙ sym (append_assoc (map f fs) (map f gs) (form_levels top levels rest))
      ∙ ap (λ ls. ls ++ form_levels top levels rest) (sym (map-append f fs gs));
  forms = λ principals n rest within are.
      let count : length fs + (length gs + n) ≡ length (fs ++ gs) + n = let sum : length (fs ++ gs) ≡ length fs
      + length gs = length-append fs gs in omega arith in
      subst (λ pieces. AreForms principals (length (fs ++ gs) + n) pieces) (sym (append_assoc ps qs rest))
      (subst (λ k. AreForms principals k (ps ++ (qs ++ rest))) count
      (first.forms principals (length gs + n) (qs ++ rest) within (second.forms principals n rest within are)));
  depths = λ rest.
      ap form_depths (append_assoc ps qs rest)
      ∙ first.depths (qs ++ rest)
      ∙ ap (λ ds. map formula_depth fs ++ ds) (second.depths rest)
      ∙ sym (append_assoc (map formula_depth fs) (map formula_depth gs) (form_depths rest))
      ∙ ap (λ ds. ds ++ form_depths rest) (sym (map-append formula_depth fs gs));
  nodes =
      let sum : length (ps ++ qs) ≡ length ps + length qs = length-append ps qs in
      let all : total (map formula_nodes (fs ++ gs)) ≡ total (map formula_nodes fs) + total (map formula_nodes gs) =
      ap total (map-append formula_nodes fs gs) ∙ total-append (map formula_nodes fs) (map formula_nodes gs) in
      omega (arith, first.nodes, second.nodes);
}

-- a gate over parts
pub AreSpelled-gate : (names : List (List ℕ)) (need : ℕ) (parts : List Formula) (pieces : List Piece)
    (formula : Formula) → 1 ≤ need → IsGate need parts formula → AreSpelled names parts pieces
    → AreSpelled names (formula ∷ []) (P.Gate need (length parts) ∷ pieces)
AreSpelled-gate names need parts pieces formula need_one gate are = record {
  pieces_of = subst (λ named. ArePiecesOf names named (P.Gate need (length parts) ∷ pieces))
      (sym (append-nil (formula_pieces formula) ∙ gate.pieces)) ((refl, refl), are.pieces_of);
  levels = λ top at levels rest have.
      let f = formula_level top at in
      let behind = form_levels top levels rest in
      let whole : form_levels top levels (pieces ++ rest) ≡ map f parts ++ behind =
      are.levels top at levels rest have in
      let count : length (map f parts) ≡ length parts = simp length-map in
      let front : take (length parts) (map f parts ++ behind) ≡ map f parts =
      ap (λ n. take n (map f parts ++ behind)) (sym count) ∙ take-append_seam (map f parts) behind in
      let back : drop (length parts) (map f parts ++ behind) ≡ behind =
      ap (λ n. drop n (map f parts ++ behind)) (sym count) ∙ drop-append_seam (map f parts) behind in
      ap (λ ls. threshold top need (take (length parts) ls) ∷ drop (length parts) ls) whole
      ∙ ap (λ ls. threshold top need ls ∷ drop (length parts) (map f parts ++ behind)) front
      ∙ ap (λ ls. threshold top need (map f parts) ∷ ls) back
      ∙ ap (λ l. l ∷ behind) (sym (gate.level top at));
  forms = λ principals n rest within forms. let same : suc n ≡ 1 + n = omega arith in
      subst (λ k. AreForms principals k (P.Gate need (length parts) ∷ (pieces ++ rest))) same
      (gated principals n rest within forms);
  depths = λ rest.
      let behind = form_depths rest in
      let f = formula_depth in
      let count : length (map f parts) ≡ length parts = simp length-map in
      let front : take (length parts) (map f parts ++ behind) ≡ map f parts =
      ap (λ n. take n (map f parts ++ behind)) (sym count) ∙ take-append_seam (map f parts) behind in
      let back : drop (length parts) (map f parts ++ behind) ≡ behind =
      ap (λ n. drop n (map f parts ++ behind)) (sym count) ∙ drop-append_seam (map f parts) behind in
      ap (λ ds. suc (greatest_of (take (length parts) ds)) ∷ drop (length parts) ds) (are.depths rest)
      ∙ ap (λ ds. suc (greatest_of ds) ∷ drop (length parts) (map f parts ++ behind)) front
      ∙ ap (λ ds. suc (greatest_of (map f parts)) ∷ ds) back
      ∙ ap (λ d. suc d ∷ behind) (greatest-same (map f parts))
      ∙ ap (λ d. d ∷ behind) (sym (gate.depth ∙ omega arith));
  nodes = omega (arith, are.nodes, gate.nodes);
}
  where
    gated : (principals n : ℕ) (rest : List Piece) → length names ≤ principals → AreForms principals n rest
        → AreForms principals (suc n) (P.Gate need (length parts) ∷ (pieces ++ rest))
    gated principals n rest within forms = let same : length parts + n ≡ n + length parts = omega arith in
        (need_one, subst (λ k. AreForms principals k (pieces ++ rest)) same (are.forms principals n rest within forms))

-- what was added behind pieces, and then more
pub AddsSpelled-none : (names : List (List ℕ)) (pieces : List Piece) → AddsSpelled names [] pieces pieces
AddsSpelled-none names pieces = record { pieces = []; added = sym (append-nil pieces); spelled = AreSpelled-none names }

pub AddsSpelled-Who : (names : List (List ℕ)) (name : List ℕ) (p : ℕ) (old new : List Piece) → IsNumber names name p
    → new ≡ old ++ P.Who p ∷ [] → AddsSpelled names (Who name ∷ []) old new
AddsSpelled-Who names name p old new here added =
    record { pieces = P.Who p ∷ []; added = added; spelled = AreSpelled-Who names name p here }

pub AddsSpelled-gate : (names : List (List ℕ)) (need : ℕ) (parts : List Formula) (formula : Formula)
    (old new : List Piece) → 1 ≤ need → IsGate need parts formula → AddsGate names need parts old new
    → AddsSpelled names (formula ∷ []) old new
AddsSpelled-gate names need parts formula old new need_one gate adds = record {
  pieces = P.Gate need (length parts) ∷ adds.pieces;
  added = adds.added;
  spelled = AreSpelled-gate names need parts adds.pieces formula need_one gate adds.spelled;
}

-- the one formula of pieces without others
IsFormula-alone : (names : List (List ℕ)) (formula : Formula) (pieces : List Piece) → formula_depth formula ≤ 200
    → AreSpelled names (formula ∷ []) pieces → IsFormula (length names) pieces
IsFormula-alone names formula pieces shallow are =
    let alone : pieces ++ [] ≡ pieces = append-nil pieces in
    let depths : form_depths pieces ≡ formula_depth formula ∷ [] = ap form_depths (sym alone) ∙ are.depths [] in
    let first : slice_index (form_depths pieces) 0 ≡ formula_depth formula = ap (λ ds. slice_index ds 0) depths in
    record {
      one = subst (AreForms (length names) 1) alone (are.forms (length names) 0 [] (omega arith) tt);
      shallow = omega arith;
    }

SpellLicensees-alone : (names : List (List ℕ)) (formula : Formula) (pieces : List Piece)
    → AreSpelled names (formula ∷ []) pieces → (top : ℕ) → SpellLicensees top names (Some formula) pieces
SpellLicensees-alone names formula pieces are top at levels have =
    ap (λ ps. slice_index (form_levels top levels ps) 0) (sym (append-nil pieces))
    ∙ ap (λ ls. slice_index ls 0) (are.levels top at levels [] have)

-- the pieces of a field with one formula
ArePiecesOf-alone : (names : List (List ℕ)) (formula : Formula) (pieces : List Piece)
    → AreSpelled names (formula ∷ []) pieces → ArePiecesOf names (licensees_pieces (Some formula)) pieces
ArePiecesOf-alone names formula pieces are =
    subst (λ named. ArePiecesOf names named pieces) (append-nil (formula_pieces formula)) are.pieces_of

-- no part has the level 0
SpellLicensees-none : (top : ℕ) (names : List (List ℕ)) → SpellLicensees top names None (P.Gate 1 0 ∷ [])
SpellLicensees-none top names at levels have = none_reach top
  where
    none_reach : (n : ℕ) → threshold n 1 [] ≡ 0
    none_reach zero = refl
    none_reach (suc n) = none_reach n

-- no parts
IsFormula-none : (names : List (List ℕ)) → IsFormula (length names) (P.Gate 1 0 ∷ [])
IsFormula-none names = record { one = (omega arith, tt); shallow = omega arith }

-- The pieces are those of a Licensees field, which is one formula over the names.
pub record IsField (names : List (List ℕ)) (licensees : Option Formula) (pieces : List Piece) : Type 0 where
  pub pieces_of : ArePiecesOf names (licensees_pieces licensees) pieces
  pub level : (top : ℕ) → SpellLicensees top names licensees pieces
  pub one_formula : IsFormula (length names) pieces

pub IsField-Some : (names : List (List ℕ)) (formula : Formula) (pieces : List Piece) → formula_depth formula ≤ 200
    → AreSpelled names (formula ∷ []) pieces → IsField names (Some formula) pieces
IsField-Some names formula pieces shallow are = record {
  pieces_of = ArePiecesOf-alone names formula pieces are;
  level = SpellLicensees-alone names formula pieces are;
  one_formula = IsFormula-alone names formula pieces shallow are;
}

pub IsField-None : (names : List (List ℕ)) → IsField names None (P.Gate 1 0 ∷ [])
IsField-None names = record {
  pieces_of = ((refl, refl), tt);
  level = λ top. SpellLicensees-none top names;
  one_formula = IsFormula-none names;
}

-- one part more
pub AddsSpelled-then : (before after : List (List ℕ)) → Keeps before after
    → (parts : List Formula) (part : Formula) (old between new : List Piece) → AddsSpelled before parts old between
    → AddsSpelled after (part ∷ []) between new → AddsSpelled after (parts ++ part ∷ []) old new
AddsSpelled-then before after keeps parts part old between new first second = record {
  pieces = first.pieces ++ second.pieces;
  added = second.added ∙ ap (λ ps. ps ++ second.pieces) first.added ∙ append_assoc old first.pieces second.pieces;
  spelled = AreSpelled-then after parts (part ∷ []) first.pieces second.pieces
      (AreSpelled-kept before after keeps parts first.pieces first.spelled) second.spelled;
}

-- a gate, and behind it its parts
pub AddsGate-parts : (names : List (List ℕ)) (need : ℕ) (parts : List Formula) (old between new : List Piece)
    → between ≡ old ++ P.Gate need (length parts) ∷ [] → AddsSpelled names parts between new
    → AddsGate names need parts old new
AddsGate-parts names need parts old between new gate adds = record {
  pieces = adds.pieces;
  added = adds.added ∙ ap (λ ps. ps ++ adds.pieces) gate
      ∙ append_assoc old (P.Gate need (length parts) ∷ []) adds.pieces;
  spelled = adds.spelled;
}

-- what was added behind nothing
pub AddsSpelled-first : (names : List (List ℕ)) (formulas : List Formula) (old new : List Piece) → old ≡ []
    → AddsSpelled names formulas old new → AreSpelled names formulas new
AddsSpelled-first names formulas old new none adds =
    subst (AreSpelled names formulas) (sym (adds.added ∙ ap (λ ps. ps ++ adds.pieces) none)) adds.spelled
