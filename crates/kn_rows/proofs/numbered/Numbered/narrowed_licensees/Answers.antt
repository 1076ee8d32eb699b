use Rattle.std.proofs.Common.{◌≡◌, ℕ, List, [], ◌∷◌, ◌++◌, IfSome, sym, ap, ◌∙◌, subst}
use Rattle.kn_trees.specs.Formulas.{IsReadable}
use Rattle.kn_system.specs.declared.rows.Piece.{Piece}
use Rattle.kn_system.specs.declared.rows.Piece.TheVariants.{Gate}
use Rattle.kn_rows.specs.Narrowing.{narrowed_formula}
use Rattle.kn_rows.specs.Spelling.{AreSpelled}
use Rattle.kn_rows.proofs.FormulaPieces.{AddsSpelled-first}
use Rattle.kn_rows.proofs.NarrowedPieces.{IsNarrowedField, IsNarrowedField-Some, IsNarrowedField-None}
use Rattle.kn_rows.proofs.numbered.Numbered.narrowed_licensees.Goals as goal
use Rattle.kn_rows.proofs.numbered.Numbered.narrowed_licensees.Goals.{in-Some+in_ok-add_narrowed_formula-in-Some}
use Rattle.kn_rows.proofs.numbered.Numbered.narrowed_licensees.Goals.{in-None+in_ok-add_piece-in-None}

field : (c : goal.Joined-licensees)
    → IsNarrowedField c.args.self.now.names c.args.licensees.now c.match-licensees.pieces
field c =
    let names : List (List ℕ) = c.args.self.now.names in
    elim c.match-licensees.branch [
      | in-Some+in_ok-add_narrowed_formula-in-Some w ↦
          let f = w.in-Some.formula in
          let pieces : List Piece = w.add_narrowed_formula.new.pieces in
          let spelled : AreSpelled names (narrowed_formula names f ∷ []) pieces =
          AddsSpelled-first names (narrowed_formula names f ∷ []) c.new-pieces.result pieces c.new-pieces.ensures
          w.in_ok-add_narrowed_formula-in-Some.ensures in
          let readable : (bytes : ℕ) × IsReadable bytes f =
          subst (λ licensees. IfSome licensees (λ formula. (bytes : ℕ) × IsReadable bytes formula)) w.in-Some.is
          c.requires.readable in
          subst (IsNarrowedField names c.args.licensees.now) (sym w.pieces-is)
          (subst (λ licensees. IsNarrowedField names licensees pieces) (sym w.in-Some.is)
          (IsNarrowedField-Some names f readable.0 pieces readable.1 spelled))
      | in-None+in_ok-add_piece-in-None w ↦
          let alone : c.match-licensees.pieces ≡ Gate 1 0 ∷ [] = w.pieces-is ∙ w.in_ok-add_piece-in-None.ensures
          ∙ ap (λ ps. ps ++ Gate 1 0 ∷ []) c.new-pieces.ensures in
          subst (IsNarrowedField names c.args.licensees.now) (sym alone)
          (subst (λ licensees. IsNarrowedField names licensees (Gate 1 0 ∷ [])) (sym w.in-None.is)
          (IsNarrowedField-None names))
    ]

pub returns : goal.returns
returns c = let is = field c in
    record {
      pieces = is.field.pieces_of;
      level = is.field.level;
      one_formula = is.field.one_formula;
      short = is.short;
    }
