use Rattle.std.proofs.Common.{◌≡◌, ℕ, List, [], ◌∷◌, ◌++◌, IfSome, sym, ap, ◌∙◌, subst}
use Rattle.kn_trees.specs.Formulas.{IsReadable, field_nodes}
use Rattle.kn_meaning.specs.Occurring.{licensees_names}
use Rattle.kn_rows.specs.Extending.{Extends}
use Rattle.kn_rows.proofs.NewNames.{Extends-none}
use Rattle.kn_system.specs.declared.rows.Piece.{Piece}
use Rattle.kn_system.specs.declared.rows.Piece.TheVariants.{Gate}
use Rattle.kn_rows.specs.Spelling.{AreSpelled}
use Rattle.kn_rows.proofs.FormulaPieces.{AddsSpelled-first, IsField, IsField-None, IsField-Some}
use Rattle.kn_rows.proofs.numbered.Numbered.licensees.Goals as goal
use Rattle.kn_rows.proofs.numbered.Numbered.licensees.Goals.{in-Some+in_ok-add_formula-in-Some}
use Rattle.kn_rows.proofs.numbered.Numbered.licensees.Goals.{in-None+in_ok-add_piece-in-None}

-- the pieces are those of the field
field : (c : goal.Joined-licensees) → IsField c.match-licensees.self.names c.args.licensees.now c.match-licensees.pieces
field c =
    elim c.match-licensees.branch [
      | in-Some+in_ok-add_formula-in-Some w ↦
          let names : List (List ℕ) = w.add_formula.new.self.names in
          let pieces : List Piece = w.add_formula.new.pieces in
          let spelled : AreSpelled names (w.in-Some.formula ∷ []) pieces =
          AddsSpelled-first names (w.in-Some.formula ∷ []) c.new-pieces.result pieces c.new-pieces.ensures
          w.in_ok-add_formula-in-Some.ensures.spelled in
          let readable : (bytes : ℕ) × IsReadable bytes w.in-Some.formula =
          subst (λ licensees. IfSome licensees (λ formula. (bytes : ℕ) × IsReadable bytes formula)) w.in-Some.is
          c.requires.readable in
          subst (λ self. IsField self.names c.args.licensees.now c.match-licensees.pieces) (sym w.self-is)
          (subst (IsField names c.args.licensees.now) (sym w.pieces-is)
          (subst (λ licensees. IsField names licensees pieces) (sym w.in-Some.is)
          (IsField-Some names w.in-Some.formula pieces readable.1.shallow spelled)))
      | in-None+in_ok-add_piece-in-None w ↦
          let names : List (List ℕ) = c.match-licensees.self.names in
          let alone : c.match-licensees.pieces ≡ Gate 1 0 ∷ [] = w.pieces-is ∙ w.in_ok-add_piece-in-None.ensures
          ∙ ap (λ ps. ps ++ Gate 1 0 ∷ []) c.new-pieces.ensures in
          subst (IsField names c.args.licensees.now) (sym alone)
          (subst (λ licensees. IsField names licensees (Gate 1 0 ∷ [])) (sym w.in-None.is) (IsField-None names))
    ]

pub returns-clause-level : goal.returns-clause-level
returns-clause-level c = (field c).level

pub returns-clause-one_formula : goal.returns-clause-one_formula
returns-clause-one_formula c = (field c).one_formula

pub returns-clause-pieces : goal.returns-clause-pieces
returns-clause-pieces c = (field c).pieces_of

pub returns-clause-ok : goal.returns-clause-ok
returns-clause-ok c =
    elim c.match-licensees.branch [
      | in-Some+in_ok-add_formula-in-Some w ↦
          subst (Extends (field_nodes c.args.licensees.now) (licensees_names c.args.licensees.now) c.args.self.now)
          (sym w.self-is)
          (subst (λ licensees. Extends (field_nodes licensees) (licensees_names licensees) c.args.self.now
          w.add_formula.new.self) (sym w.in-Some.is) w.in_ok-add_formula-in-Some.ensures.grown)
      | in-None+in_ok-add_piece-in-None w ↦
          subst (Extends (field_nodes c.args.licensees.now) (licensees_names c.args.licensees.now) c.args.self.now)
          (sym w.self-is)
          (subst (λ licensees. Extends (field_nodes licensees) (licensees_names licensees) c.args.self.now
          c.args.self.now) (sym w.in-None.is) (Extends-none c.args.self.now c.requires.one_each))
    ]
