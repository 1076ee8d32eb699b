use Rattle.std.proofs.Common.{◌≡◌, ℕ, ◌<◌, ◌≤◌, List, [], ◌∷◌, ◌++◌, length, map, take, get_or, sym, ap, ◌∙◌, subst}
use Rattle.std.proofs.Common.{arith}
use Rattle.std.proofs.lemmas.List.{length-map, take_all}
use Rattle.kn_trees.specs.declared.formula.Formula.{Formula}
use Rattle.kn_trees.specs.declared.formula.Formula.TheVariants as formula
use Rattle.kn_trees.specs.Formulas.{is_sound}
use Rattle.kn_system.specs.declared.rows.Piece.TheVariants as P
use Rattle.kn_rows.specs.Narrowing.{narrowed_formula}
use Rattle.kn_rows.specs.Spelling.{AddsSpelled, AreSpelled}
use Rattle.kn_rows.proofs.FormulaFolds.{IsGate, IsSoundGate, IsSoundGate-All, IsSoundGate-Any, IsSoundGate-Threshold}
use Rattle.kn_rows.proofs.FormulaFolds.{total-part}
use Rattle.kn_rows.proofs.FormulaPieces.{AddsSpelled-gate, AddsSpelled-none, AddsSpelled-then, AddsGate-parts}
use Rattle.kn_rows.proofs.NarrowedPieces.{IsGate-All-narrowed, IsGate-Any-narrowed, IsGate-Threshold-narrowed}
use Rattle.kn_rows.proofs.NarrowedPieces.{narrowed-more}
use Rattle.kn_rows.proofs.NewNames.{map_on_ok}
use Rattle.kn_rows.proofs.numbered.Numbered.+narrowed_formula.Goals as goal

pub add_narrowed_formula-add_narrowed_gate-requires : goal.add_narrowed_formula-add_narrowed_gate-requires
add_narrowed_formula-add_narrowed_gate-requires t c =
    let gate = IsSoundGate-All c.args.formula.now c.in-All.parts c.in-All.is c.requires.sound in
    (omega (arith, gate.gate.nodes, c.decreases), gate.parts_sound.each)

pub add_narrowed_formula-add_narrowed_gate-requires-in-Any : goal.add_narrowed_formula-add_narrowed_gate-requires-in-Any
add_narrowed_formula-add_narrowed_gate-requires-in-Any t c =
    let gate = IsSoundGate-Any c.args.formula.now c.in-Any.parts c.in-Any.is c.requires.sound in
    (omega (arith, gate.gate.nodes, c.decreases), gate.parts_sound.each)

pub add_narrowed_formula-add_narrowed_gate-requires-in-Threshold
    : goal.add_narrowed_formula-add_narrowed_gate-requires-in-Threshold
add_narrowed_formula-add_narrowed_gate-requires-in-Threshold t c =
    let gate = IsSoundGate-Threshold c.args.formula.now c.in-Threshold.need c.in-Threshold.list c.in-Threshold.is
    c.requires.sound in
    (omega (arith, gate.gate.nodes, c.decreases), gate.parts_sound.each)

pub add_narrowed_formula-returns-in-Who : goal.add_narrowed_formula-returns-in-Who
add_narrowed_formula-returns-in-Who t c =
    let names : List (List ℕ) = c.args.self.now.names in
    let who : formula.Who c.as_slice.result.now ≡ c.args.formula.now = ap formula.Who c.as_slice.ensures
    ∙ sym c.in-Who.is in
    let spelled : AreSpelled names (narrowed_formula names c.args.formula.now ∷ []) (c.narrowed_leaf.result ∷ []) =
    subst (λ f. AreSpelled names (narrowed_formula names f ∷ []) (c.narrowed_leaf.result ∷ [])) who
    c.narrowed_leaf.ensures in
    map_on_ok c.add_piece.result _ _
    (λ added. record { pieces = c.narrowed_leaf.result ∷ []; added = added; spelled = spelled }) c.add_piece.ensures

pub add_narrowed_formula-returns-in-All : goal.add_narrowed_formula-returns-in-All
add_narrowed_formula-returns-in-All t c =
    let names : List (List ℕ) = c.args.self.now.names in
    let f : Formula = c.args.formula.now in
    let fs : List Formula = map (narrowed_formula names) c.in-All.parts in
    let sound : IsSoundGate (length c.in-All.parts) c.in-All.parts f =
    IsSoundGate-All f c.in-All.parts c.in-All.is c.requires.sound in
    let need_one : 1 ≤ c.len.result = omega (arith, sound.parts_sound.need_one, c.len.ensures) in
    let gate : IsGate c.len.result fs (narrowed_formula names f) =
    subst (λ g. IsGate c.len.result fs (narrowed_formula names g)) (sym c.in-All.is)
    (subst (λ n. IsGate n fs (narrowed_formula names (formula.All c.in-All.parts))) (sym c.len.ensures)
    (IsGate-All-narrowed names c.in-All.parts)) in
    map_on_ok c.add_narrowed_gate.result _ _
    (AddsSpelled-gate names c.len.result fs (narrowed_formula names f) c.args.pieces.now c.add_narrowed_gate.new.pieces
    need_one gate)
    c.add_narrowed_gate.ensures

pub add_narrowed_formula-returns-in-Any : goal.add_narrowed_formula-returns-in-Any
add_narrowed_formula-returns-in-Any t c =
    let names : List (List ℕ) = c.args.self.now.names in
    let f : Formula = c.args.formula.now in
    let fs : List Formula = map (narrowed_formula names) c.in-Any.parts in
    let gate : IsGate 1 fs (narrowed_formula names f) =
    subst (λ g. IsGate 1 fs (narrowed_formula names g)) (sym c.in-Any.is) (IsGate-Any-narrowed names c.in-Any.parts) in
    map_on_ok c.add_narrowed_gate-in-Any.result _ _
    (AddsSpelled-gate names 1 fs (narrowed_formula names f) c.args.pieces.now c.add_narrowed_gate-in-Any.new.pieces
    (omega arith) gate)
    c.add_narrowed_gate-in-Any.ensures

pub add_narrowed_formula-returns-in-Threshold : goal.add_narrowed_formula-returns-in-Threshold
add_narrowed_formula-returns-in-Threshold t c =
    let names : List (List ℕ) = c.args.self.now.names in
    let f : Formula = c.args.formula.now in
    let need : ℕ = c.in-Threshold.need in
    let fs : List Formula = map (narrowed_formula names) c.in-Threshold.list in
    let sound : IsSoundGate need c.in-Threshold.list f =
    IsSoundGate-Threshold f need c.in-Threshold.list c.in-Threshold.is c.requires.sound in
    let gate : IsGate need fs (narrowed_formula names f) =
    subst (λ g. IsGate need fs (narrowed_formula names g)) (sym c.in-Threshold.is)
    (IsGate-Threshold-narrowed names need c.in-Threshold.list) in
    map_on_ok c.add_narrowed_gate-in-Threshold.result _ _
    (AddsSpelled-gate names need fs (narrowed_formula names f) c.args.pieces.now
    c.add_narrowed_gate-in-Threshold.new.pieces sound.parts_sound.need_one gate)
    c.add_narrowed_gate-in-Threshold.ensures

pub add_narrowed_gate-add_narrowed_formula-requires : goal.add_narrowed_gate-add_narrowed_formula-requires
add_narrowed_gate-add_narrowed_formula-requires t c =
    let items : c.as_slice-part-items.result.now ≡ c.args.parts.now = c.as_slice-part-items.ensures in
    let i : ℕ = c.loop-part.part-index in
    let part : Formula = c.part-item.result in
    let within : i < length c.args.parts.now = omega (arith, ap length items) in
    let here : part ≡ get_or c.args.parts.now i part = c.part-item.is ∙ ap (λ ps. get_or ps i part) items in (
      omega (arith, total-part c.args.parts.now i part within here, c.decreases),
      ap is_sound here ∙ c.requires.sound i part within,
    )

pub add_narrowed_gate-loop-part-init : goal.add_narrowed_gate-loop-part-init
add_narrowed_gate-loop-part-init t c = AddsSpelled-none c.args.self.now.names c.add_piece.new.pieces

pub add_narrowed_gate-loop-part-preserved : goal.add_narrowed_gate-loop-part-preserved
add_narrowed_gate-loop-part-preserved t c =
    let names : List (List ℕ) = c.args.self.now.names in
    let items : c.as_slice-part-items.result.now ≡ c.args.parts.now = c.as_slice-part-items.ensures in
    let i : ℕ = c.loop-part.part-index in
    let part : Formula = c.part-item.result in
    let within : i < length c.args.parts.now = omega (arith, ap length items) in
    let here : part ≡ get_or c.args.parts.now i part = c.part-item.is ∙ ap (λ ps. get_or ps i part) items in
    subst (λ fs. AddsSpelled names fs c.add_piece.new.pieces c.add_narrowed_formula.new.pieces)
    (narrowed-more names c.args.parts.now i part within here)
    (AddsSpelled-then names names (λ p name number. number) (map (narrowed_formula names) (take i c.args.parts.now))
    (narrowed_formula names part) c.add_piece.new.pieces c.loop-part.pieces c.add_narrowed_formula.new.pieces
    c.loop-part.invariant c.in_ok-add_narrowed_formula.ensures)

pub add_narrowed_gate-returns : goal.add_narrowed_gate-returns
add_narrowed_gate-returns t c =
    let names : List (List ℕ) = c.args.self.now.names in
    let fs : List Formula = map (narrowed_formula names) c.args.parts.now in
    let count : length fs ≡ length c.args.parts.now = simp length-map in
    let all : take c.loop-part.part-index c.args.parts.now ≡ c.args.parts.now =
    take_all c.loop-part.part-index c.args.parts.now (omega (arith, ap length c.as_slice-part-items.ensures)) in
    AddsGate-parts names c.args.need fs c.args.pieces.now c.add_piece.new.pieces c.loop-part.pieces
    (c.in_ok-add_piece.ensures
    ∙ ap (λ n. c.args.pieces.now ++ P.Gate c.args.need n ∷ []) (c.len-count.ensures ∙ sym count))
    (subst (λ ps. AddsSpelled names (map (narrowed_formula names) ps) c.add_piece.new.pieces c.loop-part.pieces) all
    c.loop-part.invariant)
