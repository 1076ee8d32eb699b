use Rattle.std.proofs.Common.{◌≡◌, ℕ, ◌+◌, ◌<◌, ◌≤◌, List, [], ◌∷◌, ◌++◌, length, map, flat_map, take, get_or, sym, ap}
use Rattle.std.proofs.Common.{◌∙◌, subst, arith}
use Rattle.std.proofs.lemmas.List.{take_more, take_all}
use Rattle.kn_trees.specs.declared.formula.Formula.{Formula}
use Rattle.kn_trees.specs.Formulas.{formula_nodes, is_sound, total}
use Rattle.kn_system.specs.declared.rows.Piece.TheVariants as P
use Rattle.kn_meaning.specs.Occurring.{formula_names}
use Rattle.kn_rows.specs.Numbering.{IsNumber}
use Rattle.kn_rows.specs.Extending.{Extends}
use Rattle.kn_rows.specs.Spelling.{AddsSpelled}
use Rattle.kn_rows.proofs.NamesAdded.{length-with_name}
use Rattle.kn_rows.proofs.FormulaFolds.{IsSoundGate, IsSoundGate-All, IsSoundGate-Any, IsSoundGate-Threshold}
use Rattle.kn_rows.proofs.FormulaFolds.{formula_nodes-Who, formula_names-Who, total-part, total-more, flat_map-more}
use Rattle.kn_rows.proofs.NewNames.{Extends-none, Extends-then, Extends-within, known_on_ok, map_on_ok}
use Rattle.kn_rows.proofs.FormulaPieces.{AddsSpelled-Who, AddsSpelled-gate, AddsSpelled-none, AddsSpelled-then}
use Rattle.kn_rows.proofs.FormulaPieces.{AddsGate-parts}
use Rattle.kn_rows.proofs.numbered.Numbered.+formula.Goals as goal

pub add_formula-number-requires-clause-few : goal.add_formula-number-requires-clause-few
add_formula-number-requires-clause-few t c =
    let one : formula_nodes c.args.formula.now ≡ 1 = ap formula_nodes c.in-Who.is ∙ formula_nodes-Who c.in-Who.name in
    omega (arith, length-with_name c.args.self.now.names c.as_slice.result.now)

pub add_formula-add_gate-requires : goal.add_formula-add_gate-requires
add_formula-add_gate-requires t c =
    let gate = IsSoundGate-All c.args.formula.now c.in-All.parts c.in-All.is c.requires.sound in (
      omega (arith, gate.gate.nodes, c.decreases),
      (
        omega (arith, gate.parts_sound.need_one, c.len.ensures),
        (gate.parts_sound.each, (omega (arith, gate.gate.nodes, c.requires.few), c.requires.one_each)),
      ),
    )

pub add_formula-add_gate-requires-in-Any : goal.add_formula-add_gate-requires-in-Any
add_formula-add_gate-requires-in-Any t c =
    let gate = IsSoundGate-Any c.args.formula.now c.in-Any.parts c.in-Any.is c.requires.sound in (
      omega (arith, gate.gate.nodes, c.decreases),
      (omega arith, (gate.parts_sound.each, (omega (arith, gate.gate.nodes, c.requires.few), c.requires.one_each))),
    )

pub add_formula-add_gate-requires-in-Threshold : goal.add_formula-add_gate-requires-in-Threshold
add_formula-add_gate-requires-in-Threshold t c =
    let gate = IsSoundGate-Threshold c.args.formula.now c.in-Threshold.need c.in-Threshold.list c.in-Threshold.is
    c.requires.sound in (
      omega (arith, gate.gate.nodes, c.decreases),
      (
        gate.parts_sound.need_one,
        (gate.parts_sound.each, (omega (arith, gate.gate.nodes, c.requires.few), c.requires.one_each)),
      ),
    )

pub add_formula-returns-in_ok-number-in-Who-clause-grown : goal.add_formula-returns-in_ok-number-in-Who-clause-grown
add_formula-returns-in_ok-number-in-Who-clause-grown t c =
    let one : formula_nodes c.args.formula.now ≡ 1 = ap formula_nodes c.in-Who.is ∙ formula_nodes-Who c.in-Who.name in
    let named : c.as_slice.result.now ∷ [] ≡ formula_names c.args.formula.now = ap (λ n. n ∷ []) c.as_slice.ensures
    ∙ sym (ap formula_names c.in-Who.is ∙ formula_names-Who c.in-Who.name) in
    known_on_ok c.add_piece.result _
    (Extends-within 1 (formula_nodes c.args.formula.now) (c.as_slice.result.now ∷ [])
    (formula_names c.args.formula.now) c.args.self.now c.number.new.self (omega arith) named
    c.in_ok-number-in-Who.ensures.ok)

pub add_formula-returns-in_ok-number-in-Who-clause-spelled : goal.add_formula-returns-in_ok-number-in-Who-clause-spelled
add_formula-returns-in_ok-number-in-Who-clause-spelled t c =
    let names : List (List ℕ) = c.number.new.self.names in
    let here : IsNumber names c.in-Who.name c.in_ok-number-in-Who.number =
    subst (λ name. IsNumber names name c.in_ok-number-in-Who.number) c.as_slice.ensures
    c.in_ok-number-in-Who.ensures.number in
    map_on_ok c.add_piece.result _ _
    (λ added. subst (λ f. AddsSpelled names (f ∷ []) c.args.pieces.now c.add_piece.new.pieces) (sym c.in-Who.is)
    (AddsSpelled-Who names c.in-Who.name c.in_ok-number-in-Who.number c.args.pieces.now c.add_piece.new.pieces here
    added))
    c.add_piece.ensures

pub add_formula-returns-in-All-clause-grown : goal.add_formula-returns-in-All-clause-grown
add_formula-returns-in-All-clause-grown t c =
    let gate : IsSoundGate c.len.result c.in-All.parts c.args.formula.now =
    subst (λ n. IsSoundGate n c.in-All.parts c.args.formula.now) (sym c.len.ensures)
    (IsSoundGate-All c.args.formula.now c.in-All.parts c.in-All.is c.requires.sound) in
    map_on_ok c.add_gate.result _ _
    (Extends-within (total (map formula_nodes c.in-All.parts)) (formula_nodes c.args.formula.now)
    (flat_map formula_names c.in-All.parts) (formula_names c.args.formula.now) c.args.self.now c.add_gate.new.self
    (omega (arith, gate.gate.nodes)) (sym gate.gate.names)) c.add_gate.ensures.grown

pub add_formula-returns-in-All-clause-spelled : goal.add_formula-returns-in-All-clause-spelled
add_formula-returns-in-All-clause-spelled t c =
    let gate : IsSoundGate c.len.result c.in-All.parts c.args.formula.now =
    subst (λ n. IsSoundGate n c.in-All.parts c.args.formula.now) (sym c.len.ensures)
    (IsSoundGate-All c.args.formula.now c.in-All.parts c.in-All.is c.requires.sound) in
    map_on_ok c.add_gate.result _ _
    (AddsSpelled-gate c.add_gate.new.self.names c.len.result c.in-All.parts c.args.formula.now c.args.pieces.now
    c.add_gate.new.pieces gate.parts_sound.need_one gate.gate) c.add_gate.ensures.spelled

pub add_formula-returns-in-Any-clause-grown : goal.add_formula-returns-in-Any-clause-grown
add_formula-returns-in-Any-clause-grown t c =
    let gate : IsSoundGate 1 c.in-Any.parts c.args.formula.now =
    IsSoundGate-Any c.args.formula.now c.in-Any.parts c.in-Any.is c.requires.sound in
    map_on_ok c.add_gate-in-Any.result _ _
    (Extends-within (total (map formula_nodes c.in-Any.parts)) (formula_nodes c.args.formula.now)
    (flat_map formula_names c.in-Any.parts) (formula_names c.args.formula.now) c.args.self.now
    c.add_gate-in-Any.new.self (omega (arith, gate.gate.nodes)) (sym gate.gate.names))
    c.add_gate-in-Any.ensures.grown

pub add_formula-returns-in-Any-clause-spelled : goal.add_formula-returns-in-Any-clause-spelled
add_formula-returns-in-Any-clause-spelled t c =
    let gate : IsSoundGate 1 c.in-Any.parts c.args.formula.now =
    IsSoundGate-Any c.args.formula.now c.in-Any.parts c.in-Any.is c.requires.sound in
    map_on_ok c.add_gate-in-Any.result _ _
    (AddsSpelled-gate c.add_gate-in-Any.new.self.names 1 c.in-Any.parts c.args.formula.now c.args.pieces.now
    c.add_gate-in-Any.new.pieces gate.parts_sound.need_one gate.gate) c.add_gate-in-Any.ensures.spelled

pub add_formula-returns-in-Threshold-clause-grown : goal.add_formula-returns-in-Threshold-clause-grown
add_formula-returns-in-Threshold-clause-grown t c =
    let gate : IsSoundGate c.in-Threshold.need c.in-Threshold.list c.args.formula.now =
    IsSoundGate-Threshold c.args.formula.now c.in-Threshold.need c.in-Threshold.list c.in-Threshold.is
    c.requires.sound in
    map_on_ok c.add_gate-in-Threshold.result _ _
    (Extends-within (total (map formula_nodes c.in-Threshold.list)) (formula_nodes c.args.formula.now)
    (flat_map formula_names c.in-Threshold.list) (formula_names c.args.formula.now) c.args.self.now
    c.add_gate-in-Threshold.new.self (omega (arith, gate.gate.nodes)) (sym gate.gate.names))
    c.add_gate-in-Threshold.ensures.grown

pub add_formula-returns-in-Threshold-clause-spelled : goal.add_formula-returns-in-Threshold-clause-spelled
add_formula-returns-in-Threshold-clause-spelled t c =
    let gate : IsSoundGate c.in-Threshold.need c.in-Threshold.list c.args.formula.now =
    IsSoundGate-Threshold c.args.formula.now c.in-Threshold.need c.in-Threshold.list c.in-Threshold.is
    c.requires.sound in
    map_on_ok c.add_gate-in-Threshold.result _ _
    (AddsSpelled-gate c.add_gate-in-Threshold.new.self.names c.in-Threshold.need c.in-Threshold.list
    c.args.formula.now c.args.pieces.now c.add_gate-in-Threshold.new.pieces gate.parts_sound.need_one gate.gate)
    c.add_gate-in-Threshold.ensures.spelled

pub add_gate-add_formula-requires : goal.add_gate-add_formula-requires
add_gate-add_formula-requires t c =
    let items : c.as_slice-part-items.result.now ≡ c.args.parts.now = c.as_slice-part-items.ensures in
    let i : ℕ = c.loop-part.part-index in
    let within : i < length c.args.parts.now = omega (arith, ap length items) in
    let here : c.part-item.result ≡ get_or c.args.parts.now i c.part-item.result = c.part-item.is
    ∙ ap (λ ps. get_or ps i c.part-item.result) items in
    let nodes = total-part c.args.parts.now i c.part-item.result within here in
    let few : length c.loop-part.self.names ≤ length c.args.self.now.names
    + total (map formula_nodes (take i c.args.parts.now)) = c.loop-part.invariant.grown.few in (
      omega (arith, nodes, c.decreases),
      (
        ap is_sound here ∙ c.requires.sound i c.part-item.result within,
        (omega (arith, nodes, few, c.requires.few), c.loop-part.invariant.grown.one_each),
      ),
    )

pub add_gate-loop-part-init : goal.add_gate-loop-part-init
add_gate-loop-part-init t c = record {
  grown = Extends-none c.args.self.now c.requires.one_each;
  spelled = AddsSpelled-none c.args.self.now.names c.add_piece.new.pieces;
}

pub add_gate-loop-part-preserved : goal.add_gate-loop-part-preserved
add_gate-loop-part-preserved t c =
    let items : c.as_slice-part-items.result.now ≡ c.args.parts.now = c.as_slice-part-items.ensures in
    let i : ℕ = c.loop-part.part-index in
    let part : Formula = c.part-item.result in
    let within : i < length c.args.parts.now = omega (arith, ap length items) in
    let here : part ≡ get_or c.args.parts.now i part = c.part-item.is ∙ ap (λ ps. get_or ps i part) items in
    let longer : take i c.args.parts.now ++ part ∷ [] ≡ take (i + 1) c.args.parts.now =
    ap (λ p. take i c.args.parts.now ++ p ∷ []) here ∙ sym (take_more c.args.parts.now i part within) in
    let added : Extends (formula_nodes part) (formula_names part) c.loop-part.self c.add_formula.new.self =
    c.in_ok-add_formula.ensures.grown in
    record {
      grown = subst (λ n. Extends n (flat_map formula_names (take (i + 1) c.args.parts.now)) c.args.self.now
          c.add_formula.new.self) (sym (total-more c.args.parts.now i part within here))
          (subst (λ ns. Extends (total (map formula_nodes (take i c.args.parts.now)) + formula_nodes part) ns
          c.args.self.now c.add_formula.new.self)
          (sym (flat_map-more formula_names c.args.parts.now i part within here))
          (Extends-then (total (map formula_nodes (take i c.args.parts.now))) (formula_nodes part)
          (flat_map formula_names (take i c.args.parts.now)) (formula_names part) c.args.self.now c.loop-part.self
          c.add_formula.new.self c.loop-part.invariant.grown added));
      spelled = subst (λ ps. AddsSpelled c.add_formula.new.self.names ps c.add_piece.new.pieces
          c.add_formula.new.pieces) longer
          (AddsSpelled-then c.loop-part.self.names c.add_formula.new.self.names added.names.keeps
          (take i c.args.parts.now) part c.add_piece.new.pieces c.loop-part.pieces c.add_formula.new.pieces
          c.loop-part.invariant.spelled c.in_ok-add_formula.ensures.spelled);
    }

pub add_gate-returns-clause-grown : goal.add_gate-returns-clause-grown
add_gate-returns-clause-grown t c =
    let all : take c.loop-part.part-index c.args.parts.now ≡ c.args.parts.now =
    take_all c.loop-part.part-index c.args.parts.now (omega (arith, ap length c.as_slice-part-items.ensures)) in
    subst (λ ps. Extends (total (map formula_nodes ps)) (flat_map formula_names ps) c.args.self.now c.loop-part.self)
    all c.loop-part.invariant.grown

pub add_gate-returns-clause-spelled : goal.add_gate-returns-clause-spelled
add_gate-returns-clause-spelled t c =
    let all : take c.loop-part.part-index c.args.parts.now ≡ c.args.parts.now =
    take_all c.loop-part.part-index c.args.parts.now (omega (arith, ap length c.as_slice-part-items.ensures)) in
    AddsGate-parts c.loop-part.self.names c.args.need c.args.parts.now c.args.pieces.now c.add_piece.new.pieces
    c.loop-part.pieces
    (c.in_ok-add_piece.ensures ∙ ap (λ n. c.args.pieces.now ++ P.Gate c.args.need n ∷ []) c.len-count.ensures)
    (subst (λ ps. AddsSpelled c.loop-part.self.names ps c.add_piece.new.pieces c.loop-part.pieces) all
    c.loop-part.invariant.spelled)
