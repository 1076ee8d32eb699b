use Rattle.std.proofs.Common.{◌≡◌, ◌+◌, ◌<◌, List, ℕ, take, drop, length, sym, subst, ◌∙◌, arith, rules}
use Rattle.std.proofs.lemmas.List.{length-map, length-set, length-take}
use Rattle.kn_system.specs.declared.rows.Piece.TheVariants.{Who}
use Rattle.kn_system.specs.Form.{form_levels}
use Rattle.kn_system.specs.Forms.{AreTallied}
use Rattle.kn_system.specs.LinkedNodes.{node_pieces}
use Rattle.kn_system.proofs.FormulasBehind.{AreTallied-push, drop_next, gate_done, gate_read, levels_taken-le}
use Rattle.kn_system.proofs.FormulasBehind.{next_within, often-le, take_next, who_done, who_read}
use Rattle.kn_system.proofs.LinkedUses.{read_at}
use Rattle.kn_system.proofs.formula.+level_at.Goals as goal

pub bounds-values-principal : goal.bounds-values-principal
bounds-values-principal g t c =
    let (within, is) =
    read_at c.args.nodes.now c.args.at _ _ c.requires.at_in_range c.index-nodes-at.is (sym c.in-Who.is
    ∙ c.piece.ensures) in
    who_read (length c.args.values.now) c.args.at c.in-Who.principal (node_pieces c.args.nodes.now) (Who 0)
    c.requires.spelt within is

pub returns-in-Who-clause-level : goal.returns-in-Who-clause-level
returns-in-Who-clause-level g t c =
    let (within, is) = read_at c.args.nodes.now c.args.at _ _ c.requires.at_in_range c.index-nodes-at.is
    (sym c.in-Who.is ∙ c.piece.ensures) in
    who_done c.args.top c.args.at c.in-Who.principal c.args.values.now (node_pieces c.args.nodes.now) (Who 0) within is

pub level_at-level-requires : goal.level_at-level-requires
level_at-level-requires g t c κs within =
    let (within_all, is) = read_at c.args.nodes.now c.args.at _ _ c.requires.at_in_range c.index-nodes-at.is
    (sym c.in-Gate.is ∙ c.piece.ensures) in
    let enough = gate_read (length c.args.values.now) c.args.at c.in-Gate.need c.in-Gate.count
    (node_pieces c.args.nodes.now) (Who 0) c.requires.spelt within_all is in
    let count : length (node_pieces c.args.nodes.now) ≡ length c.args.nodes.now = simp length-map in
    let inside_all : c.loop-part.next < length (node_pieces c.args.nodes.now) =
    next_within c.args.top c.args.at c.loop-part.next c.loop-part._part c.in-Gate.count c.args.values.now
    (node_pieces c.args.nodes.now) enough c.loop-part-test.true c.loop-part.invariant.rest in
    let inside : c.loop-part.next < length c.args.nodes.now = omega (arith, inside_all, count) in
    search (rules, inside)

pub overflow_add-tally : goal.overflow_add-tally
overflow_add-tally g t c =
    let behind : List ℕ =
    form_levels c.args.top c.args.values.now (drop (c.args.at + 1) (node_pieces c.args.nodes.now)) in
    let level = c.level_at-level.result.0 in
    omega (
      arith,
      c.loop-part.invariant.tallied level (omega (arith, c.level_at-level.ensures.low)),
      often-le level (take c.loop-part._part behind),
      length-take c.loop-part._part behind,
    )

pub loop-part-preserved : goal.loop-part-preserved
loop-part-preserved g t c =
    let behind : List ℕ =
    form_levels c.args.top c.args.values.now (drop (c.args.at + 1) (node_pieces c.args.nodes.now)) in
    let part = c.loop-part._part in
    let level = c.level_at-level.result.0 in
    let after : List ℕ =
    form_levels c.args.top c.args.values.now (drop c.level_at-level.result.1 (node_pieces c.args.nodes.now)) in
    let read = c.loop-part.invariant.rest ∙ c.level_at-level.ensures.level in
    record {
      further = omega (arith, c.level_at-level.ensures.further);
      inside = c.level_at-level.ensures.inside;
      rest = drop_next behind part level after read;
      tallied =
          subst (AreTallied _) (sym (take_next behind part level after read))
          (AreTallied-push c.loop-part.tally (take part behind) level c.loop-part.invariant.size
          (omega (arith, c.level_at-level.ensures.low)) c.loop-part.invariant.tallied);
      ticks = omega (
        arith,
        c.loop-part.invariant.ticks,
        c.loop-part.invariant.further,
        c.level_at-level.ensures.ticks,
        c.level_at-level.ensures.further,
      );
      size = length-set c.loop-part.tally level _ ∙ c.loop-part.invariant.size;
    }

pub returns-after-loop-part-clause-level : goal.returns-after-loop-part-clause-level
returns-after-loop-part-clause-level g t c =
    let behind : List ℕ =
    form_levels c.args.top c.args.values.now (drop (c.args.at + 1) (node_pieces c.args.nodes.now)) in
    let part = c.loop-part._part in
    let (within, is) =
    read_at c.args.nodes.now c.args.at _ _ c.requires.at_in_range c.index-nodes-at.is (sym c.in-Gate.is
    ∙ c.piece.ensures) in
    gate_done c.args.top c.args.at c.loop-part.next part c.in-Gate.need c.in-Gate.count c.threshold_of.result
    c.args.values.now (node_pieces c.args.nodes.now) (Who 0)
    within is (omega arith) c.loop-part.invariant.rest
    (c.threshold_of.ensures.exact (take part behind) c.loop-part.invariant.tallied
    (levels_taken-le c.args.top part c.args.values.now (drop (c.args.at + 1) (node_pieces c.args.nodes.now))
    c.requires.low))
