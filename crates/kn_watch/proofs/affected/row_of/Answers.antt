use Rattle.std.proofs.Common.{◌≡◌, ◌+◌, ◌-◌, ◌<◌, ℕ, length, sym, ◌∙◌, subst, arith}
use Rattle.kn_system.specs.declared.nodes.Up.TheVariants.{Node, Row}
use Rattle.kn_system.specs.Equations.{SystemEquations, row_at}
use Rattle.kn_settle.proofs.GateClimbs.{within-more, within-tick}
use Rattle.kn_watch.specs.Climbing.{place_of_node, row_of_node}
use Rattle.kn_watch.proofs.Nodes.{IsNodeOf, LeadsOn, node-of, up-leads}
use Rattle.kn_watch.proofs.affected.row_of.Goals as goal

pub returns-in-Row-clause-exact : goal.returns-in-Row-clause-exact
returns-in-Row-clause-exact g c =
    let s : SystemEquations = c.args.system.now in
    let at : ℕ = c.loop-row.at in
    let leads : LeadsOn s.rows at c.node.result.up =
    subst (LeadsOn s.rows at) (sym c.node.ensures.up)
    (up-leads s at (Row 0) c.requires.well_formed c.loop-row.invariant.inside) in
    let here : LeadsOn s.rows at (Row c.in-Row.row) = subst (LeadsOn s.rows at) c.in-Row.is leads in
    here ∙ c.loop-row.invariant.row

pub returns-in-Row-clause-in_range : goal.returns-in-Row-clause-in_range
returns-in-Row-clause-in_range g c =
    let s : SystemEquations = c.args.system.now in
    let at : ℕ = c.loop-row.at in
    let leads : LeadsOn s.rows at c.node.result.up =
    subst (LeadsOn s.rows at) (sym c.node.ensures.up)
    (up-leads s at (Row 0) c.requires.well_formed c.loop-row.invariant.inside) in
    let here : LeadsOn s.rows at (Row c.in-Row.row) = subst (LeadsOn s.rows at) c.in-Row.is leads in
    subst (λ r. r < length s.rows) (sym here) (node-of s.rows at c.loop-row.invariant.inside).named

pub returns-in-Row-clause-ticks : goal.returns-in-Row-clause-ticks
returns-in-Row-clause-ticks g c =
    let s : SystemEquations = c.args.system.now in
    let at : ℕ = c.loop-row.at in
    let leads : LeadsOn s.rows at c.node.result.up =
    subst (LeadsOn s.rows at) (sym c.node.ensures.up)
    (up-leads s at (Row 0) c.requires.well_formed c.loop-row.invariant.inside) in
    let here : LeadsOn s.rows at (Row c.in-Row.row) = subst (LeadsOn s.rows at) c.in-Row.is leads in
    let same : row_of_node s.rows c.args.node ≡ c.in-Row.row = sym (here ∙ c.loop-row.invariant.row) in
    let stands : IsNodeOf s.rows c.args.node (row_of_node s.rows c.args.node) (place_of_node s.rows c.args.node) =
    node-of s.rows c.args.node c.requires.in_range in
    let inside : place_of_node s.rows c.args.node < length (row_at s.rows c.in-Row.row).formula =
    subst (λ r. place_of_node s.rows c.args.node < length (row_at s.rows r).formula) same stands.inside in
    let far : ℕ = place_of_node s.rows c.args.node - place_of_node s.rows at in
    within-more (far + 1) (length (row_at s.rows c.in-Row.row).formula) c.args.steps.now c.node.new.steps
    (omega (arith, inside))
    (within-tick far c.args.steps.now c.loop-row.steps c.node.new.steps c.loop-row.invariant.ticks
    c.node.ensures.ticks)

pub loop-row-smaller : goal.loop-row-smaller
loop-row-smaller g c =
    let s : SystemEquations = c.args.system.now in
    let at : ℕ = c.loop-row.at in
    let leads : LeadsOn s.rows at c.node.result.up =
    subst (LeadsOn s.rows at) (sym c.node.ensures.up)
    (up-leads s at (Row 0) c.requires.well_formed c.loop-row.invariant.inside) in
    let here : LeadsOn s.rows at (Node c.in-Node.gate) = subst (LeadsOn s.rows at) c.in-Node.is leads in
    omega (arith, here.0)

pub loop-row-preserved : goal.loop-row-preserved
loop-row-preserved g c =
    let s : SystemEquations = c.args.system.now in
    let at : ℕ = c.loop-row.at in
    let leads : LeadsOn s.rows at c.node.result.up =
    subst (LeadsOn s.rows at) (sym c.node.ensures.up)
    (up-leads s at (Row 0) c.requires.well_formed c.loop-row.invariant.inside) in
    let (before, same, place) : LeadsOn s.rows at (Node c.in-Node.gate) =
    subst (LeadsOn s.rows at) c.in-Node.is leads in
    let far : ℕ = place_of_node s.rows c.args.node - place_of_node s.rows at in
    record {
      inside = omega (arith, before, c.loop-row.invariant.inside);
      row = same ∙ c.loop-row.invariant.row;
      place = omega (arith, place, c.loop-row.invariant.place);
      ticks = within-more (far + 1) (place_of_node s.rows c.args.node - place_of_node s.rows c.in-Node.gate)
          c.args.steps.now c.node.new.steps (omega (arith, place, c.loop-row.invariant.place))
          (within-tick far c.args.steps.now c.loop-row.steps c.node.new.steps c.loop-row.invariant.ticks
          c.node.ensures.ticks);
    }
