use Rattle.std.proofs.Common.{◌≡◌, ◌≤◌, length, ap, arith}
use Rattle.std.proofs.lemmas.List.{length-map}
use Rattle.kn_system.specs.Equations.{row_at}
use Rattle.kn_system.specs.LinkedNodes.{node_pieces}
use Rattle.kn_system.proofs.RowReadings.{pieces_read, behind_one}
use Rattle.kn_system.proofs.system.System.form_value.Goals as goal

pub level_at-requires-clause-spelt : goal.level_at-requires-clause-spelt
level_at-requires-clause-spelt g c =
    (pieces_read c.args.self.now c.args.row (node_pieces c.formula.result.now) c.args.values.now
    c.formula.ensures.well_formed
    c.requires.row_in_range c.requires.one_each c.formula.ensures.exact).spelt

pub level_at-requires-clause-at_in_range : goal.level_at-requires-clause-at_in_range
level_at-requires-clause-at_in_range g c =
    let count : length (node_pieces c.formula.result.now) ≡ length c.formula.result.now = simp length-map in
    let some = (pieces_read c.args.self.now c.args.row (node_pieces c.formula.result.now) c.args.values.now
    c.formula.ensures.well_formed
    c.requires.row_in_range c.requires.one_each c.formula.ensures.exact).some in
    omega (arith, some, count)

pub returns-clause-ticks : goal.returns-clause-ticks
returns-clause-ticks g c =
    let s = c.args.self.now in
    let pieces = node_pieces c.formula.result.now in
    let read = pieces_read s c.args.row pieces c.args.values.now c.formula.ensures.well_formed c.requires.row_in_range
    c.requires.one_each c.formula.ensures.exact in
    let count : length pieces ≡ length c.formula.result.now = simp length-map in
    let inside : c.level_at.result.1 ≤ length pieces = omega (arith, c.level_at.ensures.inside, count) in
    let all : c.level_at.result.1 ≡ length pieces =
    behind_one _ c.level_at.result.0 c.level_at.result.1 c.args.values.now pieces read.one inside
    c.level_at.ensures.level in
    let size : length pieces ≡ length (row_at s.rows c.args.row).formula = ap length c.formula.ensures.exact in
    omega (arith, c.level_at.ensures.ticks)
