use Rattle.std.proofs.Common.{◌≡◌, map, take}
use Rattle.kn_meaning.specs.Tables.{level_in}
use Rattle.kn_meaning.specs.Formulas.{formula_level}
use Rattle.kn_meaning.proofs.plain.+formula.Given as goal

abbrev pub invariant-part_levels-loop-part : goal.invariant-part_levels-loop-part
invariant-part_levels-loop-part l = l.levels ≡ map (formula_level l.top (level_in l.table)) (take l.part-index l.parts)
