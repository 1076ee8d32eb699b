use Rattle.std.proofs.Common.{◌≡◌, drop}
use Rattle.std.specs.List.{list_all}
use Rattle.kn_trees.specs.Kinds.{is_clause_well_kinded, is_well_kinded}
use Rattle.kn_trees.proofs.typing.+programs.Given as goal

abbrev pub invariant-is_well_kinded-loop-clause : goal.invariant-is_well_kinded-loop-clause
invariant-is_well_kinded-loop-clause l = list_all is_clause_well_kinded (drop l.clause-index l.clause-items)
    ≡ is_well_kinded l.program
