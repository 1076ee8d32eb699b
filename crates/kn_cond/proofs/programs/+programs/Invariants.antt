use Rattle.std.proofs.Common.{◌≡◌, ◌<◌, true, max, map, drop, length}
use Rattle.std.specs.List.{list_any}
use Rattle.kn_cond.specs.Joining.{clause_joins, program_joins}
use Rattle.kn_cond.specs.Programs.{highest, clause_value, program_value}
use Rattle.kn_cond.proofs.programs.+programs.Given as goal

abbrev pub invariant-conditions_value-loop-clause : goal.invariant-conditions_value-loop-clause
invariant-conditions_value-loop-clause l = record {
  value : max l.highest (highest (map (clause_value l.env) (drop l.clause-index l.clause-items)))
      ≡ program_value l.env l.program;
  memory : list_any clause_joins (drop l.clause-index l.clause-items) ≡ true → program_joins l.program ≡ true;
  within : 0 < length l.env.asked.values → l.highest < length l.env.asked.values;
}
