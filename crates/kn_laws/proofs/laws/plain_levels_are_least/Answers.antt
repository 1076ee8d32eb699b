use Rattle.std.proofs.Common.{refl}
use Rattle.kn_meaning.specs.Tables.{level_in, last_table}
use Rattle.kn_laws.proofs.PlainTables.{table-is_least}
use Rattle.kn_laws.proofs.laws.plain_levels_are_least.Goals as goal

pub returns-clause-least : goal.returns-clause-least
returns-clause-least c = table-is_least

pub returns-clause-policy : goal.returns-clause-policy
returns-clause-policy c top requesters stated =
    record {
      levels = level_in (last_table top requesters stated);
      least = table-is_least top requesters stated;
      here =
          refl;
    }
