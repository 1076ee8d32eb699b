use Rattle.std.proofs.Common.{sym}
use Rattle.kn_lex.proofs.Firsts.{zero_by_first}
use Rattle.kn_lex.proofs.place_faults.zero_place.Goals as goal

pub returns-clause-place : goal.returns-clause-place
returns-clause-place c = sym (zero_by_first _ _ c.memchr.ensures)
