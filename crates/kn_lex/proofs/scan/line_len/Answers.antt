use Rattle.std.proofs.Common.{Some, None, sym}
use Rattle.memchr.specs.Find.{is_byte}
use Rattle.kn_lex.proofs.Firsts.{run_by_first}
use Rattle.kn_lex.proofs.scan.line_len.Goals as goal

pub returns-in-Some-clause-len : goal.returns-in-Some-clause-len
returns-in-Some-clause-len c = sym (run_by_first (is_byte 10) _ (Some _) c.in-Some.ensures)

pub returns-in-None-clause-len : goal.returns-in-None-clause-len
returns-in-None-clause-len c = sym (run_by_first (is_byte 10) _ None c.in-None.ensures)
