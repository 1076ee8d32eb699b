use Rattle.kn_lex.proofs.Firsts.{zero_taken}
use Rattle.kn_lex.proofs.place_faults.clean_lexeme.Goals as goal

pub lexeme_fault-requires-clause-no_zero : goal.lexeme_fault-requires-clause-no_zero
lexeme_fault-requires-clause-no_zero c none = rw c.split_at.ensures.front (zero_taken _ _ (c.requires.no_zero none))
