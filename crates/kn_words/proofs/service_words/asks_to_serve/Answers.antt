use Rattle.std.proofs.Common.{codes}
use Rattle.kn_words.proofs.CommandWords.{first_word}
use Rattle.kn_words.proofs.service_words.asks_to_serve.Goals as goal

pub returns-then-not-is_empty-clause-yes : goal.returns-then-not-is_empty-clause-yes
returns-then-not-is_empty-clause-yes c =
    first_word c.args.words.now _ _ _ (codes "serve") _ _ c.is_empty.ensures c.if-not-is_empty.true c.index-words-0.is
    c.as_slice.ensures c.as_slice-then-not-is_empty.ensures c.eq.ensures
