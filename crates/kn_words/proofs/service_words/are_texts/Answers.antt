use Rattle.std.proofs.Common.{arith}
use Rattle.std.proofs.lemmas.List.Elements.{All-nil}
use Rattle.std.specs.Str.{IsUtf8}
use Rattle.kn_words.proofs.Texts.{not_all, texts_more, texts_whole}
use Rattle.kn_words.proofs.service_words.are_texts.Goals as goal

pub loop-word-init : goal.loop-word-init
loop-word-init c = All-nil IsUtf8

pub loop-word-preserved : goal.loop-word-preserved
loop-word-preserved c = texts_more _ _ _ _ c.loop-word.invariant c.loop-word-test.true c.word-item.is
    c.as_slice.ensures c.in-Ok.ensures.cases.1

pub returns-in-Err-clause-no : goal.returns-in-Err-clause-no
returns-in-Err-clause-no c = not_all _ _ _ _ c.loop-word-test.true c.word-item.is c.as_slice.ensures
    c.in-Err.ensures.cases.0

pub returns-clause-yes : goal.returns-clause-yes
returns-clause-yes c = texts_whole _ _ c.loop-word.invariant (omega (arith, c.loop-word-test.false))
