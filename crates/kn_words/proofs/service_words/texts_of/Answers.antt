use Rattle.std.proofs.Common.{rules, arith}
use Rattle.std.proofs.lemmas.List.Elements.{All-nil}
use Rattle.std.specs.Str.{IsUtf8}
use Rattle.kn_words.proofs.Texts.{one_more, all_texts, not_all}
use Rattle.kn_words.proofs.service_words.texts_of.Goals as goal

pub loop-word-init : goal.loop-word-init
loop-word-init c = record { same = search rules; all = All-nil IsUtf8 }

pub loop-word-preserved : goal.loop-word-preserved
loop-word-preserved c =
    one_more _ _ _ _ _ _ _ c.loop-word.invariant c.loop-word-test.true c.word-item.is c.as_slice.ensures
    c.in-Ok.ensures.cases.0 c.in-Ok.ensures.cases.1 c.in-Ok-push.ensures.items

pub returns-in-Err-clause-none : goal.returns-in-Err-clause-none
returns-in-Err-clause-none c = not_all _ _ _ _ c.loop-word-test.true c.word-item.is c.as_slice.ensures
    c.in-Err.ensures.cases.0

pub returns-clause-texts : goal.returns-clause-texts
returns-clause-texts c = let whole = all_texts _ _ _ c.loop-word.invariant (omega (arith, c.loop-word-test.false)) in
    (whole.same, whole.all)
