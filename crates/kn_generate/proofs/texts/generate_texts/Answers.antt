use Rattle.kn_generate.proofs.TextLemmas.{texts_more, texts_all}
use Rattle.kn_generate.proofs.texts.generate_texts.Goals as goal

pub loop-authorizer-preserved : goal.loop-authorizer-preserved
loop-authorizer-preserved c =
    texts_more c.args.start c.args.count c.loop-authorizer.authorizer c.loop-authorizer.draws.state
    c.draw_numbers-numbers.new.self.state c.loop-authorizer.texts c.push-in-loop-authorizer.new.texts
    c.in_ok-text.text c.draw_numbers-numbers.result c.loop-authorizer-test.true c.in_ok-push-2.ensures
    c.in_ok-text.ensures c.draw_numbers-numbers.ensures.numbers c.draw_numbers-numbers.ensures.state
    c.loop-authorizer.invariant

pub returns : goal.returns
returns c = texts_all c.args.start c.args.count c.loop-authorizer.authorizer c.loop-authorizer.draws.state
    c.loop-authorizer.texts c.loop-authorizer-test.false c.loop-authorizer.invariant
