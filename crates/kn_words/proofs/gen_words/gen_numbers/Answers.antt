use Rattle.std.proofs.Common.{◌≡◌, length, arith}
use Rattle.kn_words.proofs.GenWords.{spell_gen, gen_some, gen_none}
use Rattle.kn_words.proofs.gen_words.gen_numbers.Goals as goal

pub returns-clause-some : goal.returns-clause-some
returns-clause-some c =
    let three : length c.args.words.now ≡ 3 = omega arith in
    gen_some c.args.words.now c.as_slice-2.result.now c.as_slice-3.result.now c.numbers_of.result
    (spell_gen c.args.words.now c.index-words-0.result c.index-words-1.result c.index-words-2.result
    c.as_slice.result.now c.as_slice-else-words-ne3.result.now c.as_slice-2.result.now c.as_slice-3.result.now
    c.ne.result
    three c.index-words-0.is c.index-words-1.is c.index-words-2.is c.as_slice-2.ensures c.as_slice-3.ensures
    c.as_slice.ensures c.as_slice-else-words-ne3.ensures c.ne.ensures c.if-ne.false)
    c.numbers_of.ensures.some

pub returns-clause-none : goal.returns-clause-none
returns-clause-none c =
    let three : length c.args.words.now ≡ 3 = omega arith in
    gen_none c.args.words.now c.as_slice-2.result.now c.as_slice-3.result.now c.numbers_of.result
    (spell_gen c.args.words.now c.index-words-0.result c.index-words-1.result c.index-words-2.result
    c.as_slice.result.now c.as_slice-else-words-ne3.result.now c.as_slice-2.result.now c.as_slice-3.result.now
    c.ne.result
    three c.index-words-0.is c.index-words-1.is c.index-words-2.is c.as_slice-2.ensures c.as_slice-3.ensures
    c.as_slice.ensures c.as_slice-else-words-ne3.ensures c.ne.ensures c.if-ne.false)
    c.numbers_of.ensures.none
