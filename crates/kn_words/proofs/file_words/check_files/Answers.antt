use Rattle.std.proofs.Common.{◌≡◌, length, arith}
use Rattle.kn_words.proofs.CommandWords.{spell_check}
use Rattle.kn_words.proofs.file_words.check_files.Goals as goal

pub returns-clause-some : goal.returns-clause-some
returns-clause-some c =
    let four : length c.args.words.now ≡ 4 = omega arith in
    spell_check c.args.words.now (record {
      policy = c.as_slice-2.result.now;
      script = c.as_slice-3.result.now;
      reply = c.as_slice-4.result.now;
    })
    c.index-words-0.result c.index-words-1.result c.index-words-2.result c.index-words-3.result c.as_slice.result.now
    c.as_slice-else-words-ne4.result.now c.ne.result
    four c.index-words-0.is c.index-words-1.is c.index-words-2.is c.index-words-3.is c.as_slice-2.ensures
    c.as_slice-3.ensures c.as_slice-4.ensures
    c.as_slice.ensures c.as_slice-else-words-ne4.ensures c.ne.ensures c.if-ne.false
