use Rattle.std.proofs.Common.{◌≡◌, length, arith}
use Rattle.kn_words.proofs.CommandWords.{spell_follow}
use Rattle.kn_words.proofs.file_words.log_file.Goals as goal

pub returns-clause-some : goal.returns-clause-some
returns-clause-some c =
    let two : length c.args.words.now ≡ 2 = omega arith in
    spell_follow c.args.words.now c.as_slice-2.result.now c.index-words-0.result c.index-words-1.result
    c.as_slice.result.now c.as_slice-else-words-ne2.result.now c.ne.result
    two c.index-words-0.is c.index-words-1.is c.as_slice-2.ensures
    c.as_slice.ensures c.as_slice-else-words-ne2.ensures c.ne.ensures c.if-ne.false
