use Rattle.std.proofs.Common.{◌≤◌, length, arith, refl}
use Rattle.std.specs.Prelude.{option_map}
use Rattle.kn_words.proofs.CommandWords.{spell_ask}
use Rattle.kn_words.proofs.file_words.ask_files.Goals as goal

pub returns-clause-some : goal.returns-clause-some
returns-clause-some c =
    let least : 2 ≤ length c.args.words.now = omega arith in
    let most : length c.args.words.now ≤ 3 = omega arith in
    let keys = option_map (λ k. k.now) c.third_word.result in
    spell_ask c.args.words.now (record { policy = c.as_slice-2.result.now; keys = keys }) c.index-words-0.result
    c.index-words-1.result c.as_slice.result.now c.as_slice-else-words-gt3.result.now keys c.ne.result
    least most c.index-words-0.is c.index-words-1.is c.third_word.ensures c.as_slice-2.ensures refl c.as_slice.ensures
    c.as_slice-else-words-gt3.ensures c.ne.ensures c.if-ne.false
