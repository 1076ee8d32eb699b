use Rattle.std.proofs.Common.{sym, rules}
use Rattle.kn_wire.proofs.Splits.{name_first, name_alone}
use Rattle.kn_wire.proofs.line.split_name.Goals as goal

pub returns-in-Some : goal.returns-in-Some
returns-in-Some c =
    sym (name_first c.args.text.now c.split_word.result.0.now c.in-Some.rest.now c.split_word.ensures.word
    (search rules) (search rules))

pub returns-in-None : goal.returns-in-None
returns-in-None c =
    sym (name_alone c.args.text.now c.split_word.result.0.now c.split_word.ensures.word (search rules) (search rules))
