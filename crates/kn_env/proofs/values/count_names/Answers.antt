use Rattle.std.proofs.Common.{◌+◌, eqb, sym, ap, ◌∙◌}
use Rattle.std.proofs.lemmas.List.Splits.{length-slice_split}
use Rattle.kn_env.proofs.values.count_names.Goals as goal

pub returns : goal.returns
returns c = ap (λ n. n + 1) c.count_commas.ensures.count
    ∙ sym (length-slice_split (λ byte. eqb byte 44) c.args.text.now)
