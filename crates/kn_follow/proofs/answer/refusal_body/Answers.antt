use Rattle.std.proofs.Common.{◌∷◌, [], Some}
use Rattle.std.proofs.lemmas.Bool.Decides.{Decides-eqb}
use Rattle.std.proofs.lemmas.Slice.Eq.{strip_prefix_is, strip_suffix_is}
use Rattle.kn_follow.proofs.Refusals.{body-some}
use Rattle.kn_follow.proofs.answer.refusal_body.Goals as goal

pub returns-clause-some : goal.returns-clause-some
returns-clause-some c =
    let rest = c.in_ok-rest.rest.now in
    body-some c.args.answer.now rest c.strip_suffix.result
    (strip_prefix_is Decides-eqb c.args.answer.now (78 ∷ 79 ∷ 32 ∷ []) (Some c.in_ok-rest.rest)
    c.in_ok-rest.ensures.cases)
    (strip_suffix_is Decides-eqb rest (10 ∷ []) c.strip_suffix.result c.strip_suffix.ensures.cases)
