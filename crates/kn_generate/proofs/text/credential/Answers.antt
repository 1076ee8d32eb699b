use Rattle.std.proofs.Common.{◌∙◌}
use Rattle.kn_generate.proofs.TextLemmas.{credential_told}
use Rattle.kn_generate.proofs.text.credential.Goals as goal

pub returns : goal.returns
returns c =
    credential_told c.join.result c.args.authorizer c.args.numbers.now
    c.as_bytes.result.now c.as_bytes-2.result.now c.as_bytes-3.result.now c.as_bytes-4.result.now
    c.as_bytes-5.result.now c.as_bytes-6.result.now c.as_bytes-7.result.now
    (c.as_bytes.ensures.value ∙ c.format.ensures.text) (c.as_bytes-2.ensures.value
    ∙ c.format-2.ensures.text) (c.as_bytes-3.ensures.value ∙ c.format-3.ensures.text)
    (c.as_bytes-4.ensures.value ∙ c.format-4.ensures.text) (c.as_bytes-5.ensures.value
    ∙ c.format-5.ensures.text) (c.as_bytes-6.ensures.value ∙ c.format-6.ensures.text)
    (c.as_bytes-7.ensures.value ∙ c.format-7.ensures.text) c.join.ensures
