use Rattle.kn_lex.proofs.Values.{value_plain, value_escaped}
use Rattle.kn_lex.proofs.escapes.item.Goals as goal

pub returns-then-rest-ne92-clause-value : goal.returns-then-rest-ne92-clause-value
returns-then-rest-ne92-clause-value c = value_plain _ c.requires c.if-rest-ne92.true

pub returns-clause-value : goal.returns-clause-value
returns-clause-value c =
    rw (c.escape-byte.ensures.value, c.split_at.ensures.back) (value_escaped _ c.requires c.if-rest-ne92.false)
