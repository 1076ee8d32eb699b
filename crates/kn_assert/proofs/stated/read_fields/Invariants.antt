use Rattle.kn_assert.proofs.FieldLemmas.{IsLeft}
use Rattle.kn_assert.proofs.stated.read_fields.Given as goal

abbrev pub invariant-loop-heading : goal.invariant-loop-heading
invariant-loop-heading l = IsLeft l.fields.constants l.fields.tokens l.stated l.heading-index
