use Rattle.kn_fields.proofs.FirstFaults.{one_first}
use Rattle.kn_fields.proofs.ComputedFields.{told, every_text}
use Rattle.kn_fields.proofs.laws.no_fault_or_first_fault.Goals as goal

pub returns-clause-some : goal.returns-clause-some
returns-clause-some c text = let law = c.tokens_or_first_fault.ensures in
    every_text text _
    (told law.one_list law.one_fault c.tokens_are_computed.ensures.tokens c.tokens_are_computed.ensures.fault text)

pub returns-clause-not_both : goal.returns-clause-not_both
returns-clause-not_both c text fault none first = none fault first.has

pub returns-clause-one_fault : goal.returns-clause-one_fault
returns-clause-one_fault c text fault other h k = one_first text fault other h k
