use Rattle.kn_fields.proofs.ComputedFields.{told, tokens_alone, fault_alone}
use Rattle.kn_fields.proofs.laws.fields_are_computed.Goals as goal

pub returns-clause-tokens : goal.returns-clause-tokens
returns-clause-tokens c text = let law = c.tokens_or_first_fault.ensures in
    tokens_alone law.one_list text _
    (told law.one_list law.one_fault c.tokens_are_computed.ensures.tokens c.tokens_are_computed.ensures.fault text)

pub returns-clause-fault : goal.returns-clause-fault
returns-clause-fault c text = let law = c.tokens_or_first_fault.ensures in
    fault_alone text _
    (told law.one_list law.one_fault c.tokens_are_computed.ensures.tokens c.tokens_are_computed.ensures.fault text)
