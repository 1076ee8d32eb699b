use Rattle.kn_fields.proofs.ComputedFields.{one_in_text, some_authorizer, listed}
use Rattle.kn_fields.proofs.laws.one_field_of_each_number.Goals as goal

pub returns-clause-one : goal.returns-clause-one
returns-clause-one c text tokens cut well before field behind e number numbered =
    one_in_text c.tokens_or_first_fault.ensures.some text tokens cut well before field behind e number numbered

pub returns-clause-authorizer : goal.returns-clause-authorizer
returns-clause-authorizer c text tokens cut well none =
    some_authorizer c.tokens_or_first_fault.ensures.some text tokens cut well none

pub returns-clause-constants : goal.returns-clause-constants
returns-clause-constants c text tokens cut well field found =
    listed c.tokens_or_first_fault.ensures.some text tokens cut well field found
