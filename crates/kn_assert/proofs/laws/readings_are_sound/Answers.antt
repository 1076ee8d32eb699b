use Rattle.kn_assert.proofs.Nodes.{reading_sound}
use Rattle.kn_assert.proofs.laws.readings_are_sound.Goals as goal

pub returns : goal.returns
returns c = reading_sound c.token_facts.ensures c.tokens_in_order.ensures.order c.tokens_or_first_fault.ensures.some
