use Rattle.kn_assert.proofs.Places.{place_within}
use Rattle.kn_assert.proofs.laws.faults_stand_in_the_text.Goals as goal

pub returns : goal.returns
returns c = place_within c.token_facts.ensures c.tokens_or_first_fault.ensures.some
