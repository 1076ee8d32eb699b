use Rattle.kn_wire.proofs.Growing.{requests-grow}
use Rattle.kn_wire.proofs.laws.requests_grow.Goals as goal

pub returns : goal.returns
returns c = requests-grow
