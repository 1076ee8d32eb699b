use Rattle.kn_wire.proofs.Lines.{line_is_first}
use Rattle.kn_wire.proofs.laws.line_is_first.Goals as goal

pub returns : goal.returns
returns c = line_is_first
