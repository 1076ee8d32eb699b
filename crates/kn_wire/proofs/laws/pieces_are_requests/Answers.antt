use Rattle.kn_wire.proofs.Pieces.{pieces-are_requests}
use Rattle.kn_wire.proofs.laws.pieces_are_requests.Goals as goal

pub returns : goal.returns
returns c = pieces-are_requests
