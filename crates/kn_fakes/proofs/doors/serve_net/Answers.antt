use denote.Param.Send.{sendable}
use Rattle.std.proofs.Crossing.{crosses}
use Rattle.kn_base.proofs.list.List.TheSendSync as list
use Rattle.kn_base.proofs.octets.Octets.TheSendSync as octets
use Rattle.kn_base.proofs.reserved.Reserved.TheSendSync as reserved
use Rattle.kn_turn.proofs.pass.Pass.TheSendSync as pass
use Rattle.kn_registry.proofs.Crossing.{shared_send, shared_row_send}
use Rattle.kn_fakes.proofs.doors.serve_net.Goals as goal

-- a door in memory may go to the thread of its worker
pub serve_address-requires-send-N-Room : goal.serve_address-requires-send-N-Room
serve_address-requires-send-N-Room g c κs within =
    search (
      sendable,
      crosses,
      octets.the_send,
      list.the_send,
      reserved.the_send,
      pass.the_send,
      shared_send,
      shared_row_send,
    ) depth 30 fits 100000
