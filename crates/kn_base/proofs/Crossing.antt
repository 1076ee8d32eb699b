-- Bytes on the heap may go to other threads, and be looked at there.
use denote.Param.Send.{IsSend, IsSync, sendable}
use Rattle.std.proofs.Crossing.{crosses}
use Rattle.smallvec.proofs.small_vec.SmallVec.TheSendSync as small_vec
use Rattle.kn_base.specs.contracts.octets.Octets as octets

pub octets_send : IsSend (octets.the_field).row
octets_send = search (sendable, crosses, small_vec.the_send) depth 20

pub octets_sync : IsSync (octets.the_field).row
octets_sync = search (sendable, crosses, small_vec.the_sync) depth 20
