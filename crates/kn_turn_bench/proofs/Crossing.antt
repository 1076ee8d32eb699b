-- A worker may go to another thread.
use denote.Param.Send.{IsSend, sendable}
use Rattle.std.proofs.Crossing.{crosses}
use Rattle.kn_turn.proofs.pass.Pass.TheSendSync as pass
use Rattle.kn_registry.proofs.Crossing.{shared_send, registry_sync, registry_field_sync}
use Rattle.kn_turn_bench.specs.contracts.worker.Worker as worker

pub worker_send : IsSend worker.the_row
worker_send = search (sendable, crosses, pass.the_send, shared_send) depth 20

-- what a worker's thread is handed
pub ruleset crossing = (sendable, crosses, worker_send, registry_sync, registry_field_sync)
