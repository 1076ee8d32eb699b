-- A worker's post may go to another thread, and what it works with may be looked at there.
use denote.RattleType.{RattleType}
use denote.Param.Send.{IsSend, IsSync, sendable}
use Rattle.std.proofs.Crossing.{crosses}
use Rattle.kn_turn.proofs.pass.Pass.TheSendSync as pass
use Rattle.kn_registry.proofs.Crossing.{shared_send, shared_row_send, registry_sync, registry_field_sync}
use Rattle.kn_workers.specs.contracts.post.Post as post

pub post_send : (D : RattleType) → IsSend D → IsSend (post.the_row D)
post_send D send = search (sendable, crosses, pass.the_send, shared_send, shared_row_send) depth 20

-- what a worker's thread is handed
pub ruleset crossing =
    (sendable, crosses, post_send, pass.the_send, shared_send, shared_row_send, registry_sync, registry_field_sync)
