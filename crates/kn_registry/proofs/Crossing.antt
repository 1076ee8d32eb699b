-- A registry may be shared by threads, and a pass may go to another one.
use denote.Param.Send.{IsSend, IsSync, sendable}
use Rattle.kn_registry.proofs.StoreCrossing.{book_send}
use Rattle.kn_turn.proofs.turn.Turn.TheSendSync as turn
use Rattle.kn_registry.specs.contracts.registry.SharedBook as shared
use Rattle.kn_registry.specs.contracts.registry.Registry as registry

pub shared_send : IsSend (shared.the_field).row
shared_send = search (sendable, book_send) depth 20

pub shared_row_send : IsSend shared.the_row
shared_row_send = search (sendable, book_send) depth 20

pub registry_sync : IsSync registry.the_row
registry_sync = search (sendable, turn.the_sync, shared_send) depth 20

pub registry_field_sync : IsSync (registry.the_field).row
registry_field_sync = search (sendable, turn.the_sync, shared_send) depth 20
