-- Versions and books may go to other threads, and be looked at there. What lies in a field is spoken of as its field.
use denote.Param.Send.{IsSend, IsSync, sendable}
use Rattle.std.proofs.Crossing.{crosses}
use Rattle.kn_base.proofs.Crossing.{octets_send, octets_sync}
use Rattle.kn_base.proofs.list.List.TheSendSync as list
use Rattle.kn_base.proofs.reserved.Reserved.TheSendSync as reserved
use Rattle.kn_trees.specs.contracts.formula.Formula as formula
use Rattle.kn_trees.specs.contracts.program.Program as program
use Rattle.kn_trees.specs.contracts.assertion.Assertion as assertion
use Rattle.kn_trees.proofs.Crossing.{flat_send, flat_sync}
use Rattle.kn_trees.proofs.formula.Formula.TheLaws.TheKnot.{send-Formula, sync-Formula}
use Rattle.kn_trees.proofs.program.Then.TheLaws.TheKnot.{send-Program, sync-Program}
use Rattle.kn_history.specs.contracts.credential.Credential as credential
use Rattle.kn_store.specs.contracts.live_credential.LiveCredential as live
use Rattle.kn_history.specs.contracts.update.Update as update
use Rattle.kn_pages.proofs.pages.Pages.TheSendSync as pages
use Rattle.kn_store.specs.contracts.live_set.LiveSet as set
use Rattle.kn_store.specs.contracts.log.LoggedUpdate as logged
use Rattle.kn_store.specs.contracts.log.LogPage as page
use Rattle.kn_store.specs.contracts.log.Log as log
use Rattle.kn_store.specs.contracts.version.Version as version
use Rattle.kn_store.specs.contracts.earlier.Earlier as earlier
use Rattle.kn_store.specs.contracts.book.Book as book

formula_send : IsSend (formula.the_field).row
formula_send = send-Formula octets_send list.the_send (search sendable)

formula_sync : IsSync (formula.the_field).row
formula_sync = sync-Formula octets_sync list.the_sync (search sendable)

program_send : IsSend (program.the_field).row
program_send = search (sendable, send-Program, flat_send, list.the_send) depth 20

program_sync : IsSync (program.the_field).row
program_sync = search (sendable, sync-Program, flat_sync, list.the_sync) depth 20

assertion_send : IsSend (assertion.the_field).row
assertion_send = search (sendable, octets_send, list.the_send, formula_send, program_send) depth 20

assertion_sync : IsSync (assertion.the_field).row
assertion_sync = search (sendable, octets_sync, list.the_sync, formula_sync, program_sync) depth 20

credential_send : IsSend (credential.the_field).row
credential_send = search (sendable, octets_send, assertion_send) depth 20

credential_sync : IsSync (credential.the_field).row
credential_sync = search (sendable, octets_sync, assertion_sync) depth 20

live_send : IsSend (live.the_field).row
live_send = search (sendable, crosses, credential_send, credential_sync) depth 20

live_sync : IsSync (live.the_field).row
live_sync = search (sendable, crosses, credential_send, credential_sync) depth 20

update_send : IsSend (update.the_field).row
update_send = search (sendable, octets_send, list.the_send) depth 20

update_sync : IsSync (update.the_field).row
update_sync = search (sendable, octets_sync, list.the_sync) depth 20

set_send : IsSend (set.the_field).row
set_send = search (sendable, live_send, live_sync, pages.the_send) depth 20

set_sync : IsSync (set.the_field).row
set_sync = search (sendable, live_send, live_sync, pages.the_sync) depth 20

logged_send : IsSend (logged.the_field).row
logged_send = search (sendable, crosses, update_send, update_sync) depth 20

logged_sync : IsSync (logged.the_field).row
logged_sync = search (sendable, crosses, update_send, update_sync) depth 20

page_send : IsSend (page.the_field).row
page_send = search (sendable, logged_send, logged_sync, pages.the_send) depth 20

page_sync : IsSync (page.the_field).row
page_sync = search (sendable, logged_send, logged_sync, pages.the_sync) depth 20

log_send : IsSend (log.the_field).row
log_send = search (sendable, crosses, page_send, page_sync, list.the_send) depth 20

log_sync : IsSync (log.the_field).row
log_sync = search (sendable, crosses, page_send, page_sync, list.the_sync) depth 20

pub version_send : IsSend (version.the_field).row
version_send = search (sendable, set_send, log_send) depth 20

pub version_sync : IsSync (version.the_field).row
version_sync = search (sendable, set_sync, log_sync) depth 20

earlier_send : IsSend (earlier.the_field).row
earlier_send = search (sendable, crosses, version_send, version_sync, reserved.the_send) depth 20

pub book_send : IsSend (book.the_field).row
book_send = search (sendable, crosses, version_send, version_sync, earlier_send) depth 20
