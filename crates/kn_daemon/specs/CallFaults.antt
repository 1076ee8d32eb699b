-- What the code that applies a session's calls gives, as replies (keynoted's own): each fault of a call is a refusal,
-- unless it means out of memory, and each result a reply.
use Rattle.std.specs.Prelude.{Option}
use Rattle.kn_session.specs.declared.fault.CallFault.{CallFault}
use Rattle.kn_session.specs.declared.fault.CallFault.TheVariants as T
use Rattle.kn_session.specs.declared.call.Applied.{Applied}
use Rattle.kn_session.specs.declared.call.Applied.TheVariants as A
use Rattle.kn_reply.specs.declared.refusal.Refusal.{Refusal}
use Rattle.kn_reply.specs.declared.refusal.Refusal.TheVariants as R
use Rattle.kn_reply.specs.Replies.{Reply, Done, PrivateAdded}
use Rattle.kn_daemon.specs.Daemon.{refusal_at_text, refusal_of_session}

-- the refusal that a fault of a call is; none when out of memory
abbrev pub refusal_of_call_fault : CallFault → Option Refusal
refusal_of_call_fault (T.Text fault) = refusal_at_text R.Read fault
refusal_of_call_fault (T.Session fault) = refusal_of_session fault

-- the reply that the result of a call is: a new private assertion is named by its id
abbrev pub reply_of_applied : Applied → Reply
reply_of_applied A.Done = Done
reply_of_applied (A.Added k) = PrivateAdded k
