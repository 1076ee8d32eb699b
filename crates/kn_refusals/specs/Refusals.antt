-- Refusals that tell the faults of a query's names and of a batch (keynoted's own). None when out of memory.
use Rattle.std.specs.Prelude.{Option, Some, None}
use Rattle.kn_env.specs.declared.values.ValuesFault.{ValuesFault}
use Rattle.kn_env.specs.declared.values.ValuesFault.TheVariants as V
use Rattle.kn_history.specs.declared.fault.BatchFault.{BatchFault}
use Rattle.kn_history.specs.declared.fault.BatchFault.TheVariants as B
use Rattle.kn_wire.specs.declared.items.BatchText.{BatchText}
use Rattle.kn_wire.specs.declared.items.BatchText.TheVariants as T
use Rattle.kn_reply.specs.declared.refusal.ItemRefusal.{ItemRefusal}
use Rattle.kn_reply.specs.declared.refusal.ItemRefusal.TheVariants as I
use Rattle.kn_reply.specs.declared.refusal.Refusal.{Refusal}
use Rattle.kn_reply.specs.declared.refusal.Refusal.TheVariants as R
use Rattle.kn_daemon.specs.Daemon.{refusal_of_item_fault}

-- the refusal of names that are no compliance values
abbrev pub refusal_of_values : ValuesFault → Option Refusal
refusal_of_values (V.Count n) = Some R.Values
refusal_of_values (V.BadName i) = Some R.Values
refusal_of_values (V.Twice i) = Some R.Values
refusal_of_values V.NoMemory = None

-- the refusal of a request for that for which an item of a batch is refused so
abbrev pub request_refusal : ItemRefusal → Refusal
request_refusal (I.Read fault place) = R.Read fault place
request_refusal (I.Auth fault) = R.Auth fault
request_refusal I.Unknown = R.Unknown
request_refusal (I.Limit word count) = R.Limit word count

-- the refusal of a block that isn't made of items
abbrev pub refusal_of_batch_text : BatchText → Option Refusal
refusal_of_batch_text (T.Form item) = Some (R.Batch item)
refusal_of_batch_text T.NoMemory = None

-- the refusal of a batch by the store
abbrev pub refusal_of_batch_fault : BatchFault → Option Refusal
refusal_of_batch_fault (B.Item item fault) = refusal_of_item_fault item fault
refusal_of_batch_fault B.NoMemory = None
