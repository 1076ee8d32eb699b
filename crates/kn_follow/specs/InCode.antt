-- What replies and items in code stand for.
use Rattle.std.specs.Prelude.{ℕ, ◌≡◌, false, List, map, Result, Ok, Err}
use Rattle.std.specs.List.{list_all}
use Rattle.kn_history.specs.Batches.{item_reads}
use Rattle.kn_history.specs.declared.item.Item.{Item}
use Rattle.kn_reply.specs.Logs.{item_of}
use Rattle.kn_wire.specs.declared.items.BatchItem.{BatchItem}
use Rattle.kn_wire.specs.ItemsInCode as I
use Rattle.kn_follow.specs.declared.items.ItemFault.{ItemFault}
use Rattle.kn_follow.specs.declared.items.ItemFault.TheVariants as F
use Rattle.kn_follow.specs.declared.reply.Received.{Received}
use Rattle.kn_follow.specs.declared.reply.Reply.{Reply}
use Rattle.kn_follow.specs.declared.reply.ReadStop.{ReadStop}
use Rattle.kn_follow.specs.declared.reply.ReadStop.TheVariants.{Departs, NoMemory}
use Rattle.kn_follow.specs.Forms.{ReceivedUpdate, LogReply}

abbrev pub update_of : Received → ReceivedUpdate
update_of u = record { caller = u.caller; items = map I.item_of u.items }

abbrev pub updates_of : List Received → List ReceivedUpdate
updates_of updates = map update_of updates

abbrev pub reply_of : Reply → LogReply
reply_of reply = record { from = reply.from; place = reply.place; updates = updates_of reply.updates }

-- what is returned, seen so, is what is read; nothing is said of it when out of memory
abbrev pub Stops : {A : Type 0} → ReadStop → Result A (List ℕ) → Type 0
Stops (Departs rest) read = read ≡ Err rest.now
Stops NoMemory read = Unit {0}

abbrev pub Gives : {X A : Type 0} → (X → A) → Result X ReadStop → Result A (List ℕ) → Type 0
Gives view (Ok x) read = read ≡ Ok (view x)
Gives view (Err stop) read = Stops stop read

-- what the store is asked for by items in code
abbrev pub asked_item : BatchItem → Item
asked_item item = item_of (I.item_of item)

abbrev pub asked_items : List BatchItem → List Item
asked_items items = map item_of (map I.item_of items)

-- the item is the addition of a text that has no reading, or memory ran out
abbrev pub IsUnreadable : Item → ItemFault → Type 0
IsUnreadable item F.Unreadable = item_reads item ≡ false
IsUnreadable item F.NoMemory = Unit {0}

-- one of the items is such
abbrev pub AreUnreadable : List Item → ItemFault → Type 0
AreUnreadable items F.Unreadable = list_all item_reads items ≡ false
AreUnreadable items F.NoMemory = Unit {0}
