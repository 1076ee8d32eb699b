-- What the items of a batch in code stand for.
use Rattle.std.specs.Prelude.{ℕ, ◌≡◌, ◌≤◌, ⊤, List, length, Err}
use Rattle.kn_wire.specs.declared.items.BatchItem.{BatchItem}
use Rattle.kn_wire.specs.declared.items.BatchItem.TheVariants as B
use Rattle.kn_wire.specs.declared.items.BatchText.{BatchText}
use Rattle.kn_wire.specs.declared.items.BatchText.TheVariants.{Form, NoMemory}
use Rattle.kn_wire.specs.Items as I
use Rattle.kn_wire.specs.Items.{items_of}

abbrev pub item_of : BatchItem → I.BatchItem
item_of (B.Add text) = I.AddText text.now
item_of (B.Remove k) = I.DropId k

-- the text of an item has no more than so many bytes
abbrev pub IsWithin : ℕ → BatchItem → Type 0
IsWithin bytes (B.Add text) = length text.now ≤ bytes
IsWithin bytes (B.Remove k) = ⊤

-- a block departs from the form at the item that is named; nothing is said of it when out of memory
abbrev pub HasFault : List ℕ → BatchText → Type 0
HasFault block (Form item) = items_of block ≡ Err item
HasFault block NoMemory = ⊤
