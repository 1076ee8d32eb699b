-- Updates of several changes, all or none (keynoted's own).
use Rattle.std.specs.Prelude.{ℕ, ◌≡◌, ◌+◌, Bool, true, false, ◌&&◌, nat_le, is_none, is_some}
use Rattle.std.specs.Prelude.{List, [], ◌∷◌, ◌++◌, length, map, Option, Some, None}
use Rattle.std.specs.List.{list_all}
use Rattle.kn_base.specs.declared.limits.TheConstants.{CHANGES}
use Rattle.kn_assert.specs.Reading.{assertion_of}
use Rattle.kn_history.specs.declared.update.Change.{Change}
use Rattle.kn_history.specs.declared.update.Change.TheVariants.{Add, Remove}
use Rattle.kn_history.specs.declared.update.Numbered.{Numbered}
use Rattle.kn_history.specs.declared.update.Update.{Update}
use Rattle.kn_history.specs.declared.item.Item.{Item}
use Rattle.kn_history.specs.declared.item.Item.TheVariants as I
use Rattle.kn_history.specs.declared.fault.StoreFault.{StoreFault}
use Rattle.kn_history.specs.declared.fault.BatchFault.{BatchFault}
use Rattle.kn_history.specs.declared.fault.BatchFault.TheVariants as B
use Rattle.kn_history.specs.History.{additions, refusal_of_text, refusal_of_id}

-- The change that an item is behind these, with its right id: an addition is numbered by how many there are with it, a
-- removal has the id that it removes.
abbrev pub number_item : List Numbered → Item → Numbered
number_item past (I.Add text) = record { change = Add text; id = additions past + 1 }
number_item past (I.Remove id) = record { change = Remove; id = id }

-- the changes that items are behind these, each behind those in front of it
abbrev pub all_numbered : List Numbered → List Item → List Numbered
all_numbered past [] = []
all_numbered past (item ∷ items) = number_item past item ∷ all_numbered (past ++ number_item past item ∷ []) items

-- the items of changes
abbrev pub item_in : Change → ℕ → Item
item_in (Add text) id = I.Add text
item_in Remove id = I.Remove id

abbrev pub items_in : List Numbered → List Item
items_in changes = map (λ c. item_in c.change c.id) changes

-- the first fault that applies to an item behind these changes
abbrev pub refusal_of_item : List Numbered → Item → Option StoreFault
refusal_of_item past (I.Add text) = refusal_of_text past text
refusal_of_item past (I.Remove id) = refusal_of_id past id

-- what is found here, or else later
abbrev pub found_at : ℕ → Option StoreFault → Option (ℕ × StoreFault) → Option (ℕ × StoreFault)
found_at number None later = later
found_at number (Some fault) later = Some (number, fault)

-- the first item that is refused behind the changes in front of it, by its number, and its fault; the items are counted
-- from this number
abbrev pub refused_from : ℕ → List Numbered → List Item → Option (ℕ × StoreFault)
refused_from number past [] = None
refused_from number past (item ∷ items) =
    found_at number (refusal_of_item past item) (refused_from (number + 1) (past ++ number_item past item ∷ []) items)

-- the first item that is refused, counted from 1
abbrev pub refusal_of_items : List Numbered → List Item → Option (ℕ × StoreFault)
refusal_of_items past items = refused_from 1 past items

-- the same changes, given by the id that the next addition has: the ids of additions go on from it
abbrev pub numbered_from : ℕ → List Item → List Numbered
numbered_from next [] = []
numbered_from next (I.Add text ∷ items) = record { change = Add text; id = next } ∷ numbered_from (next + 1) items
numbered_from next (I.Remove id ∷ items) = record { change = Remove; id = id } ∷ numbered_from next items

-- the update of this caller that makes the changes of these items, of which the first addition has this id
abbrev pub batch_by : ℕ → ℕ → List Item → Update
batch_by caller next items = record { caller = caller; changes = numbered_from next items }

-- a text that is to be added has a reading
abbrev pub item_reads : Item → Bool
item_reads (I.Add text) = is_some (assertion_of text)
item_reads (I.Remove id) = true

-- these items may follow the changes together: there are 1 to 256 of them, none is refused, and each text that is to be
-- added has a reading
abbrev pub items_may_follow : List Numbered → List Item → Bool
items_may_follow past items =
    (nat_le 1 (length items) && nat_le (length items) CHANGES)
    && (is_none (refusal_of_items past items) && list_all item_reads items)

-- The item of this number, counted from 1, is the first that is refused: none of the items in front of it is refused
-- behind the changes before it; this one is, for this fault.
pub record IsRefusedItem (past : List Numbered) (items : List Item) (number : ℕ) (fault : StoreFault) : Type 0 where
  pub front : List Item
  pub item : Item
  pub rest : List Item
  pub cut : items ≡ front ++ item ∷ rest
  pub place : number ≡ length front + 1
  pub before : (first : List Item) (one : Item) (others : List Item) → front ≡ first ++ one ∷ others
      → refusal_of_item (past ++ all_numbered past first) one ≡ None
  pub refused : refusal_of_item (past ++ all_numbered past front) item ≡ Some fault

-- why a batch is refused: its first refused item, counted from 1, and for what; nothing is said when out of memory
abbrev pub RefusesBatch : Option (ℕ × StoreFault) → BatchFault → Type 0
RefusesBatch found (B.Item item fault) = found ≡ Some (item, fault)
RefusesBatch found B.NoMemory = Unit {0}

-- the item is an addition
abbrev pub item_adds : Item → Bool
item_adds (I.Add text) = true
item_adds (I.Remove id) = false
