-- The reply that hands on updates of the history (keynoted's own line protocol).
use Rattle.std.specs.Prelude.{ℕ, ◌≡◌, ◌+◌, ◌≤◌, List, [], ◌∷◌, ◌++◌, length, take, drop, map, flat_map, codes, decimal}
use Rattle.kn_history.specs.declared.update.Change.{Change}
use Rattle.kn_history.specs.declared.update.Change.TheVariants.{Add, Remove}
use Rattle.kn_history.specs.declared.update.Numbered.{Numbered}
use Rattle.kn_history.specs.declared.update.Update.{Update}
use Rattle.kn_history.specs.declared.item.Item.{Item}
use Rattle.kn_history.specs.declared.item.Item.TheVariants as I
use Rattle.kn_wire.specs.Items.{BatchItem, AddText, DropId, item_text}
use Rattle.kn_base.specs.declared.limits.TheConstants.{LOG_UPDATES}

-- the updates of a reply to a client that holds the first n of them: the next ones, as many as a reply may have
abbrev pub log_part : ℕ → List Update → List Update
log_part n history = take LOG_UPDATES (drop n history)

-- a change as an item of a batch
abbrev pub item_of_change : Change → ℕ → BatchItem
item_of_change (Add text) id = AddText text
item_of_change Remove id = DropId id

-- an item of a batch as one of the store's
abbrev pub item_of : BatchItem → Item
item_of (AddText text) = I.Add text
item_of (DropId k) = I.Remove k

-- a change and its id as the text of an item
abbrev pub change_text : Numbered → List ℕ
change_text c = item_text (item_of_change c.change c.id)

-- an update: its caller, how many changes it has, and these as items of a batch
abbrev pub update_text : Update → List ℕ
update_text u =
    codes "UPDATE " ++ decimal u.caller ++ 32 ∷ decimal (length u.changes) ++ 10 ∷ flat_map change_text u.changes

-- the reply to a client that holds the first n updates of this history: how many of them it has, and how many there are
abbrev pub log_text : ℕ → List Update → List ℕ
log_text n history =
    codes "LOG " ++ decimal n ++ 32 ∷ decimal (length (log_part n history)) ++ 32 ∷ decimal (length history)
    ++ 10 ∷ flat_map update_text (log_part n history) ++ codes "END\n"

-- What a client holds that held these updates and then took replies, one after the other, at these places of the
-- history: it asks for each reply with the number of updates that it holds by then.
abbrev pub held_after : List Update → List Update → List ℕ → List Update
held_after history held [] = held
held_after history held (place ∷ places) =
    held_after history (held ++ log_part (length held) (take place history)) places
