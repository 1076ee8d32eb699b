-- What an item of a batch makes of the live credentials.
use Rattle.std.specs.Prelude.{◌+◌, length, Option}
use Rattle.kn_history.specs.declared.update.Change.TheVariants.{Add, Remove}
use Rattle.kn_history.specs.declared.update.Numbered.{Numbered}
use Rattle.kn_history.specs.declared.item.Item.{Item}
use Rattle.kn_history.specs.declared.item.Item.TheVariants as I
use Rattle.kn_history.specs.declared.fault.StoreFault.{StoreFault}
use Rattle.kn_store.specs.LiveView.{LiveView, refusal_of_size, refusal_of_removal, with_addition, with_removal}

abbrev pub after_item : LiveView → Item → LiveView
after_item v (I.Add text) = with_addition v text
after_item v (I.Remove id) = with_removal v id

-- the change that the item is, with its right id
abbrev pub change_of : LiveView → Item → Numbered
change_of v (I.Add text) = record { change = Add text; id = v.added + 1 }
change_of v (I.Remove id) = record { change = Remove; id = id }

-- the first fault of the item
abbrev pub refusal_of : LiveView → Item → Option StoreFault
refusal_of v (I.Add text) = refusal_of_size v (length text)
refusal_of v (I.Remove id) = refusal_of_removal v id
