-- What holds of each book.
use Rattle.std.specs.Prelude.{List}
use Rattle.std.specs.Arc.{arc_value}
use Rattle.kn_history.specs.declared.update.Update.{Update}
use Rattle.kn_store.specs.declared.book.Book.TheInside.{Inside}
use Rattle.kn_store.specs.EarlierVersions.{AreEarlier}

-- all updates so far
abbrev pub log_of : Inside → List Update
log_of b = arc_value b.newest

abbrev pub IsBook : Inside → Type 0
IsBook b = AreEarlier (arc_value b.newest) b.earlier
