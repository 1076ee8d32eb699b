-- An update that was made ready.
use Rattle.std.specs.Prelude.{ℕ, List}
use Rattle.std.specs.Arc.{arc_value}
use Rattle.kn_history.specs.declared.update.Update.{Update}
use Rattle.kn_store.specs.declared.book.Prepared.TheInside.{Inside}

-- the log that the book would then have, and the id that is answered
pub record PreparedUpdate : Type 0 where
  pub log : List Update
  pub id : ℕ

abbrev pub update_of : Inside → PreparedUpdate
update_of p = record { log = arc_value p.version; id = p.id }
