-- Which caller an update names.
use Rattle.std.specs.Prelude.{ℕ}
use Rattle.kn_history.specs.declared.update.Update.{Update}

abbrev pub caller_of : Update → ℕ
caller_of update = update.caller
