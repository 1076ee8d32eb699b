-- Laws of replies that hand on updates.
use Rattle.std.specs.Prelude.{ℕ, ◌≡◌, ◌-◌, ◌≤◌, min, List, [], ◌++◌, length, take}
use Rattle.kn_base.specs.declared.limits.TheConstants.{LOG_UPDATES}
use Rattle.kn_history.specs.declared.update.Update.{Update}
use Rattle.kn_reply.specs.Logs.{log_part, held_after}

-- what a client holds that takes replies, each asked for with the number of updates that it holds, is a beginning of
-- the history
pub record IsBeginning (history held : List Update) : Type 0 where
  pub rest : List Update
  pub whole : history ≡ held ++ rest

abbrev pub LogsAreABeginning : Type 0
LogsAreABeginning = (history : List Update) (places : List ℕ) → IsBeginning history (held_after history [] places)

-- a reply has all updates that are left, and 16 at most
abbrev pub LogsGoOn : Type 0
LogsGoOn = (history : List Update) (n : ℕ) → length (log_part n history) ≡ min LOG_UPDATES (length history - n)
