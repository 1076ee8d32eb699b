-- What holds of each version.
use Rattle.std.specs.Prelude.{◌≡◌, ◌≤◌, true, List, length}
use Rattle.kn_history.specs.declared.update.Update.{Update}
use Rattle.kn_store.specs.declared.log.TheConstants.{UPDATES_PAGE}
use Rattle.kn_store.specs.declared.version.Version.TheInside.{Inside}
use Rattle.kn_history.specs.History.{all_changes, is_valid_history}
use Rattle.kn_store.specs.LiveView.{live_view}
use Rattle.kn_pages.specs.Pages.{joined, AreFilled}

-- the updates that made it
abbrev pub updates_of : Inside → List Update
updates_of v = joined v.updates

pub record IsVersion (v : Inside) : Type 0 where
  pub valid : is_valid_history (updates_of v) ≡ true
  pub live : v.live ≡ live_view (all_changes (updates_of v))
  pub pages : AreFilled UPDATES_PAGE v.updates
  pub number : v.number ≡ length (updates_of v)
  pub fewer : v.number ≤ v.live.changes
