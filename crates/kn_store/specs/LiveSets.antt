-- What holds of each set of live credentials.
use Rattle.std.specs.Prelude.{◌≡◌, ◌≤◌, length}
use Rattle.std.specs.List.{All}
use Rattle.kn_base.specs.declared.limits.TheConstants.{LIVE_CREDENTIALS, LIVE_BYTES, UPDATES, LOGGED_BYTES}
use Rattle.kn_store.specs.declared.live_set.TheConstants.{CREDENTIALS_PAGE}
use Rattle.kn_store.specs.declared.live_set.LiveSet.TheInside.{Inside}
use Rattle.kn_history.specs.History.{text_bytes}
use Rattle.kn_history.specs.Ids.{IdsAscend}
use Rattle.kn_pages.specs.Pages.{joined, AreSized}
use Rattle.kn_store.specs.LiveView.{LiveView}

abbrev pub view_of_set : Inside → LiveView
view_of_set s = record { credentials = joined s.pages; changes = s.changes; logged = s.logged; added = s.added }

pub record IsLiveSet (s : Inside) : Type 0 where
  pub pages : AreSized CREDENTIALS_PAGE s.pages
  pub ids : IdsAscend 0 (joined s.pages)
  pub newest : All (λ c. c.id ≤ s.added) (joined s.pages)
  pub count : s.count ≡ length (joined s.pages)
  pub bytes : s.bytes ≡ text_bytes (joined s.pages)
  pub count_limit : s.count ≤ LIVE_CREDENTIALS
  pub bytes_limit : s.bytes ≤ LIVE_BYTES
  pub changes_limit : s.changes ≤ UPDATES
  pub logged_limit : s.logged ≤ LOGGED_BYTES
  pub fewer : s.added ≤ s.changes
