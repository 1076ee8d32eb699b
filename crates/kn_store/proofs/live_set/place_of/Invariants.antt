use Rattle.std.proofs.Common.{◌≡◌, ◌==◌, false, take}
use Rattle.std.specs.List.{list_any}
use Rattle.kn_pages.specs.Pages.{joined}
use Rattle.kn_store.proofs.live_set.place_of.Given as goal

abbrev pub invariant-loop-page : goal.invariant-loop-page
invariant-loop-page l = list_any (λ c. c.id == l.id) (joined (take l.page l.pages)) ≡ false
