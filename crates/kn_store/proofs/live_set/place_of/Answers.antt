use Rattle.std.proofs.Common.{rules, ℕ, ◌≡◌, ◌==◌, false, sym, subst}
use Rattle.std.specs.Prelude.{Option, None, MatchOption}
use Rattle.std.specs.List.{list_any}
use Rattle.kn_history.specs.History.{NumberedText}
use Rattle.kn_pages.specs.Pages.{joined}
use Rattle.kn_store.specs.Places.{IsPlaceOf}
use Rattle.kn_store.proofs.LiveLemmas.{found_in, search_on, search_ends}
use Rattle.kn_store.proofs.live_set.place_of.Goals as goal

pub loop-page-preserved : goal.loop-page-preserved
loop-page-preserved c =
    search_on c.args.id c.args.pages.now c.loop-page.page c.page-items.result.now c.requires.ids c.page-items.ensures
    c.loop-page.invariant
    (search rules)

pub returns-in_err-place : goal.returns-in_err-place
returns-in_err-place c =
    let absent = search_ends c.args.id c.args.pages.now c.loop-page.page c.page-items.result.now c.requires.ids
    c.page-items.ensures c.loop-page.invariant
    (search rules) (search rules) in
    let none : c.from_residual.result ≡ None = search rules in
    subst (λ (r : Option (ℕ × ℕ)).
    MatchOption r (list_any (λ (x : NumberedText). x.id == c.args.id) (joined c.args.pages.now) ≡ false)
    (λ place. IsPlaceOf c.args.id c.args.pages.now place.0 place.1))
    (sym none) absent

pub returns-then-not-ends_before : goal.returns-then-not-ends_before
returns-then-not-ends_before c =
    found_in c.args.id c.args.pages.now c.loop-page.page c.page-items.result.now c.in_ok-place.place
    c.page-items.ensures (search rules)
