-- Pages of updates that are filled: where an update stands.
use Rattle.std.proofs.Common.{◌≡◌, ℕ, ◌/◌, ◌%◌, ◌<◌, List, [], length, ap, ◌∙◌, subst, arith}
use Rattle.std.specs.Prelude.{slice_get, Some}
use Rattle.std.proofs.lemmas.Option.{get_or_from_slice_get}
use Rattle.kn_history.specs.declared.update.Update.{Update}
use Rattle.kn_pages.specs.Pages.{joined, AreFilled}
use Rattle.kn_pages.proofs.FilledLemmas.{IsThere, item_of_filled}

there : (pages : List (List Update)) (i : ℕ) → AreFilled 256 pages → i < length (joined pages)
    → IsThere pages (i / 256) (i % 256) i
there pages i filled within = item_of_filled 256 pages (i / 256) (i % 256) i filled (omega arith) (omega arith) within

pub page_there : (pages : List (List Update)) (i : ℕ) → AreFilled 256 pages → i < length (joined pages)
    → i / 256 < length pages
page_there pages i filled within = (there pages i filled within).page_in

pub place_there : (pages : List (List Update)) (i : ℕ) (page : List Update) → AreFilled 256 pages
    → i < length (joined pages)
    → slice_get pages (i / 256) ≡ Some page → i % 256 < length page
place_there pages i page filled within at =
    let same = get_or_from_slice_get pages (i / 256) page [] at in
    let inside = (there pages i filled within).place_in in
    subst (λ (l : List Update). i % 256 < length l) same inside

pub update_there : (pages : List (List Update)) (i : ℕ) (page : List Update) → AreFilled 256 pages
    → i < length (joined pages)
    → slice_get pages (i / 256) ≡ Some page → slice_get (joined pages) i ≡ slice_get page (i % 256)
update_there pages i page filled within at =
    (there pages i filled within).same
    ∙ ap (λ (l : List Update). slice_get l (i % 256)) (get_or_from_slice_get pages (i / 256) page [] at)

pub ruleset updates_there = (page_there, place_there, update_there)
