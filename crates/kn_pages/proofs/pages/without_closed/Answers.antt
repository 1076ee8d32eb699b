use Rattle.std.proofs.Common.{rules, ◌<◌, ◌≤◌, ◌∙◌, refl, sym, ap, subst, length}
use Rattle.std.specs.Arc.{arc_value}
use Rattle.std.proofs.lemmas.Option.{same_Some, slice_get_read}
use Rattle.kn_pages.specs.Pages.{pages_of}
use Rattle.kn_pages.proofs.PageLemmas.{place_on_page, place_in_copy, page_out, page_shorter}
use Rattle.kn_pages.proofs.pages.without_closed.Goals as goal

pub returns-then-count-le1 : goal.returns-then-count-le1
returns-then-count-le1 g c =
    let here = c.index-as_slice-page.result in
    let there = slice_get_read c.args.closed (length c.args.closed) c.args.page here refl c.requires.page
    (search rules) in
    let few : length (arc_value c.index-as_slice-page.result) ≤ 1 = search rules in
    ap pages_of c.remove-page.ensures.rest
    ∙ page_out c.args.closed c.args.page c.args.place here there few
    (place_on_page c.args.closed c.args.page c.args.place here there c.requires.place)

pub remove-item-requires : goal.remove-item-requires
remove-item-requires g c =
    place_in_copy c.replace.result c.in_ok-items.items c.args.place c.in_ok-items.ensures
    (place_on_page c.args.closed c.args.page c.args.place c.replace.result c.replace.ensures.former c.requires.place)

pub returns : goal.returns
returns g c =
    let there = c.replace.ensures.former in
    let read = slice_get_read c.args.closed (length c.args.closed) c.args.page c.index-as_slice-page.result refl
    c.requires.page (search rules) in
    let same = same_Some c.index-as_slice-page.result c.replace.result (sym read ∙ there) in
    let seen : 1 < length (arc_value c.index-as_slice-page.result) = search rules in
    page_shorter c.args.closed c.args.page c.args.place c.replace.result there c.replace.new.self
    c.replace-empty.new.self c.in-Ok.empty c.in-Ok-new.shorter
    c.in_ok-items.items c.remove-item.new.self c.replace.ensures.after c.replace-empty.ensures.after
    c.in_ok-items.ensures c.remove-item.ensures.rest (search rules)
    (subst (λ page. 1 < length (arc_value page)) same seen)
    (place_on_page c.args.closed c.args.page c.args.place c.replace.result there c.requires.place)
