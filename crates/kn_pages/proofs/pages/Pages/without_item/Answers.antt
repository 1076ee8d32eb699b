use Rattle.std.proofs.Common.{rules, ◌≡◌, ◌<◌, ◌∙◌, ap, sym, subst, length}
use Rattle.std.specs.Prelude.{IfOk}
use Rattle.kn_pages.specs.Pages.{without_item}
use Rattle.kn_pages.proofs.PageLemmas.{shared-out_of_last}
use Rattle.kn_pages.proofs.pages.Pages.without_item.Goals as goal

pub returns-then-page-len : goal.returns-then-page-len
returns-then-page-len g c =
    let within = subst (λ pages. c.args.page < length pages) (sym c.self.view_is) c.requires.page in
    let shorter = shared-out_of_last c.self.inside.closed c.self.inside.last c.args.page c.args.place
    (search rules) within in
    subst (λ rhs. IfOk c.without_last.result (λ pages. pages ≡ rhs)) (shorter
    ∙ ap (λ pages. without_item pages c.args.page c.args.place) c.self.view_is)
    c.without_last.ensures
