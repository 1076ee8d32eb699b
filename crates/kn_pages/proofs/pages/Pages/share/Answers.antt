use Rattle.std.proofs.Common.{rules, ◌∙◌}
use Rattle.kn_pages.proofs.PageLemmas.{shared-same}
use Rattle.kn_pages.proofs.pages.Pages.share.Goals as goal

pub returns : goal.returns
returns g c = shared-same c.self.inside.closed c.in_ok-share_items.field-0 c.self.inside.last c.in_ok-copy_page.field-0
    (search rules) (search rules) ∙ c.self.view_is
