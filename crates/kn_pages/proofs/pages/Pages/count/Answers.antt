use Rattle.std.proofs.Common.{rules, ◌+◌, ◌∙◌, sym, ap, length}
use Rattle.kn_pages.proofs.PageLemmas.{shared-count}
use Rattle.kn_pages.proofs.pages.Pages.count.Goals as goal

pub returns-else-is_empty : goal.returns-else-is_empty
returns-else-is_empty g c =
    ap (λ n. n + 1) c.len-closed.ensures ∙ sym (shared-count c.self.inside.closed c.self.inside.last (search rules))
    ∙ ap length c.self.view_is
