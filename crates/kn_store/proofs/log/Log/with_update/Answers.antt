use Rattle.std.proofs.Common.{rules, ◌∙◌, ◌++◌, ap, map, length, arith}
use Rattle.std.specs.Arc.{arc_value}
use Rattle.kn_store.specs.declared.log.TheConstants.{UPDATES_PAGE}
use Rattle.kn_pages.specs.Pages.{with_item, unless_empty}
use Rattle.kn_pages.proofs.PageLemmas.{none_seen, longer-room, seen-full}
use Rattle.kn_store.proofs.log.Log.with_update.Goals as goal

pub returns-then-len-lt-UPDATES_PAGE : goal.returns-then-len-lt-UPDATES_PAGE
returns-then-len-lt-UPDATES_PAGE c =
    let size = length c.self.inside.last in
    ap (λ l. map arc_value c.self.inside.full ++ unless_empty l) c.in_ok-last.ensures
    ∙ longer-room UPDATES_PAGE (map arc_value c.self.inside.full) c.self.inside.last c.args.update
    (none_seen arc_value c.self.inside.full size size (omega arith) c.self.invariant) (search rules)
    ∙ ap (λ pages. with_item UPDATES_PAGE pages c.args.update) c.self.view_is

pub returns : goal.returns
returns c =
    seen-full arc_value UPDATES_PAGE c.self.inside.full c.full-3.inside.items.items c.self.inside.last c.in-Ok.page
    c.in_ok-with_update.field-0 c.args.update
    (omega arith) (search rules) (search rules) (search rules) (search rules)
    ∙ ap (λ pages. with_item UPDATES_PAGE pages c.args.update) c.self.view_is
