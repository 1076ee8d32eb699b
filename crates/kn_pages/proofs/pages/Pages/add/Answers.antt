use Rattle.std.proofs.Common.{rules, ◌∙◌, ap}
use Rattle.std.proofs.lemmas.Result.{on_ok_weaker}
use Rattle.kn_pages.specs.Pages.{with_item}
use Rattle.kn_pages.proofs.PageLemmas.{shared-room, shared-full}
use Rattle.kn_pages.proofs.pages.Pages.add.Goals as goal

pub returns-then-len-most-clause-added : goal.returns-then-len-most-clause-added
returns-then-len-most-clause-added g c =
    on_ok_weaker c.add.result
    (λ longer. shared-room c.args.most c.self.inside.closed c.self.inside.last c.add.new.self c.args.item
    c.self.invariant (search rules) longer
    ∙ ap (λ pages. with_item c.args.most pages c.args.item) c.self.view_is)
    c.add.ensures.ok

pub returns-in-Ok-clause-added : goal.returns-in-Ok-clause-added
returns-in-Ok-clause-added g c =
    shared-full c.args.most c.self.inside.closed c.in-Ok.closed c.self.inside.last c.replace.new.dest c.args.item
    (search rules) (search rules) (search rules) (search rules)
    ∙ ap (λ pages. with_item c.args.most pages c.args.item) c.self.view_is
