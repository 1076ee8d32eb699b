use Rattle.std.proofs.Common.{rules, ◌∙◌, inr}
use Rattle.kn_pages.proofs.PageLemmas.{last_shorter, last_opened, last_out}
use Rattle.kn_pages.proofs.pages.without_last.Goals as goal

pub returns-then-len-gt1 : goal.returns-then-len-gt1
returns-then-len-gt1 g c =
    last_shorter c.args.closed c.args.last c.remove-item.new.self c.args.place c.remove-item.ensures.rest

pub invariant_of-result-in-Some-2 : goal.invariant_of-result-in-Some-2
invariant_of-result-in-Some-2 g c =
    inr (last_opened c.args.closed c.closed.inside.items.items c.in-Some.page c.in_ok-own_page-in-Some.field-0
    c.args.last c.args.place
    (search rules) (search rules) c.requires.none_empty (search rules) c.requires.place).0

pub returns-in_ok-own_page-in-Some : goal.returns-in_ok-own_page-in-Some
returns-in_ok-own_page-in-Some g c =
    (last_opened c.args.closed c.closed.inside.items.items c.in-Some.page c.in_ok-own_page-in-Some.field-0 c.args.last
    c.args.place
    (search rules) (search rules) c.requires.none_empty (search rules) c.requires.place).1

pub returns-in-None : goal.returns-in-None
returns-in-None g c = c.empty.ensures
    ∙ last_out c.args.closed c.args.last c.args.place (search rules) (search rules) c.requires.place
