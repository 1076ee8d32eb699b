use Rattle.std.proofs.Common.{rules, ◌-◌, ◌∙◌, ap, sym, length}
use Rattle.std.specs.Prelude.{nat_lt}
use Rattle.kn_store.proofs.SearchLemmas.{ends_at}
use Rattle.kn_store.proofs.live_set.ends_before.Goals as goal

pub returns-in-Some : goal.returns-in-Some
returns-in-Some c =
    let last = ends_at c.args.id c.args.page.now c.in-Some.last.now (length c.args.page.now - 1) (search rules)
    (sym c.in-Some.ensures.value) in
    ap (λ n. nat_lt n c.args.id) (search rules) ∙ sym last
