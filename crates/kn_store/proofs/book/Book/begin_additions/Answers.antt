use Rattle.std.proofs.Common.{rules, ◌≤◌, sym, subst}
use Rattle.kn_store.specs.EarlierVersions.{AreLeft}
use Rattle.kn_store.proofs.EarlierLemmas.{none_left}
use Rattle.kn_store.proofs.book.Book.begin_additions.Goals as goal

pub returns-clause-earlier : goal.returns-clause-earlier
returns-clause-earlier c =
    let many : 16 ≤ c.args.count = search rules in
    subst (AreLeft c.args.count c.args.self.now) (sym c.in_ok-empty.ensures)
    (none_left c.args.count c.args.self.now many)
