use Rattle.std.proofs.Common.{◌≡◌, Bool, true, false, List, slice_set, sym, ◌∙◌, subst}
use Rattle.std.proofs.lemmas.List.{get_or_read}
use Rattle.kn_watch.specs.Affected.{is_affected}
use Rattle.kn_watch.specs.Found.{AreFound}
use Rattle.kn_watch.proofs.FlaggedLists.{found-next}
use Rattle.kn_watch.proofs.affected.Affected.flag.Goals as goal

pub returns-clause-found : goal.returns-clause-found
returns-clause-found c =
    let flags : List Bool = c.args.self.now.flags.items in
    let other : is_affected flags c.args.principal ≡ false =
    sym (get_or_read flags c.args.principal c.index.result.now c.requires.in_range c.index.ensures false)
    ∙ c.if-index.false in
    subst (AreFound (slice_set flags c.args.principal true)) (sym c.in-Ok.ensures.ok)
    (found-next flags c.args.self.now.found c.args.principal c.requires.in_range other c.requires.found)
