use Rattle.std.proofs.Common.{[], ◌∷◌, ◌++◌, length, ap, ◌∙◌, arith, length-append}
use Rattle.kn_pages.specs.Pages.{joined}
use Rattle.kn_pages.proofs.PageLemmas.{joined-with_item}
use Rattle.kn_store.proofs.log.LogPage.with_update.Goals as goal

pub invariant_of-result : goal.invariant_of-result
invariant_of-result c =
    let longer = ap (λ pages. length (joined pages)) c.in_ok-add.ensures.added
    ∙ ap length (joined-with_item _ c.self.inside.blocks c.in_ok-update.update) in
    let sizes = length-append (joined c.self.inside.blocks) (c.in_ok-update.update ∷ []) in
    let before = c.self.invariant in
    omega arith

pub returns : goal.returns
returns c =
    ap joined c.in_ok-add.ensures.added ∙ joined-with_item _ c.self.inside.blocks c.in_ok-update.update
    ∙ ap (λ u. joined c.self.inside.blocks ++ u ∷ []) c.in_ok-update.ensures
    ∙ ap (λ l. l ++ c.args.update ∷ []) c.self.view_is
