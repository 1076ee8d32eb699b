use Rattle.std.proofs.Common.{List, map, sym, subst}
use Rattle.kn_meaning.specs.Equations.{Part}
use Rattle.kn_session.specs.Views.{numbered_text}
use Rattle.kn_history.specs.History.{credentials_of}
use Rattle.kn_rows.specs.Numbering.{AreDistinct}
use Rattle.kn_rows.specs.Sizes.{HaveTexts}
use Rattle.kn_query.proofs.Texts.{both_sorts, have_texts, ids_differ}
use Rattle.kn_query.proofs.parts.parts_of_view.Goals as goal

pub returns-clause-texts : goal.returns-clause-texts
returns-clause-texts c =
    let live = credentials_of c.deref-version.result.now in
    let privates = c.args.view.now.private.now in
    let whole = both_sorts live privates _ _ _ c.new-parts.ensures c.in_ok-push_shared.ensures.parts
    c.in_ok-push_private.ensures in
    subst (λ (l : List Part). HaveTexts l) (sym whole)
    (have_texts c.assertions_of_a_session.ensures.bytes live privates c.in_ok-push_shared.ensures.read
    c.requires.readings c.len-live.ensures.bytes_limit c.requires.privates)

pub returns-clause-ids : goal.returns-clause-ids
returns-clause-ids c =
    let live = credentials_of c.deref-version.result.now in
    let privates = c.args.view.now.private.now in
    let whole = both_sorts live privates _ _ _ c.new-parts.ensures c.in_ok-push_shared.ensures.parts
    c.in_ok-push_private.ensures in
    subst (λ (l : List Part). AreDistinct (map (λ (part : Part). part.id) l)) (sym whole)
    (ids_differ live privates c.in_ok-push_shared.ensures.read c.requires.readings
    (c.assertions_of_a_session.ensures.ids live (map numbered_text privates) c.len-live.ensures.ids
    c.requires.privates))
