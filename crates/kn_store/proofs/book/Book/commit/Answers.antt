use Rattle.std.proofs.Common.{◌≡◌, ◌∷◌, [], ◌++◌, ◌∙◌, ap, sym, subst}
use Rattle.std.specs.Arc.{arc_value}
use Rattle.kn_store.specs.EarlierVersions.{AreLeft, with_version}
use Rattle.kn_store.proofs.EarlierLemmas.{one_more_retained}
use Rattle.kn_store.proofs.book.Book.commit.Goals as goal

pub invariant_of-self : goal.invariant_of-self
invariant_of-self c =
    let log = arc_value c.self.inside.newest in
    let update = c.requires.next.0 in
    let longer : log ++ update ∷ [] ≡ arc_value c.replace.new.dest =
    ap (λ l. l ++ update ∷ []) c.self.view_is ∙ sym c.requires.next.1 ∙ sym (ap (λ p. p.log) c.p.view_is)
    ∙ ap arc_value (sym c.replace.ensures.after) in
    let entered : with_version c.self.inside.earlier log ≡ c.enter.new.self =
    ap (λ v. with_version c.self.inside.earlier (arc_value v)) (sym c.replace.ensures.value) ∙ sym c.enter.ensures in
    subst (λ l. AreLeft 0 l c.enter.new.self) longer
    (subst (AreLeft 0 (log ++ update ∷ [])) entered
    (one_more_retained log c.self.inside.earlier update c.self.invariant))
