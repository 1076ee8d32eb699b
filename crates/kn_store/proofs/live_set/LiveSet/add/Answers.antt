use Rattle.std.proofs.Common.{◌≡◌, ◌+◌, refl, sym, ap, ◌∙◌}
use Rattle.std.specs.Prelude.{None}
use Rattle.kn_store.specs.LiveView.{refusal_of_size, with_addition}
use Rattle.kn_store.specs.LiveSets.{view_of_set}
use Rattle.kn_store.proofs.LiveSetLemmas.{added_set, added_view}
use Rattle.kn_store.proofs.live_set.LiveSet.add.Goals as goal

pub invariant_of-self-2 : goal.invariant_of-self-2
invariant_of-self-2 c =
    let accepted : refusal_of_size (view_of_set c.self.inside) c.args.size ≡ None =
    ap (λ v. refusal_of_size v c.args.size) c.self.view_is ∙ ap (λ n. refusal_of_size c.args.self.now n) c.requires.size
    ∙ c.requires.accepted in
    added_set c.self.inside c.add.new.self c.args.most c.args.credential c.args.size c.in_ok-add.ensures.added
    c.requires.size
    (c.requires.next ∙ ap (λ v. v.added + 1) (sym c.self.view_is)) c.requires.some c.requires.few c.self.invariant
    accepted

pub returns-clause-ok : goal.returns-clause-ok
returns-clause-ok c =
    added_view c.self.inside c.add.new.self c.args.most c.args.credential c.args.size c.in_ok-add.ensures.added
    c.requires.size
    (c.requires.next ∙ ap (λ v. v.added + 1) (sym c.self.view_is)) c.args.credential.text refl
    ∙ ap (λ v. with_addition v c.args.credential.text) c.self.view_is
