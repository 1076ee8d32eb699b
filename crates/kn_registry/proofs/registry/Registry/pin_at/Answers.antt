use Rattle.std.proofs.Common.{◌≡◌, ◌⊎◌, List, Some, None, length, ap, sym, ◌∙◌, subst, IfOk, IfErr}
use Rattle.std.specs.Arc.{arc_value}
use Rattle.std.proofs.lemmas.Result.{IfOk-weaker, IfErr-weaker}
use Rattle.kn_history.specs.declared.update.Update.{Update}
use Rattle.kn_history.specs.Retained.{retained_version}
use Rattle.kn_turn.specs.Passes.{after_give, after_look}
use Rattle.kn_registry.specs.declared.answer.PinFault.TheVariants as P
use Rattle.kn_registry.specs.Passes.{PassSeen, IsSoundPass, Looks, RefusesVersion}
use Rattle.kn_registry.proofs.PassMoves.{looks_of, refuses_version}
use Rattle.kn_registry.proofs.registry.Registry.pin_at.Goals as goal

pub returns-clause-version : goal.returns-clause-version
returns-clause-version g c =
    let is = c.look.ensures.looked ∙ ap (λ (p : PassSeen). after_give (after_look p)) c.take-shared.ensures.taken in
    let seen = c.shared.view_is ∙ sym (ap (λ (p : PassSeen). p.seen) is) in
    subst (λ (l : List Update). IfOk c.find_retained-retained.result (λ snapshot. retained_version l c.args.version
    ≡ Some (arc_value snapshot))) seen c.find_retained-retained.ensures.version

pub returns-clause-looked : goal.returns-clause-looked
returns-clause-looked g c =
    let taken = c.take-shared.ensures in
    let looks = looks_of c.args.pass.now c.look.new.pass c.take-shared.result (c.look.ensures.looked
    ∙ ap (λ (p : PassSeen). after_give (after_look p)) taken.taken) taken.seen
    (subst IsSoundPass taken.taken taken.sound) c.look.ensures.sound in
    IfOk-weaker c.find_retained-retained.result _ (λ snapshot. Looks c.args.pass.now c.look.new.pass)
    (λ snapshot is. looks) c.find_retained-retained.ensures.version

pub returns-clause-refused : goal.returns-clause-refused
returns-clause-refused g c =
    let taken = c.take-shared.ensures in
    let v : PassSeen = c.args.pass.now in
    let w : PassSeen = c.look.new.pass in
    let is = c.look.ensures.looked ∙ ap (λ (p : PassSeen). after_give (after_look p)) taken.taken in
    let seen = c.shared.view_is ∙ sym (ap (λ (p : PassSeen). p.seen) is) in
    let looks = looks_of v w c.take-shared.result is taken.seen (subst IsSoundPass taken.taken taken.sound)
    c.look.ensures.sound in
    let missing = subst (λ (l : List Update). IfErr c.find_retained-retained.result (λ fault. (fault ≡ P.NoMemory)
    ⊎ ((fault ≡ P.Missing (length l)) × (retained_version l c.args.version ≡ None)))) seen
    c.find_retained-retained.ensures.missing in
    IfErr-weaker c.find_retained-retained.result _ (λ fault. RefusesVersion v w c.args.version fault)
    (λ fault why. refuses_version v w c.args.version fault looks why) missing
