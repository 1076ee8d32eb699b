use Rattle.std.proofs.Common.{◌≡◌, ◌+◌, ◌++◌, ◌∷◌, [], ◌⊎◌, List, Some, length, true, ap, sym, ◌∙◌, subst}
use Rattle.kn_history.specs.declared.update.Update.{Update}
use Rattle.kn_history.specs.declared.fault.StoreFault.TheVariants.{NoMemory}
use Rattle.kn_history.specs.History.{all_changes, additions, addition_by, update_may_follow, refusal_of_text}
use Rattle.kn_turn.specs.Passes.{after_give, after_look, after_append}
use Rattle.kn_registry.specs.Passes.{PassSeen, IsSoundPass}
use Rattle.kn_registry.proofs.PassMoves.{adds_of, looks_of, refuses_text}
use Rattle.kn_registry.proofs.registry.Registry.add.Goals as goal

pub returns-in-Ok-clause-added : goal.returns-in-Ok-clause-added
returns-in-Ok-clause-added g c =
    let taken = c.take-shared.ensures in
    let v : PassSeen = c.args.pass.now in
    let log : List Update = c.take-shared.result in
    let book : List Update = c.shared.inside.book in
    let update : Update = addition_by c.number.result c.args.ready (additions (all_changes book) + 1) in
    let prepared : c.in-Ok.prepared.log ≡ book ++ update ∷ [] = c.in-Ok.ensures.log in
    let longer : c.commit-done.new.self ≡ log ++ update ∷ [] = c.commit-done.ensures.log
    ∙ (prepared ∙ ap (λ (b : List Update). b ++ update ∷ []) c.shared.view_is) in
    let out : log ≡ c.take-shared.new.pass.taken = sym (ap (λ (p : PassSeen). p.taken) taken.taken) in
    let is = c.append.ensures.appended update (longer ∙ ap (λ (l : List Update). l ++ update ∷ []) out)
    ∙ ap (λ (p : PassSeen). after_give (after_append p update)) taken.taken in
    let number_is = c.number.ensures.number ∙ ap (λ (p : PassSeen). p.number) taken.taken in
    let follows = subst (λ (l : List Update). update_may_follow (all_changes l) update ≡ true) c.shared.view_is
    c.in-Ok.ensures.follows in
    adds_of v c.append.new.pass log c.number.result (additions (all_changes book) + 1) c.commit-done.result.id
    c.commit-done.result.version c.args.ready is number_is (c.commit-done.ensures.id ∙ c.in-Ok.ensures.id)
    taken.seen (subst IsSoundPass taken.taken taken.sound) c.append.ensures.sound follows (c.commit-done.ensures.version
    ∙ ap length longer)

pub returns-in-Ok-clause-ready : goal.returns-in-Ok-clause-ready
returns-in-Ok-clause-ready g c =
    let taken = c.take-shared.ensures in
    let log : List Update = c.take-shared.result in
    let book : List Update = c.shared.inside.book in
    let update : Update = addition_by c.number.result c.args.ready (additions (all_changes book) + 1) in
    let prepared : c.in-Ok.prepared.log ≡ book ++ update ∷ [] = c.in-Ok.ensures.log in
    let longer : c.commit-done.new.self ≡ log ++ update ∷ [] = c.commit-done.ensures.log
    ∙ (prepared ∙ ap (λ (b : List Update). b ++ update ∷ []) c.shared.view_is) in
    let out : log ≡ c.take-shared.new.pass.taken = sym (ap (λ (p : PassSeen). p.taken) taken.taken) in
    let is = c.append.ensures.appended update (longer ∙ ap (λ (l : List Update). l ++ update ∷ []) out)
    ∙ ap (λ (p : PassSeen). after_give (after_append p update)) taken.taken in
    record {
      own = ap (λ (p : PassSeen). p.turn) is ∙ c.requires.ready.own;
      idle = ap (λ (p : PassSeen). p.is_idle) is;
      valid = c.append.ensures.valid;
    }

pub returns-in-Err-clause-refused : goal.returns-in-Err-clause-refused
returns-in-Err-clause-refused g c =
    let taken = c.take-shared.ensures in
    let is = c.look.ensures.looked ∙ ap (λ (p : PassSeen). after_give (after_look p)) taken.taken in
    let seen = c.shared.view_is ∙ sym (ap (λ (p : PassSeen). p.seen) is) in
    refuses_text c.args.pass.now c.look.new.pass c.args.ready c.in-Err.fault
    (looks_of c.args.pass.now c.look.new.pass c.take-shared.result is taken.seen
    (subst IsSoundPass taken.taken taken.sound) c.look.ensures.sound)
    (subst (λ (l : List Update). (c.in-Err.fault ≡ NoMemory)
    ⊎ (refusal_of_text (all_changes l) c.args.ready ≡ Some c.in-Err.fault)) seen c.in-Err.ensures.refused)
