use Rattle.std.proofs.Common.{◌≡◌, ◌+◌, ◌++◌, ◌∷◌, [], ℕ, List, length, true, ap, sym, ◌∙◌, subst}
use Rattle.kn_history.specs.declared.update.Update.{Update}
use Rattle.kn_history.specs.History.{all_changes, additions, update_may_follow}
use Rattle.kn_history.specs.Batches.{batch_by, refusal_of_items, RefusesBatch}
use Rattle.kn_turn.specs.Passes.{after_give, after_look, after_append}
use Rattle.kn_registry.specs.Passes.{PassSeen, IsSoundPass}
use Rattle.kn_registry.specs.declared.answer.Batched.{Batched}
use Rattle.kn_registry.proofs.PassMoves.{batches_of, looks_of, refuses_items}
use Rattle.kn_registry.proofs.registry.Registry.batch.Goals as goal

pub returns-in-Ok-clause-batched : goal.returns-in-Ok-clause-batched
returns-in-Ok-clause-batched g c =
    let taken = c.take-shared.ensures in
    let v : PassSeen = c.args.pass.now in
    let log : List Update = c.take-shared.result in
    let next = λ (l : List Update). additions (all_changes l) + 1 in
    let first : ℕ = c.commit-done.result.id in
    let first_is : first ≡ next log = c.commit-done.ensures.id ∙ (c.in-Ok.ensures.id ∙ ap next c.shared.view_is) in
    let update = λ (id : ℕ). batch_by c.number.result id c.args.items in
    let prepared : c.in-Ok.prepared.log ≡ log ++ update first ∷ [] =
    subst (λ (l : List Update). c.in-Ok.prepared.log ≡ l ++ update (next l) ∷ []) c.shared.view_is c.in-Ok.ensures.log
    ∙ ap (λ (id : ℕ). log ++ update id ∷ []) (sym first_is) in
    let longer : c.commit-done.new.self ≡ log ++ update first ∷ [] = c.commit-done.ensures.log ∙ prepared in
    let out : log ≡ c.take-shared.new.pass.taken = sym (ap (λ (p : PassSeen). p.taken) taken.taken) in
    let is = c.append.ensures.appended (update first) (longer ∙ ap (λ (l : List Update). l ++ update first ∷ []) out)
    ∙ ap (λ (p : PassSeen). after_give (after_append p (update first))) taken.taken in
    let number_is = c.number.ensures.number ∙ ap (λ (p : PassSeen). p.number) taken.taken in
    let follows = subst (λ (id : ℕ). update_may_follow (all_changes log) (update id) ≡ true) (sym first_is)
    (subst (λ (l : List Update). update_may_follow (all_changes l) (update (next l)) ≡ true) c.shared.view_is
    c.in-Ok.ensures.follows) in
    let batched : Batched =
    record { first = first; added = c.count_additions-added.result; version = c.commit-done.result.version } in
    batches_of v c.append.new.pass log c.number.result c.args.items batched is number_is taken.seen
    (subst IsSoundPass taken.taken taken.sound) c.append.ensures.sound follows
    (c.commit-done.ensures.version ∙ ap length longer) first_is (c.count_additions-added.ensures first)

pub returns-in-Err-clause-refused : goal.returns-in-Err-clause-refused
returns-in-Err-clause-refused g c =
    let taken = c.take-shared.ensures in
    let is = c.look.ensures.looked ∙ ap (λ (p : PassSeen). after_give (after_look p)) taken.taken in
    let seen = c.shared.view_is ∙ sym (ap (λ (p : PassSeen). p.seen) is) in
    refuses_items c.args.pass.now c.look.new.pass c.args.items c.in-Err.fault
    (looks_of c.args.pass.now c.look.new.pass c.take-shared.result is taken.seen
    (subst IsSoundPass taken.taken taken.sound) c.look.ensures.sound)
    (subst (λ (l : List Update). RefusesBatch (refusal_of_items (all_changes l) c.args.items) c.in-Err.fault) seen
    c.in-Err.ensures.refused)
