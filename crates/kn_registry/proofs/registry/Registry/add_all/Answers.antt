use Rattle.std.proofs.Common.{◌≡◌, ◌++◌, ◌⊎◌, ℕ, List, All, true, ap, sym, ◌∙◌, subst}
use Rattle.kn_history.specs.declared.update.Update.{Update}
use Rattle.kn_history.specs.declared.fault.StoreFault.TheVariants.{NoMemory}
use Rattle.kn_history.specs.History.{all_changes, additions, additions_by, updates_may_follow, IsFirstRefused}
use Rattle.kn_turn.specs.Passes.{after_give, after_look, after_append_all}
use Rattle.kn_registry.specs.Passes.{PassSeen, IsSoundPass}
use Rattle.kn_registry.proofs.PassMoves.{additions_name, adds_all_of, looks_of, refuses_one}
use Rattle.kn_registry.proofs.registry.Registry.add_all.Goals as goal

pub append_all-requires-clause-more : goal.append_all-requires-clause-more
append_all-requires-clause-more g c =
    let taken = c.take-shared.ensures in
    let log : List Update = c.take-shared.result in
    let n : ℕ = additions (all_changes log) in
    let updates : List Update = additions_by c.number.result n c.args.ready_texts.items in
    let longer : c.add_all.new.self ≡ log ++ updates =
    subst (λ (l : List Update). c.add_all.new.self ≡ l ++ additions_by c.number.result (additions (all_changes l))
    c.args.ready_texts.items) c.shared.view_is c.in-Ok.ensures.log in (
      updates,
      subst (λ (k : ℕ). All (λ (u : Update). u.caller ≡ k) updates) c.number.ensures.number
          (additions_name c.number.result n c.args.ready_texts.items),
      longer ∙ ap (λ (p : PassSeen). p.taken ++ updates) (sym taken.taken),
    )

pub returns-in-Ok-clause-added : goal.returns-in-Ok-clause-added
returns-in-Ok-clause-added g c =
    let taken = c.take-shared.ensures in
    let v : PassSeen = c.args.pass.now in
    let log : List Update = c.take-shared.result in
    let updates : List Update = additions_by c.number.result (additions (all_changes log)) c.args.ready_texts.items in
    let longer : c.add_all.new.self ≡ log ++ updates =
    subst (λ (l : List Update). c.add_all.new.self ≡ l ++ additions_by c.number.result (additions (all_changes l))
    c.args.ready_texts.items) c.shared.view_is c.in-Ok.ensures.log in
    let is = c.append_all.ensures.appended updates (longer
    ∙ ap (λ (p : PassSeen). p.taken ++ updates) (sym taken.taken))
    ∙ ap (λ (p : PassSeen). after_give (after_append_all p updates)) taken.taken in
    let number_is = c.number.ensures.number ∙ ap (λ (p : PassSeen). p.number) taken.taken in
    let follow = subst (λ (l : List Update). updates_may_follow (all_changes l)
    (additions_by c.number.result (additions (all_changes l)) c.args.ready_texts.items) ≡ true) c.shared.view_is
    c.in-Ok.ensures.follow in
    adds_all_of v c.append_all.new.pass log c.number.result c.args.ready_texts.items is number_is taken.seen
    (subst IsSoundPass taken.taken taken.sound) c.append_all.ensures.sound follow

pub returns-in-Err-clause-refused : goal.returns-in-Err-clause-refused
returns-in-Err-clause-refused g c =
    let taken = c.take-shared.ensures in
    let v : PassSeen = c.args.pass.now in
    let is = c.look.ensures.looked ∙ ap (λ (p : PassSeen). after_give (after_look p)) taken.taken in
    let seen = c.shared.view_is ∙ sym (ap (λ (p : PassSeen). p.seen) is) in
    let number_is = c.number.ensures.number ∙ ap (λ (p : PassSeen). p.number) taken.taken in
    let why = subst (λ (l : List Update). (c.in-Err.refused.1 ≡ NoMemory)
    ⊎ IsFirstRefused l c.number.result c.args.ready_texts.items c.in-Err.refused.0 c.in-Err.refused.1) seen
    c.in-Err.ensures.refused in
    refuses_one v c.look.new.pass c.args.ready_texts.items c.in-Err.refused.0 c.in-Err.refused.1
    (looks_of v c.look.new.pass c.take-shared.result is taken.seen (subst IsSoundPass taken.taken taken.sound)
    c.look.ensures.sound)
    (subst (λ (n : ℕ). (c.in-Err.refused.1 ≡ NoMemory)
    ⊎ IsFirstRefused c.look.new.pass.seen n c.args.ready_texts.items c.in-Err.refused.0 c.in-Err.refused.1) number_is
    why)
