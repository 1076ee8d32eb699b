use Rattle.std.proofs.Common.{rules, ◌≡◌, ◌≤◌, ◌∙◌, ◌-◌, length, ap, sym, inr, Some, arith}
use Rattle.std.specs.Vec.Iter.{into_iter_items}
use Rattle.kn_history.specs.History.{all_changes, addition_by, refusal_of_text}
use Rattle.kn_history.proofs.Additions.{one_more_added, refused_here}
use Rattle.kn_store.proofs.EarlierLemmas.{next_kept, next_not_kept}
use Rattle.kn_store.proofs.version.Version.with_additions.Goals.{else-left-via-then-left+else-is_err}
use Rattle.kn_store.proofs.version.Version.with_additions.Goals.{else-left-via-else-left}
use Rattle.kn_store.proofs.version.Version.with_additions.Goals as goal

pub loop-ready-preserved : goal.loop-ready-preserved
loop-ready-preserved c =
    let before = c.loop-ready.invariant in
    let longer = ap length c.in-Some.ensures.steps.0 in
    let left = before.left in
    let some : 1 ≤ c.loop-ready.left = omega (arith, left, longer) in
    record {
      added = one_more_added c.args.self c.args.caller c.args.ready_texts.items c.loop-ready.next
          (into_iter_items c.loop-ready.ready-iterator)
          (into_iter_items c.next.new.self) c.in-Some.ready before.added c.in-Some.ensures.steps.0
          c.in-Ok.longer c.in-Ok.field-0-1 c.in-Ok.ensures.id c.in-Ok.ensures.version c.in-Ok.ensures.follows;
      left = omega (arith, left, longer);
      earlier = elim c.else-left.branch [
        | else-left-via-then-left+else-is_err w ↦
            next_kept c.loop-ready.left c.loop-ready.next c.in-Ok.longer c.loop-ready.earlier c.else-left.earlier
            (addition_by c.args.caller c.in-Some.ready c.in-Ok.field-0-1)
            some (search rules) c.in-Ok.ensures.version (search rules) before.earlier
        | else-left-via-else-left w ↦
            next_not_kept c.loop-ready.left c.loop-ready.next c.in-Ok.longer c.loop-ready.earlier c.else-left.earlier
            (addition_by c.args.caller c.in-Some.ready c.in-Ok.field-0-1)
            (search rules) c.in-Ok.ensures.version (search rules) before.earlier
      ];
    }

pub returns-in-Some-refusal_of_size-clause-refused : goal.returns-in-Some-refusal_of_size-clause-refused
returns-in-Some-refusal_of_size-clause-refused c =
    let place : c.number.result - c.number-before.result ≡ length c.loop-ready.next - length c.args.self =
    ap (λ n. n - c.number-before.result) c.number.ensures.number
    ∙ ap (λ n. length c.loop-ready.next - n) c.number-before.ensures.number in
    let refused : refusal_of_text (all_changes c.loop-ready.next) c.in-Some.ready
    ≡ Some c.in-Some-refusal_of_size.fault =
    sym (c.refusal_of_size.ensures c.in-Some.ready (ap length c.text.ensures.text)) ∙ c.in-Some-refusal_of_size.is in
    inr (refused_here c.args.self c.args.caller c.args.ready_texts.items c.loop-ready.next
    (into_iter_items c.loop-ready.ready-iterator)
    (into_iter_items c.next.new.self) c.in-Some.ready c.loop-ready.invariant.added c.in-Some.ensures.steps.0 _
    c.in-Some-refusal_of_size.fault place refused)
