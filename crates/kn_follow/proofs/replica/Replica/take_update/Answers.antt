use Rattle.std.proofs.Common.{length, sym, ap, subst, ◌∙◌, arith}
use Rattle.kn_history.specs.declared.fault.BatchFault.{BatchFault}
use Rattle.kn_follow.specs.declared.items.ItemFault.{ItemFault}
use Rattle.kn_history.specs.Batches.{refusal_of_items, RefusesBatch}
use Rattle.kn_history.specs.History.{all_changes}
use Rattle.kn_follow.specs.InCode.{update_of, asked_items, AreUnreadable}
use Rattle.kn_follow.proofs.Takings.{unreadable_text, refused_change}
use Rattle.kn_follow.proofs.replica.Replica.take_update.Goals as goal

pub returns-in-Err-Unreadable-clause-fault : goal.returns-in-Err-Unreadable-clause-fault
returns-in-Err-Unreadable-clause-fault c = (
  unreadable_text c.args.self.now (update_of c.args.update.now)
      (subst (λ (f : ItemFault). AreUnreadable (asked_items c.args.update.now.items) f) c.in-Err-Unreadable.field-0-is
      c.in-Err-Unreadable.ensures.unreadable),
  omega (arith, c.number-place.ensures.number, ap length c.deref.ensures, ap length c.snapshot.ensures.version),
)

pub returns-in-Err-Item-clause-fault : goal.returns-in-Err-Item-clause-fault
returns-in-Err-Item-clause-fault c =
    let asked = asked_items c.args.update.now.items in
    let found = ap (λ b. refusal_of_items (all_changes b) asked) (sym c.self.view_is)
    ∙ ap (refusal_of_items (all_changes c.self.inside.book)) (sym c.in-Ok.ensures.items)
    ∙ subst (λ (f : BatchFault). RefusesBatch (refusal_of_items (all_changes c.self.inside.book) c.in-Ok.items) f)
    c.in-Err-Item.field-0-is c.in-Err-Item.ensures.refused in (
      refused_change c.args.self.now (update_of c.args.update.now) (c.in-Err-Item.field-0-0, c.in-Err-Item.field-0-1)
          found,
      omega (arith, c.number-place.ensures.number, ap length c.deref.ensures, ap length c.snapshot.ensures.version),
    )
