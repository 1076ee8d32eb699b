-- Updates of several changes.
use Rattle.std.proofs.Common.{◌≡◌, ℕ, Bool, true, List, [], ◌∷◌, length, map, refl, sym, ap, ◌∙◌}
use Rattle.std.proofs.Common.{Option, Some, None, subst, inl, inr}
use Rattle.std.specs.Prelude.{Result, Ok, option_and_then, option_map, option_to_list}
use Rattle.kn_trees.specs.declared.assertion.Assertion.{Assertion}
use Rattle.kn_outside.specs.Seen.{LinkSeen}
use Rattle.kn_outside.specs.Printing.{Prints}
use Rattle.kn_history.specs.declared.item.Item.{Item}
use Rattle.kn_history.specs.declared.fault.StoreFault.{StoreFault}
use Rattle.kn_history.specs.declared.fault.BatchFault.{BatchFault}
use Rattle.kn_history.specs.declared.fault.BatchFault.TheVariants as B
use Rattle.kn_history.specs.Batches.{batch_by}
use Rattle.kn_wire.specs.declared.items.BatchText.{BatchText}
use Rattle.kn_wire.specs.declared.items.BatchText.TheVariants as T
use Rattle.kn_wire.specs.Items.{BatchItem, items_of}
use Rattle.kn_wire.specs.ItemsInCode.{HasFault}
use Rattle.kn_reply.specs.declared.refusal.Refusal.{Refusal}
use Rattle.kn_reply.specs.declared.refusal.Refusal.TheVariants as R
use Rattle.kn_reply.specs.Logs.{item_of}
use Rattle.kn_reply.specs.Replies.{Batched, reply_text}
use Rattle.kn_daemon.specs.Shapes.{Shape, Updates, ApplyBlock}
use Rattle.kn_daemon.specs.Daemon.{DaemonConfig, State, IsBatchCommitted, own_refusal, placed_refusal}
use Rattle.kn_daemon.specs.Daemon.{refusal_of_block, refusal_of_batch, refusal_of_item_fault, read_items}
use Rattle.kn_daemon.specs.Linearized.{update_by}
use Rattle.kn_daemon.proofs.Answered.{answers-batch}
use Rattle.kn_registry.specs.declared.answer.Batched.{Batched as BatchDone}
use Rattle.kn_registry.specs.Passes.{PassSeen, Looks as PassLooks, Batches, RefusesItems}
use Rattle.kn_serve.specs.Admission.{AdmitsAll, RefusesOneItem}
use Rattle.kn_refusals.specs.Refusals.{refusal_of_batch_text, refusal_of_batch_fault}
use Rattle.kn_serve.specs.Handling.{Moment, in_state, Handles, Tells, refused_reply}
use Rattle.kn_serve.proofs.HandlingLaws.{handled_by, lacking_handled, unserved_handled, refused_handled, unrefused}
use Rattle.kn_serve.proofs.HandlingLaws.{told_refused, told_memory}

abbrev batches : List ℕ → Shape
batches block = Updates (ApplyBlock block)

-- the block isn't made of items, or memory ran out
pub batch_unread : (g : DaemonConfig) (whole : Bool) (l l' : LinkSeen) (now : State) (block : List ℕ)
    (fault : BatchText)
    (told : Option Refusal) → now.is_admin ≡ true → HasFault block fault → told ≡ refusal_of_batch_text fault →
    Prints whole (reply_text (refused_reply told)) l l' → Tells g (batches block) whole now now l l'
batch_unread g whole l l' now block fault told admin why is prints =
    by fault why (subst (λ (o : Option Refusal). Prints whole (reply_text (refused_reply o)) l l') is prints)
  where
    by : (f : BatchText) → HasFault block f →
        Prints whole (reply_text (refused_reply (refusal_of_batch_text f))) l l' →
        Tells g (batches block) whole now now l l'
    by (T.Form item) e p =
        let own : refusal_of_block g (items_of block) ≡ Some (R.Batch item) =
        ap (λ (r : Result (List BatchItem) ℕ). refusal_of_block g r) e in
        told_refused g (batches block) whole now l l' (R.Batch item) (rw admin own) p
    by T.NoMemory e p = told_memory g (batches block) whole now l l' refl p

module _ (g : DaemonConfig) (now : State) (block : List ℕ) (items : List BatchItem) (verdict : List ℕ → Assertion → ℕ)
    (grounds : g.verdict ≡ verdict) (admin : now.is_admin ≡ true) (read : items_of block ≡ Ok items) where
  -- what the state refuses of a block that is made of these items
  own_of_items : (o : Option Refusal) → refusal_of_block g (Ok items) ≡ o → own_refusal g now (batches block) ≡ o
  own_of_items o is =
      let own : refusal_of_block g (items_of block) ≡ o =
      ap (λ (r : Result (List BatchItem) ℕ). refusal_of_block g r) read ∙ is in
      rw admin own

  -- all are admitted
  pub batch_admitted : AdmitsAll verdict items → own_refusal g now (batches block) ≡ None
  batch_admitted admitted = own_of_items None (admitted g grounds)

  -- an item isn't admitted, or memory ran out
  pub batch_unadmitted : (whole : Bool) (l l' : LinkSeen) (refusal : Option Refusal) →
      RefusesOneItem verdict items refusal → Prints whole (reply_text (refused_reply refusal)) l l' →
      Tells g (batches block) whole now now l l'
  batch_unadmitted whole l l' None refused prints = told_memory g (batches block) whole now l l' refl prints
  batch_unadmitted whole l l' (Some refusal) (inl none) prints = absurd (cc none)
  batch_unadmitted whole l l' (Some refusal) (inr refused) prints =
      told_refused g (batches block) whole now l l' refusal (own_of_items (Some refusal) (refused g grounds)) prints

module _ (g : DaemonConfig) (whole : Bool) (v w : PassSeen) (l l' : LinkSeen) (now : State) (block : List ℕ)
    (read : List BatchItem) (items : List Item) (reads : items_of block ≡ Ok read) (seen : items ≡ map item_of read)
    (own : own_refusal g now (batches block) ≡ None) where
  abbrev before : Moment
  before = in_state now v l

  abbrev after : Moment
  after = in_state now w l'

  -- the update was made
  pub batch_applied : (batched : BatchDone) → Batches v w items batched →
      Prints whole (reply_text (Batched batched.first batched.added batched.version)) l l' →
      Handles g (batches block) whole before after
  batch_applied batched b prints =
      let c = b.commits in
      handled_by g (batches block) whole before after (Batched batched.first batched.added batched.version)
      c.more (batch_by v.number batched.first items ∷ []) (length w.seen ∷ []) c.moves named
      (record {
        accepted = own;
        answered =
            answers-batch v.number w.seen now block (Batched batched.first batched.added batched.version)
            (record { items = read; read = reads; batch = subst committed seen at_first });
        next = refl;
      }) refl
      (unrefused (own_refusal g now (batches block)) own) prints
    where
      committed : List Item → Type 0
      committed changes = IsBatchCommitted v.number w.seen changes (Batched batched.first batched.added batched.version)

      named : batch_by v.number batched.first items ∷ []
          ≡ option_to_list (update_by v.number (batches block) (Batched batched.first batched.added batched.version))
      named =
          ap (λ (changes : List Item). batch_by v.number batched.first changes ∷ []) seen
          ∙ ap (λ (r : Result (List BatchItem) ℕ).
          option_to_list (option_map (λ changes. batch_by v.number batched.first changes) (read_items r))) (sym reads)

      at_first : committed items
      at_first =
          let c = b.commits in
          record {
            first = batched.first;
            committed = record { before = c.before; ends = c.ends; accepted = c.follows };
            first_is = b.first;
            exact = rw (c.at, b.added) refl;
          }

  -- the history refuses an item, or memory ran out
  pub batch_unapplied : (fault : BatchFault) (told : Option Refusal) → RefusesItems v w items fault →
      told ≡ refusal_of_batch_fault fault → Prints whole (reply_text (refused_reply told)) l l' →
      Handles g (batches block) whole before after
  batch_unapplied fault told refuses is prints =
      by fault refuses (subst (λ (o : Option Refusal). Prints whole (reply_text (refused_reply o)) l l') is prints)
    where
      at_item : (looks : PassLooks v w) (o : Option Refusal) → placed_refusal w.seen (batches block) ≡ o →
          Prints whole (reply_text (refused_reply o)) l l' → Handles g (batches block) whole before after
      at_item looks None placed p = unserved_handled g (batches block) whole before after refl looks own refl p
      at_item looks (Some refusal) placed p =
          refused_handled g (batches block) whole before after refusal refl looks own placed p

      by : (f : BatchFault) → RefusesItems v w items f →
          Prints whole (reply_text (refused_reply (refusal_of_batch_fault f))) l l' →
          Handles g (batches block) whole before after
      by B.NoMemory stays p = lacking_handled g (batches block) whole before after refl stays own refl p
      by (B.Item number f) r p =
          let placed : placed_refusal w.seen (batches block) ≡ refusal_of_item_fault number f =
          ap (λ (x : Result (List BatchItem) ℕ). option_and_then (refusal_of_batch w.seen) (read_items x)) reads
          ∙ ap (refusal_of_batch w.seen) (sym seen)
          ∙ ap (λ (o : Option (ℕ × StoreFault)).
          option_and_then (λ found. refusal_of_item_fault found.0 found.1) o) r.refusal_is in
          at_item r.looks (refusal_of_item_fault number f) placed p
