-- An update that was made: what its reply is, and that nothing refuses it.
use Rattle.std.proofs.Common.{◌≡◌, ℕ, ◌+◌, true, ◌&&◌, List, [], ◌∷◌, ◌++◌, length, map, Option, Some, None, Result, Ok}
use Rattle.std.proofs.Common.{refl, sym, ap, ◌∙◌, subst, length-append}
use Rattle.std.specs.Prelude.{◌==◌, is_none, is_some, nat_le, option_map}
use Rattle.std.specs.List.{list_all}
use Rattle.std.proofs.lemmas.Bool.{and_parts, eqb-true}
use Rattle.std.proofs.lemmas.List.{same_from_push}
use Rattle.kn_base.specs.declared.limits.TheConstants.{CHANGES}
use Rattle.kn_assert.specs.Reading.{assertion_of}
use Rattle.kn_history.specs.declared.item.Item.{Item}
use Rattle.kn_history.specs.declared.update.Change.TheVariants.{Add, Remove}
use Rattle.kn_history.specs.declared.update.Numbered.{Numbered}
use Rattle.kn_history.specs.declared.update.Update.{Update}
use Rattle.kn_history.specs.History.{all_changes, additions, next_id, refusal_of, refusal_of_text, refusal_of_id}
use Rattle.kn_history.specs.History.{is_well_numbered}
use Rattle.kn_history.specs.History.{may_follow, all_may_follow, update_may_follow, addition_by, removal_by}
use Rattle.kn_history.specs.Batches.{numbered_from, batch_by, refusal_of_items, items_may_follow, item_reads}
use Rattle.kn_history.proofs.Batches.{batch-follows}
use Rattle.kn_wire.specs.Items.{BatchItem, items_of}
use Rattle.kn_reply.specs.Logs.{item_of}
use Rattle.kn_reply.specs.Replies.{Reply, Number, Added, Batched}
use Rattle.kn_daemon.specs.Shapes.{AddText, DropId, ApplyBlock, Updates}
use Rattle.kn_daemon.specs.Daemon.{State, read_items, IsCommitted, IsBatchCommitted, Answers}
use Rattle.kn_daemon.proofs.Answered.{batch-answered}
use Rattle.kn_transcript.specs.Followed.{with_update, history_behind}

none_is : {X : Type 0} (o : Option X) → is_none o ≡ true → o ≡ None
none_is None h = refl
none_is (Some x) h = cc

-- of an update of one change
one_follows : (past : List Numbered) (caller : ℕ) (c : Numbered)
    → update_may_follow past (record { caller = caller; changes = c ∷ [] }) ≡ true
    → (refusal_of past c.change c.id ≡ None) × (is_well_numbered past c.change c.id ≡ true)
one_follows past caller c follows =
    let made : all_may_follow past (c ∷ []) ≡ true =
    (and_parts (nat_le 1 (length (c ∷ [])) && nat_le (length (c ∷ [])) CHANGES) (all_may_follow past (c ∷ []))
    follows).1 in
    let here : may_follow past c ≡ true = (and_parts (may_follow past c) (all_may_follow (past ++ c ∷ []) []) made).0 in
    let parts = and_parts (is_none (refusal_of past c.change c.id)) (is_well_numbered past c.change c.id) here in
    (none_is (refusal_of past c.change c.id) parts.0, parts.1)

pub addition_follows : (past : List Numbered) (caller : ℕ) (text : List ℕ) (id : ℕ)
    → update_may_follow past (addition_by caller text id) ≡ true
    → (refusal_of_text past text ≡ None) × (id ≡ additions past + 1)
addition_follows past caller text id follows =
    let facts = one_follows past caller (record { change = Add text; id = id }) follows in (
      facts.0,
      eqb-true id (additions past + 1)
          (and_parts (id == additions past + 1) (is_some (assertion_of text)) facts.1).0,
    )

pub removal_follows : (past : List Numbered) (caller id : ℕ) → update_may_follow past (removal_by caller id) ≡ true
    → refusal_of_id past id ≡ None
removal_follows past caller id follows = (one_follows past caller (record { change = Remove; id = id }) follows).0

pub items_follow : (past : List Numbered) (caller : ℕ) (items : List Item)
    → update_may_follow past (batch_by caller (additions past + 1) items) ≡ true → refusal_of_items past items ≡ None
items_follow past caller items follows =
    let may : items_may_follow past items ≡ true = sym (batch-follows caller past items) ∙ follows in
    none_is (refusal_of_items past items)
    (and_parts (is_none (refusal_of_items past items)) (list_all item_reads items)
    (and_parts (nat_le 1 (length items) && nat_le (length items) CHANGES)
    (is_none (refusal_of_items past items) && list_all item_reads items) may).1).0

-- the history ends with one update more
module _ (past : List Update) where
  longer : (u : Update) → length (past ++ u ∷ []) ≡ length past + 1
  longer u = length-append past (u ∷ [])

  -- the update that was made follows what was there before
  committed_follows : (u : Update) (made : List Update) → made ≡ past ++ u ∷ [] → IsCommitted made u
      → update_may_follow (all_changes past) u ≡ true
  committed_follows u made here c =
      let same = same_from_push past c.before u u (sym here ∙ c.ends) in
      subst (λ (h : List Update). update_may_follow (all_changes h) u ≡ true) (sym same.0) c.accepted

  pub added_only : (old : State) (text : List ℕ) (reply : Reply)
      → Answers 0 (history_behind past (Updates (AddText text)) reply) old (Updates (AddText text)) reply
      → (reply ≡ Added (next_id past) (length past + 1)) × (refusal_of_text (all_changes past) text ≡ None)
  added_only old text reply is =
      let id : ℕ = is.0 in
      let u = addition_by 0 text id in
      let here : history_behind past (Updates (AddText text)) reply ≡ past ++ u ∷ [] =
      ap (λ (r : Reply). history_behind past (Updates (AddText text)) r) is.2 in
      let facts = addition_follows (all_changes past) 0 text id
      (committed_follows u (history_behind past (Updates (AddText text)) reply) here is.1) in
      let size : length (history_behind past (Updates (AddText text)) reply) ≡ length past + 1 =
      ap (λ (h : List Update). length h) here ∙ longer u in
      (is.2 ∙ rw (facts.1, size) refl, facts.0)

  pub removed_only : (old : State) (id : ℕ) (reply : Reply)
      → Answers 0 (history_behind past (Updates (DropId id)) reply) old (Updates (DropId id)) reply
      → (reply ≡ Number (length past + 1)) × (refusal_of_id (all_changes past) id ≡ None)
  removed_only old id reply is =
      let u = removal_by 0 id in
      let here : history_behind past (Updates (DropId id)) reply ≡ past ++ u ∷ [] =
      ap (λ (r : Reply). history_behind past (Updates (DropId id)) r) is.1 in
      let size : length (history_behind past (Updates (DropId id)) reply) ≡ length past + 1 =
      ap (λ (h : List Update). length h) here ∙ longer u in (
        is.1 ∙ ap (λ (n : ℕ). Number n) size,
        removal_follows (all_changes past) 0 id
            (committed_follows u (history_behind past (Updates (DropId id)) reply) here is.0),
      )

  -- the reply that is due to a batch of these items
  abbrev pub batch_reply : List Item → Reply
  batch_reply items = Batched (next_id past) (additions (numbered_from (next_id past) items)) (length past + 1)

  module _ (block : List ℕ) (items : List BatchItem) (reads : items_of block ≡ Ok items) (reply : Reply) where
    abbrev made : List Update
    made = history_behind past (Updates (ApplyBlock block)) reply

    batch_by_items : IsBatchCommitted 0 made (map item_of items) reply
        → (reply ≡ batch_reply (map item_of items)) × (refusal_of_items (all_changes past) (map item_of items) ≡ None)
    batch_by_items b =
        let asked = map item_of items in
        let u = batch_by 0 b.first asked in
        let here : made ≡ past ++ u ∷ [] =
        ap (λ (r : Reply). history_behind past (Updates (ApplyBlock block)) r) b.exact
        ∙ ap (λ (r : Result (List BatchItem) ℕ).
        with_update past (option_map (λ (all : List Item). batch_by 0 b.first all) (read_items r))) reads in
        let front : past ≡ b.committed.before =
        (same_from_push past b.committed.before u u (sym here ∙ b.committed.ends)).0 in
        let number : b.first ≡ next_id past = b.first_is ∙ ap (λ (h : List Update). next_id h) (sym front) in
        let size : length made ≡ length past + 1 = ap (λ (h : List Update). length h) here ∙ longer u in
        let follows : update_may_follow (all_changes past) (batch_by 0 (next_id past) asked) ≡ true =
        subst (λ (n : ℕ). update_may_follow (all_changes past) (batch_by 0 n asked) ≡ true) number
        (committed_follows u made here b.committed) in (
          b.exact ∙ ap (λ (n : ℕ). Batched b.first (additions (numbered_from b.first asked)) n) size
              ∙ ap (λ (n : ℕ). Batched n (additions (numbered_from n asked)) (length past + 1)) number,
          items_follow (all_changes past) 0 asked follows,
        )

    pub batched_only : (old : State) → Answers 0 made old (Updates (ApplyBlock block)) reply
        → (reply ≡ batch_reply (map item_of items)) × (refusal_of_items (all_changes past) (map item_of items) ≡ None)
    batched_only old is =
        let a = batch-answered 0 made old block reply is in
        let same : a.items ≡ items = ok_same (items_of block) a.items items a.read reads in
        batch_by_items (subst (λ (l : List BatchItem). IsBatchCommitted 0 made (map item_of l) reply) same a.batch)
      where
        ok_same : (r : Result (List BatchItem) ℕ) (a b : List BatchItem) → r ≡ Ok a → r ≡ Ok b → a ≡ b
        ok_same r a b first second = cc (first, second)
