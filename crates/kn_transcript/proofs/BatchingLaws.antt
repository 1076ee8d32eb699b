-- Replies to BATCH.
use Rattle.std.proofs.Common.{◌≡◌, ℕ, ◌+◌, Bool, true, List, [], ◌∷◌, ◌++◌, length, map, Option, Some, None, refl, sym}
use Rattle.std.proofs.Common.{ap, ◌∙◌, arith, inl, inr, subst, append-nil, length-append}
use Rattle.std.specs.Prelude.{Result, Ok, IfOk, not, option_and_then, option_map}
use Rattle.std.specs.Option.{option_or}
use Rattle.kn_history.specs.declared.update.Update.{Update}
use Rattle.kn_history.specs.declared.item.Item.{Item}
use Rattle.kn_history.specs.declared.fault.StoreFault.{StoreFault}
use Rattle.kn_history.specs.declared.fault.BatchFault.{BatchFault}
use Rattle.kn_history.specs.declared.fault.BatchFault.TheVariants as B
use Rattle.kn_history.specs.History.{all_changes, additions, next_id, UpdateFollows}
use Rattle.kn_history.specs.Batches.{numbered_from, batch_by, refusal_of_items, RefusesBatch}
use Rattle.kn_wire.specs.declared.items.BatchText.{BatchText}
use Rattle.kn_wire.specs.declared.items.BatchText.TheVariants as T
use Rattle.kn_wire.specs.Items.{BatchItem, items_of}
use Rattle.kn_wire.specs.ItemsInCode.{HasFault}
use Rattle.kn_reply.specs.declared.refusal.Refusal.{Refusal}
use Rattle.kn_reply.specs.declared.refusal.Refusal.TheVariants as R
use Rattle.kn_reply.specs.declared.refusal.ItemRefusal.{ItemRefusal}
use Rattle.kn_reply.specs.declared.refusal.ItemRefusal.TheVariants as I
use Rattle.kn_reply.specs.Logs.{item_of}
use Rattle.kn_reply.specs.Replies.{Batched, No, reply_text}
use Rattle.kn_daemon.specs.Shapes.{Shape, ApplyBlock, Updates}
use Rattle.kn_daemon.specs.Daemon.{DaemonConfig, State, own_refusal, placed_refusal, refusal_of_block, read_items}
use Rattle.kn_daemon.specs.Daemon.{refusal_of_batch, refusal_of_item_fault, refusal_from, refuse_if}
use Rattle.kn_daemon.proofs.Answered.{answers-batch}
use Rattle.kn_refusals.specs.Refusals.{refusal_of_batch_text, refusal_of_batch_fault}
use Rattle.kn_transcript.specs.declared.items.ReadItems.{ReadItems}
use Rattle.kn_transcript.specs.Followed.{with_update, history_behind}
use Rattle.kn_transcript.specs.Judging.{IsBehind, Judges}
use Rattle.kn_transcript.specs.Verdicts.{IsBehindVerdicts, AreRead}
use Rattle.kn_transcript.proofs.ConfigChoices.{config_at}
use Rattle.kn_transcript.proofs.DueReplies.{taken_by, refused_ok, told_by}
use Rattle.kn_transcript.proofs.CommittedLaws.{items_follow, batch_reply, batched_only}
use Rattle.kn_transcript.proofs.VerdictLaws.{NoneStands, RefusesOr, update_refused, update_placed, update_made}
use Rattle.kn_transcript.proofs.ItemLaws.{IsVerdictAt, unread_refusal, batch_refusals, silent_refusal, may_refuse}

abbrev batches : List ℕ → Shape
batches block = Updates (ApplyBlock block)

-- all items are asked for where each text has a reading
pub all_asked : (parts : List BatchItem) (items : List Item) → AreRead parts (record { items = items; refusal = None })
    → items ≡ map item_of parts
all_asked parts items r =
    let whole : parts ≡ r.front = r.cut ∙ ap (λ (l : List BatchItem). r.front ++ l) r.first ∙ append-nil r.front in
    r.asked ∙ ap (map item_of) (sym whole)

module _ (past : List Update) (old : State) (block left : List ℕ) (admin : old.is_admin ≡ true) where
  shown : (g : DaemonConfig) (o : Option Refusal) → refusal_of_block g (items_of block) ≡ o
      → own_refusal g old (batches block) ≡ o
  shown g o is = ap (λ (b : Bool). refuse_if (not b) R.Admin (refusal_of_block g (items_of block))) admin ∙ is

  -- the block isn't made of items
  pub batch_unread : {X E : Type 0} (result : Result X E) (view : X → Option (List ℕ)) (fault : BatchText)
      (told : Option Refusal)
      → HasFault block fault → told ≡ refusal_of_batch_text fault
      → IfOk result (λ found. (due : Refusal) × (told ≡ Some due) × IsBehind left (reply_text (No due)) (view found))
      → IfOk result (λ found. Judges past old (batches block) left past old (view found))
  batch_unread result view fault told why is behind =
      told_by result view left told (λ found. Judges past old (batches block) left past old (view found)) behind
      (λ due r some there. refused_ok past old (batches block) left view due
      (λ g. shown g (Some due) (refuses g due fault why (sym is ∙ some))) r there)
    where
      refuses : (g : DaemonConfig) (due : Refusal) (f : BatchText) → HasFault block f
          → refusal_of_batch_text f ≡ Some due
          → refusal_of_block g (items_of block) ≡ Some due
      refuses g due (T.Form item) e is = ap (λ (r : Result (List BatchItem) ℕ). refusal_of_block g r) e ∙ is
      refuses g due T.NoMemory e is = absurd (cc is)

  module _ (items : List BatchItem) (reads : items_of block ≡ Ok items) (read : ReadItems) (r : AreRead items read)
    where
      of_items : (g : DaemonConfig) (o : Option Refusal) → refusal_from g 1 items ≡ o
          → own_refusal g old (batches block) ≡ o
      of_items g o is = shown g o (ap (λ (x : Result (List BatchItem) ℕ). refusal_of_block g x) reads ∙ is)

      abbrev pub IsItemVerdict : Refusal → Type 0
      IsItemVerdict told = IsVerdictAt items (length read.items) told

      pub none_stand : (count : ℕ) → count ≡ length read.items → IsBehindVerdicts items count left None
          → NoneStands past old (batches block) left IsItemVerdict
      none_stand count same missing told rest v e =
          let within = v.within in
          missing v.place v.fault rest (omega (arith, same, within)) v.anew v.is_fault
          (e ∙ ap (λ (x : Refusal). reply_text (No x) ++ rest) v.told_is)

      -- the authenticator refuses an item
      pub batch_unadmitted : (count : ℕ) → count ≡ length read.items → (rest : List ℕ)
          → IsBehindVerdicts items count left (Some rest)
          → Judges past old (batches block) left past old (Some rest)
      batch_unadmitted count same rest (place, fault, within, anew, is_fault, cut) =
          let m = may_refuse items read r place fault (omega (arith, same, within)) anew is_fault in
          let refusal : Refusal = R.Item (place + 1) (I.Auth fault) in
          let own : own_refusal m.0 old (batches block) ≡ Some refusal =
          of_items m.0 (Some refusal) m.2 in
          taken_by past old (batches block) left past old (No refusal) rest tt
          (record {
            grounds = m.0;
            faults = m.1;
            permitted = (ap (λ (o : Option Refusal). option_or o (placed_refusal past (batches block))) own, refl);
          }) refl cut

      zero : own_refusal (config_at 0) old (batches block) ≡ unread_refusal (length read.items) read.refusal
      zero = of_items (config_at 0) (unread_refusal (length read.items) read.refusal)
          (silent_refusal items read r (config_at 0) (λ text a. refl))

      module _ (none : NoneStands past old (batches block) left IsItemVerdict) where
        may : RefusesOr past old (ApplyBlock block) left IsItemVerdict none
            (unread_refusal (length read.items) read.refusal)
        may g few = elim (batch_refusals items read r g few) [
          | inl f ↦ inl (f.0, f.1, of_items g (Some f.0) f.2)
          | inr e ↦ inr (of_items g (unread_refusal (length read.items) read.refusal) e)
        ]

        module _ {X E : Type 0} (result : Result X E) (view : X → Option (List ℕ)) where
          -- a text has no reading
          pub batch_unread_item : (inner : ItemRefusal) (number : ℕ) → read.refusal ≡ Some inner
              → number ≡ length read.items + 1
              → IfOk result (λ found. IsBehind left (reply_text (No (R.Item number inner))) (view found))
              → IfOk result (λ found. Judges past old (batches block) left past old (view found))
          batch_unread_item inner number is at behind =
              let told : unread_refusal (length read.items) read.refusal ≡ Some (R.Item number inner) =
              ap (unread_refusal (length read.items)) is ∙ ap (λ (n : ℕ). Some (R.Item n inner)) (sym at) in
              update_refused past old (ApplyBlock block) left IsItemVerdict none result view (R.Item number inner)
              (zero ∙ told)
              (subst (λ (o : Option Refusal). RefusesOr past old (ApplyBlock block) left IsItemVerdict none o)
              told
              may) behind

          module _ (all : read.refusal ≡ None) where
            silent : unread_refusal (length read.items) read.refusal ≡ None
            silent = ap (unread_refusal (length read.items)) all

            may_none : RefusesOr past old (ApplyBlock block) left IsItemVerdict none None
            may_none = subst (λ (o : Option Refusal). RefusesOr past old (ApplyBlock block) left IsItemVerdict none o)
                silent may

            placed_is : placed_refusal past (batches block) ≡ refusal_of_batch past (map item_of items)
            placed_is =
                ap (λ (x : Result (List BatchItem) ℕ). option_and_then (refusal_of_batch past) (read_items x)) reads

            placed_by : (found : Option (ℕ × StoreFault))
                → refusal_of_items (all_changes past) (map item_of items) ≡ found
                → placed_refusal past (batches block) ≡ option_and_then (λ f. refusal_of_item_fault f.0 f.1) found
            placed_by found is =
                placed_is ∙ ap (λ (o : Option (ℕ × StoreFault)). option_and_then (λ f. refusal_of_item_fault f.0 f.1) o)
                is

            module _ (asked : List Item) (same : asked ≡ map item_of items) (history : List Update) where
              -- the update was made
              pub batch_made : (first added version : ℕ) → history ≡ past ++ batch_by 0 (next_id past) asked ∷ []
                  → UpdateFollows past (batch_by 0 (next_id past) asked) → first ≡ next_id past
                  → version ≡ length history
                  → added ≡ additions (numbered_from (next_id past) asked)
                  → IfOk result (λ found. IsBehind left (reply_text (Batched first added version)) (view found))
                  → IfOk result (λ found. Judges past old (batches block) left history old (view found))
              batch_made first added version made follows number at adds behind =
                  let one : List Item → Update = λ l. batch_by 0 (next_id past) l in
                  let here : history ≡ past ++ one (map item_of items) ∷ [] = made
                  ∙ ap (λ (l : List Item). past ++ one l ∷ []) same in
                  let accepted : UpdateFollows past (one (map item_of items)) =
                  subst (λ (l : List Item). UpdateFollows past (one l)) same follows in
                  let size : version ≡ length past + 1 = at ∙ ap (λ (h : List Update). length h) here
                  ∙ length-append past (one (map item_of items) ∷ []) in
                  let count : added ≡ additions (numbered_from (next_id past) (map item_of items)) =
                  adds ∙ ap (λ (l : List Item). additions (numbered_from (next_id past) l)) same in
                  let told : Batched first added version
                  ≡ Batched (next_id past) (additions (numbered_from (next_id past) (map item_of items)))
                  (length history) =
                  rw (number, count, at) refl in
                  let due : Batched first added version ≡ batch_reply past (map item_of items) =
                  rw (number, count, size) refl in
                  let unrefused = items_follow (all_changes past) 0 (map item_of items) accepted in
                  let named : history_behind past (batches block) (Batched first added version) ≡ past
                  ++ batch_by 0 first (map item_of items) ∷ [] =
                  ap (λ (x : Result (List BatchItem) ℕ).
                  with_update past (option_map (λ (l : List Item). batch_by 0 first l) (read_items x))) reads in
                  update_made past old (ApplyBlock block) left IsItemVerdict none result view history
                  (Batched first added version)
                  tt refl (zero ∙ silent) may_none (placed_by None unrefused)
                  (here ∙ ap (λ (n : ℕ). past ++ batch_by 0 n (map item_of items) ∷ []) (sym number) ∙ sym named)
                  (answers-batch 0 history old block (Batched first added version) (record {
                    items = items;
                    read = reads;
                    batch = record {
                      first = next_id past;
                      committed = record { before = past; ends = here; accepted = accepted };
                      first_is = refl;
                      exact = told;
                    };
                  }))
                  (λ reply is. (batched_only past block items reads reply old is).0 ∙ sym due) behind

              -- the history refuses an item
              pub batch_refused : (fault : BatchFault) (told : Option Refusal) → history ≡ past
                  → RefusesBatch (refusal_of_items (all_changes past) asked) fault → told ≡ refusal_of_batch_fault fault
                  → IfOk result (λ found. (due : Refusal) × (told ≡ Some due)
                  × IsBehind left (reply_text (No due)) (view found))
                  → IfOk result (λ found. Judges past old (batches block) left history old (view found))
              batch_refused fault told kept why is behind =
                  told_by result view left told (λ found. Judges past old (batches block) left history old (view found))
                  behind
                  (λ due x some there. at due x fault why (sym is ∙ some) there)
                where
                  at : (due : Refusal) (x : Result X E) (f : BatchFault)
                      → RefusesBatch (refusal_of_items (all_changes past) asked) f
                      → refusal_of_batch_fault f ≡ Some due
                      → IfOk x (λ found. IsBehind left (reply_text (No due)) (view found))
                      → IfOk x (λ found. Judges past old (batches block) left history old (view found))
                  at due x B.NoMemory why is there = absurd (cc is)
                  at due x (B.Item number f) why is there =
                      let found : refusal_of_items (all_changes past) (map item_of items) ≡ Some (number, f) =
                      ap (refusal_of_items (all_changes past)) (sym same) ∙ why in
                      subst (λ (h : List Update).
                      IfOk x (λ found. Judges past old (batches block) left h old (view found))) (sym kept)
                      (update_placed past old (ApplyBlock block) left IsItemVerdict none x view due (zero
                      ∙ silent) may_none
                      (placed_by (Some (number, f)) found ∙ is)
                      (λ reply done. absurd (let no = (batched_only past block items reads reply old done).1 in
                      cc (found, no))) there)

-- what a search for a refusal of an item found
pub none_behind_all : {X : Type 0} (view : X → List ℕ) (items : List BatchItem) (count : ℕ) (left : List ℕ)
    (found : Option X)
    → found ≡ None → IsBehindVerdicts items count left (option_map view found) → IsBehindVerdicts items count left None
none_behind_all view items count left None is none = none
none_behind_all view items count left (Some other) is behind = absurd (cc is)

pub some_behind_all : {X : Type 0} (view : X → List ℕ) (items : List BatchItem) (count : ℕ) (left : List ℕ)
    (found : Option X)
    (rest : X) → found ≡ Some rest → IsBehindVerdicts items count left (option_map view found)
    → IsBehindVerdicts items count left (Some (view rest))
some_behind_all view items count left None rest is behind = absurd (cc is)
some_behind_all {X} view items count left (Some other) rest is behind =
    let same : other ≡ rest = cc in subst (λ (x : X). IsBehindVerdicts items count left (Some (view x))) same behind
