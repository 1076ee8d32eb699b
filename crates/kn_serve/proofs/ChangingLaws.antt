-- Adding a shared credential, and removing one.
use Rattle.std.proofs.Common.{◌≡◌, ℕ, Bool, true, false, List, [], ◌∷◌, length, refl, sym, ap, ◌∙◌}
use Rattle.std.proofs.Common.{Option, Some, None, subst, inl, inr}
use Rattle.std.specs.Prelude.{Result, Ok, Err, ◌==◌, not, option_map, option_and_then, if◌then◌else◌}
use Rattle.kn_assert.specs.Reading.{reading_of}
use Rattle.kn_fields.specs.Numbers.{fault_number, fault_place}
use Rattle.kn_fields.specs.declared.fault.ReadFault.{ReadFault}
use Rattle.kn_trees.specs.declared.assertion.Assertion.{Assertion}
use Rattle.kn_outside.specs.Seen.{LinkSeen}
use Rattle.kn_outside.specs.Printing.{Prints}
use Rattle.kn_history.specs.declared.fault.StoreFault.{StoreFault}
use Rattle.kn_history.specs.declared.fault.StoreFault.TheVariants as S
use Rattle.kn_history.specs.History.{all_changes, refusal_of_text, refusal_of_id, addition_by, removal_by}
use Rattle.kn_wire.specs.Items.{AddText as ItemText}
use Rattle.kn_reply.specs.declared.refusal.Refusal.{Refusal}
use Rattle.kn_reply.specs.declared.refusal.Refusal.TheVariants as R
use Rattle.kn_reply.specs.declared.refusal.ItemRefusal.{ItemRefusal}
use Rattle.kn_reply.specs.declared.refusal.ItemRefusal.TheVariants as I
use Rattle.kn_reply.specs.declared.refusal.LimitWord.TheVariants as W
use Rattle.kn_reply.specs.Replies.{Number, Added, No, reply_text}
use Rattle.kn_daemon.specs.Shapes.{Updating, Updates, AddText, DropId}
use Rattle.kn_daemon.specs.Daemon.{DaemonConfig, State, own_refusal, placed_refusal, refusal_of_store}
use Rattle.kn_daemon.specs.Daemon.{refusal_at_reading, refusal_at_verdict, item_refusal}
use Rattle.kn_daemon.proofs.Admins.{others-refused}
use Rattle.kn_registry.specs.Passes.{PassSeen, Adds, Removes, IsRefused, Refuses, RefusesText, RefusesId}
use Rattle.kn_serve.specs.Admission.{Admits, RefusesItem}
use Rattle.kn_refusals.specs.Refusals.{request_refusal}
use Rattle.kn_serve.specs.Handling.{in_state, Handles, Tells, refused_reply}
use Rattle.kn_serve.proofs.HandlingLaws.{handled_by, lacking_handled, refused_handled, unrefused}
use Rattle.kn_serve.proofs.HandlingLaws.{told_refused, told_memory}

module _ (g : DaemonConfig) (whole : Bool) (v w : PassSeen) (l l' : LinkSeen) (now : State) where
  -- the update is answered, and the state stays as it is
  abbrev Keeps : Updating → Type 0
  Keeps change = Handles g (Updates change) whole (in_state now v l) (in_state now w l')

  -- the text was added
  pub added_handled : (text : List ℕ) (id version : ℕ) → Adds v w text id version →
      own_refusal g now (Updates (AddText text)) ≡ None →
      Prints whole (reply_text (Added id version)) l l' → Keeps (AddText text)
  added_handled text id version a own prints =
      handled_by g (Updates (AddText text)) whole (in_state now v l) (in_state now w l') (Added id version)
      a.more (addition_by v.number text id ∷ []) (length w.seen ∷ []) a.moves refl
      (record {
        accepted = own;
        answered =
            (id, record { before = a.before; ends = a.ends; accepted = a.follows }, ap (λ (n : ℕ). Added id n) a.at);
        next = refl;
      }) refl (unrefused (own_refusal g now (Updates (AddText text))) own) prints

  -- the id was removed
  pub removed_handled : (id version : ℕ) → Removes v w id version → own_refusal g now (Updates (DropId id)) ≡ None →
      Prints whole (reply_text (Number version)) l l' → Keeps (DropId id)
  removed_handled id version a own prints =
      handled_by g (Updates (DropId id)) whole (in_state now v l) (in_state now w l') (Number version)
      a.more (removal_by v.number id ∷ []) (length w.seen ∷ []) a.moves refl
      (record {
        accepted = own;
        answered = (record { before = a.before; ends = a.ends; accepted = a.follows }, ap (λ (n : ℕ). Number n) a.at);
        next = refl;
      }) refl (unrefused (own_refusal g now (Updates (DropId id))) own) prints

  -- the store refused what was asked of it, or memory ran out
  store_refused : (change : Updating) (asked : Option StoreFault) (fault : StoreFault) (refusal : Option Refusal) →
      placed_refusal w.seen (Updates change) ≡ option_and_then refusal_of_store asked →
      Refuses (λ f. IsRefused asked f v w) v w fault → own_refusal g now (Updates change) ≡ None →
      refusal ≡ refusal_of_store fault → Prints whole (reply_text (refused_reply refusal)) l l' → Keeps change
  store_refused change asked fault refusal placed refuses own told prints =
      by fault refuses (subst (λ (o : Option Refusal). Prints whole (reply_text (refused_reply o)) l l') told prints)
    where
      at : (f : StoreFault) (r : Refusal) → refusal_of_store f ≡ Some r → IsRefused asked f v w →
          Prints whole (reply_text (No r)) l l' → Keeps change
      at f r is why p =
          refused_handled g (Updates change) whole (in_state now v l) (in_state now w l') r refl why.looks own
          (placed ∙ ap (λ (o : Option StoreFault). option_and_then refusal_of_store o) why.refusal_is ∙ is) p

      by : (f : StoreFault) → Refuses (λ f. IsRefused asked f v w) v w f →
          Prints whole (reply_text (refused_reply (refusal_of_store f))) l l' → Keeps change
      by S.NoMemory stays p =
          lacking_handled g (Updates change) whole (in_state now v l) (in_state now w l') refl stays own refl p
      by (S.Unknown other) r p = at (S.Unknown other) R.Unknown refl r p
      by (S.LiveFull count) r p = at (S.LiveFull count) (R.Limit W.Live count) refl r p
      by (S.BytesFull bytes) r p = at (S.BytesFull bytes) (R.Limit W.LiveBytes bytes) refl r p
      by (S.HistoryFull updates) r p = at (S.HistoryFull updates) (R.Limit W.Updates updates) refl r p
      by (S.LogFull bytes) r p = at (S.LogFull bytes) (R.Limit W.LogBytes bytes) refl r p

  -- the text wasn't added
  pub unadded_handled : (text : List ℕ) (fault : StoreFault) (refusal : Option Refusal) →
      RefusesText v w text fault → own_refusal g now (Updates (AddText text)) ≡ None →
      refusal ≡ refusal_of_store fault → Prints whole (reply_text (refused_reply refusal)) l l' → Keeps (AddText text)
  unadded_handled text fault refusal refuses own told prints =
      store_refused (AddText text) (refusal_of_text (all_changes w.seen) text) fault refusal refl refuses own told
      prints

  -- the id wasn't removed
  pub unremoved_handled : (id : ℕ) (fault : StoreFault) (refusal : Option Refusal) → RefusesId v w id fault →
      own_refusal g now (Updates (DropId id)) ≡ None → refusal ≡ refusal_of_store fault →
      Prints whole (reply_text (refused_reply refusal)) l l' → Keeps (DropId id)
  unremoved_handled id fault refusal refuses own told prints =
      store_refused (DropId id) (refusal_of_id (all_changes w.seen) id) fault refusal refl refuses own told prints

-- the secret wasn't shown
pub update_unshown : (g : DaemonConfig) (whole : Bool) (l l' : LinkSeen) (now : State) (change : Updating) →
    now.is_admin ≡ false → Prints whole (reply_text (No R.Admin)) l l' → Tells g (Updates change) whole now now l l'
update_unshown g whole l l' now change out prints =
    told_refused g (Updates change) whole now l l' R.Admin (others-refused g now change 0 out).0 prints

pub drop_shown : (g : DaemonConfig) (now : State) (id : ℕ) → now.is_admin ≡ true →
    own_refusal g now (Updates (DropId id)) ≡ None
drop_shown g now id admin = rw admin refl

-- what refuses a text to an administrator
abbrev text_refusal : DaemonConfig → List ℕ → Option Refusal
text_refusal g text = refusal_at_reading R.Read (reading_of text) (λ a. refusal_at_verdict R.Auth (g.verdict text a))

-- it is what refuses the item that adds it
refusal_of_addition : (g : DaemonConfig) (text : List ℕ) →
    text_refusal g text ≡ option_map request_refusal (item_refusal g (ItemText text))
refusal_of_addition g text = by (reading_of text)
  where
    at_verdict : (number : ℕ) (b : Bool) →
        (if not b then Some (R.Auth number) else None)
        ≡ option_map request_refusal (if not b then Some (I.Auth number) else None)
    at_verdict number true = refl
    at_verdict number false = refl

    at_fault : (number : Option ℕ) (place : ℕ) →
        option_map (λ n. R.Read n place) number
        ≡ option_map request_refusal (option_map (λ n. I.Read n place) number)
    at_fault None place = refl
    at_fault (Some n) place = refl

    by : (r : Result Assertion ReadFault) →
        refusal_at_reading R.Read r (λ a. refusal_at_verdict R.Auth (g.verdict text a))
        ≡ option_map request_refusal (refusal_at_reading I.Read r (λ a. refusal_at_verdict I.Auth (g.verdict text a)))
    by (Ok a) = at_verdict (g.verdict text a) (g.verdict text a == 0)
    by (Err fault) = at_fault (fault_number fault) (fault_place fault)

module _ (g : DaemonConfig) (whole : Bool) (l l' : LinkSeen) (now : State) (text : List ℕ)
    (verdict : List ℕ → Assertion → ℕ) (grounds : g.verdict ≡ verdict) (admin : now.is_admin ≡ true) where
  -- the text isn't admitted
  pub add_unadmitted : (refusal : Option ItemRefusal) (told : Option Refusal) →
      RefusesItem verdict (ItemText text) refusal → told ≡ option_map request_refusal refusal →
      Prints whole (reply_text (refused_reply told)) l l' → Tells g (Updates (AddText text)) whole now now l l'
  add_unadmitted refusal told refused is prints =
      by refusal refused (subst (λ (o : Option Refusal). Prints whole (reply_text (refused_reply o)) l l') is prints)
    where
      by : (o : Option ItemRefusal) → RefusesItem verdict (ItemText text) o →
          Prints whole (reply_text (refused_reply (option_map request_refusal o))) l l' →
          Tells g (Updates (AddText text)) whole now now l l'
      by None refused p = told_memory g (Updates (AddText text)) whole now l l' refl p
      by (Some inner) (inl none) p = absurd (cc none)
      by (Some inner) (inr refused) p =
          let own : text_refusal g text ≡ Some (request_refusal inner) =
          refusal_of_addition g text ∙ ap (option_map request_refusal) (refused g grounds) in
          told_refused g (Updates (AddText text)) whole now l l' (request_refusal inner) (rw admin own) p

  -- what was admitted is the text that was asked for
  pub added_as : (v w : PassSeen) (ready : List ℕ) → Admits verdict (ItemText text) → ready ≡ text →
      (own_refusal g now (Updates (AddText ready)) ≡ None →
      Handles g (Updates (AddText ready)) whole (in_state now v l) (in_state now w l')) →
      Handles g (Updates (AddText text)) whole (in_state now v l) (in_state now w l')
  added_as v w ready admitted same handled =
      let none : text_refusal g text ≡ None =
      refusal_of_addition g text ∙ ap (option_map request_refusal) (admitted g grounds) in
      let own : own_refusal g now (Updates (AddText text)) ≡ None = rw admin none in
      let handled_at : List ℕ → Type 0 =
      λ x. Handles g (Updates (AddText x)) whole (in_state now v l) (in_state now w l') in
      subst handled_at same
      (handled (subst (λ (x : List ℕ). own_refusal g now (Updates (AddText x)) ≡ None) (sym same) own))
