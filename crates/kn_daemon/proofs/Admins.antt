-- Who is an administrator, and what is added.
use Rattle.std.proofs.Common.{◌≡◌, ◌≢◌, ℕ, ◌+◌, Bool, true, false, cond, ◌&&◌, not, ◌==◌, List, [], ◌∷◌, length}
use Rattle.std.proofs.Common.{Option, Some, None, refl, sym, ap, ◌∙◌, eqb-true}
use Rattle.std.specs.Prelude.{nat_lt, option_map}
use Rattle.std.specs.Option.{option_or}
use Rattle.std.specs.List.{AllByRecursion}
use Rattle.std.specs.Str.{bytes_eq}
use Rattle.std.proofs.lemmas.Slice.Eq.{bytes_eq-Decides}
use Rattle.std.proofs.lemmas.List.Elements.{All-from_recursion}
use Rattle.kn_env.specs.Values.{values_of}
use Rattle.kn_trees.specs.declared.assertion.Assertion.{Assertion}
use Rattle.kn_assert.specs.Reading.{reading_of}
use Rattle.kn_history.specs.declared.update.Update.{Update}
use Rattle.kn_history.specs.Retained.{retained_version}
use Rattle.kn_wire.specs.Items.{BatchItem, items_of}
use Rattle.kn_reply.specs.declared.refusal.Refusal.{Refusal}
use Rattle.kn_reply.specs.declared.refusal.Refusal.TheVariants as R
use Rattle.kn_reply.specs.declared.refusal.ItemRefusal.{ItemRefusal}
use Rattle.kn_reply.specs.Replies.{Reply, No, NoMemory}
use Rattle.kn_daemon.specs.Shapes.{AddText, DropId, ApplyBlock, Look, ForOpen, ForPin, ForPinAt, ForNews, ForLog}
use Rattle.kn_daemon.specs.Shapes.{Question, WithProof, WithCritical, ToKeep, ShowSecret, Leave, Shape, Calls, Updates}
use Rattle.kn_daemon.specs.Shapes.{Looks, Asks, Controls, AtFault}
use Rattle.kn_daemon.specs.Daemon.{DaemonConfig, State, refuse_if, is_secret, refusal_at_reading, refusal_at_verdict}
use Rattle.kn_daemon.specs.Daemon.{item_refusal, refusal_from, refusal_of_block}
use Rattle.kn_daemon.specs.Daemon.{pinned_to, state_keeping, state_after, Does}
use Rattle.kn_daemon.specs.PermissionLaws.{OthersAreRefused, SecretMakesAdmin, AdminStays, AddedIsAdmitted}
use Rattle.kn_daemon.specs.PermissionLaws.{BatchIsAdmitted}
use Rattle.kn_daemon.proofs.Reading.{by_assertion}

both : true ≡ false → ⊥
both e = cc e

pub others-refused : OthersAreRefused
others-refused g state (AddText text) n none = (
  ap (λ b. refuse_if (not b) R.Admin
      (refusal_at_reading R.Read (reading_of text) (λ a. refusal_at_verdict R.Auth (g.verdict text a)))) none,
  ap (λ b. refuse_if (not b) R.Admin None) none,
)
others-refused g state (DropId k) n none =
    (ap (λ b. refuse_if (not b) R.Admin None) none, ap (λ b. refuse_if (not b) R.Admin None) none)
others-refused g state (ApplyBlock block) n none = (
  ap (λ b. refuse_if (not b) R.Admin (refusal_of_block g (items_of block))) none,
  ap (λ b. refuse_if (not b) R.Admin None) none,
)

-- What leaves an administrator as it was.

looked-admin : (past : List Update) (state : State) (look : Look)
    → (state_after past state (Looks look)).is_admin ≡ state.is_admin
looked-admin past state ForOpen = refl
looked-admin past state (ForPin s) = refl
looked-admin past state (ForPinAt s version) = by (retained_version past version)
  where
    by : (o : Option (List Update)) → (pinned_to state s o).is_admin ≡ state.is_admin
    by None = refl
    by (Some there) = refl
looked-admin past state (ForNews s) = refl
looked-admin past state (ForLog n) = refl

questioned-admin : (past : List Update) (state : State) (question : Question) (s : ℕ) (names : List ℕ)
    → (state_after past state (Asks question s names)).is_admin ≡ state.is_admin
questioned-admin past state WithProof s names = refl
questioned-admin past state WithCritical s names = refl
questioned-admin past state ToKeep s names = by (values_of names)
  where
    by : (o : Option (List (List ℕ))) → (state_keeping state s o).is_admin ≡ state.is_admin
    by None = refl
    by (Some values) = refl

-- ADMIN that isn't refused shows the secret
shown : (secret bytes : List ℕ) → refuse_if (not (is_secret secret bytes)) R.Admin None ≡ None
    → (Controls (ShowSecret bytes) ≡ Controls (ShowSecret secret)) × (secret ≢ [])
shown secret bytes = by (nat_lt 0 (length secret)) refl (bytes_eq secret bytes) refl
  where
    by : (a : Bool) → nat_lt 0 (length secret) ≡ a → (b : Bool) → bytes_eq secret bytes ≡ b
        → refuse_if (not (a && b)) R.Admin None ≡ None
        → (Controls (ShowSecret bytes) ≡ Controls (ShowSecret secret)) × (secret ≢ [])
    by true some true same e = (
      ap (λ t. Controls (ShowSecret t)) (sym ((bytes_eq-Decides secret bytes).0 same)),
      λ none. both (sym some ∙ ap (λ (l : List ℕ). nat_lt 0 (length l)) none),
    )
    by true some false same e = absurd (cc e)
    by false some b same e = absurd (cc e)

module _ (g : DaemonConfig) (caller : ℕ) (past : List Update) (old : State) where
  shows : (shape : Shape) (reply : Reply) (new : State) → Does g caller past old shape reply new
      → old.is_admin ≡ false → new.is_admin ≡ true → (shape ≡ Controls (ShowSecret g.secret)) × (g.secret ≢ [])
  shows (Calls s call) reply new d before after =
      absurd (both (sym after ∙ ap (λ x. x.is_admin) d.next ∙ before))
  shows (Updates update) reply new d before after =
      absurd (both (sym after ∙ ap (λ x. x.is_admin) d.next ∙ before))
  shows (Looks look) reply new d before after =
      absurd (both (sym after ∙ ap (λ x. x.is_admin) d.next ∙ looked-admin past old look ∙ before))
  shows (Asks question s names) reply new d before after =
      absurd (both (sym after ∙ ap (λ x. x.is_admin) d.next ∙ questioned-admin past old question s names ∙ before))
  shows (Controls (ShowSecret bytes)) reply new d before after = shown g.secret bytes d.accepted
  shows (Controls Leave) reply new d before after =
      absurd (both (sym after ∙ ap (λ x. x.is_admin) d.next ∙ before))
  shows (AtFault fault) reply new d before after = absurd d.answered

  stays : (shape : Shape) (reply : Reply) (new : State) → Does g caller past old shape reply new
      → old.is_admin ≡ true → new.is_admin ≡ true
  stays (Calls s call) reply new d before = ap (λ x. x.is_admin) d.next ∙ before
  stays (Updates update) reply new d before = ap (λ x. x.is_admin) d.next ∙ before
  stays (Looks look) reply new d before = ap (λ x. x.is_admin) d.next ∙ looked-admin past old look ∙ before
  stays (Asks question s names) reply new d before =
      ap (λ x. x.is_admin) d.next ∙ questioned-admin past old question s names ∙ before
  stays (Controls (ShowSecret bytes)) reply new d before = ap (λ x. x.is_admin) d.next
  stays (Controls Leave) reply new d before = ap (λ x. x.is_admin) d.next ∙ before
  stays (AtFault fault) reply new d before = ap (λ x. x.is_admin) d.next ∙ before

pub secret-makes_admin : SecretMakesAdmin
secret-makes_admin g caller past old shape (No refusal) new p before after =
    absurd (both (sym after ∙ ap (λ x. x.is_admin) p.1 ∙ before))
secret-makes_admin g caller past old shape NoMemory new p before after =
    absurd (both (sym after ∙ ap (λ x. x.is_admin) p.1 ∙ before))
secret-makes_admin g caller past old shape reply new p before after =
    shows g caller past old shape reply new p before after

pub admin-stays : AdminStays
admin-stays g caller past old shape (No refusal) new p before = ap (λ x. x.is_admin) p.1 ∙ before
admin-stays g caller past old shape NoMemory new p before = ap (λ x. x.is_admin) p.1 ∙ before
admin-stays g caller past old shape reply new p before = stays g caller past old shape reply new p before

-- What is added is admitted.

no-fault : (n : ℕ) → refusal_at_verdict R.Auth n ≡ None → n ≡ 0
no-fault n = by (n == 0) refl
  where
    by : (b : Bool) → (n == 0) ≡ b → cond (not b) (Some (R.Auth n)) None ≡ None → n ≡ 0
    by true is e = eqb-true n 0 is
    by false is e = absurd (cc e)

-- what an administrator isn't refused, the update isn't
behind-admin : (b : Bool) (next : Option Refusal) → refuse_if b R.Admin next ≡ None → next ≡ None
behind-admin true next e = absurd (cc e)
behind-admin false next e = e

pub added-admitted : AddedIsAdmitted
added-admitted g caller past old text k version new assertion p reads =
    let admits : Assertion → Option Refusal = λ a. refusal_at_verdict R.Auth (g.verdict text a) in
    let none : refusal_at_reading R.Read (reading_of text) admits ≡ None =
    behind-admin (not old.is_admin) (refusal_at_reading R.Read (reading_of text) admits) p.accepted in
    no-fault (g.verdict text assertion)
    (sym (ap (λ r. refusal_at_reading R.Read r admits) (by_assertion (reading_of text) assertion reads)) ∙ none)

each-admitted : (g : DaemonConfig) (n : ℕ) (items : List BatchItem) → refusal_from g n items ≡ None
    → AllByRecursion (λ item. item_refusal g item ≡ None) items
each-admitted g n [] e = tt
each-admitted g n (item ∷ items) e = by (item_refusal g item) refl (each-admitted g (n + 1) items) e
  where
    by : (o : Option ItemRefusal) → item_refusal g item ≡ o
        → (refusal_from g (n + 1) items ≡ None → AllByRecursion (λ one. item_refusal g one ≡ None) items)
        → option_or (option_map (R.Item n) o) (refusal_from g (n + 1) items) ≡ None
        → (item_refusal g item ≡ None) × AllByRecursion (λ one. item_refusal g one ≡ None) items
    by None is rest e = (is, rest e)
    by (Some inner) is rest e = absurd (cc e)

pub batch-admitted : BatchIsAdmitted
batch-admitted g caller past old block first added version new items p read =
    let none : refusal_of_block g (items_of block) ≡ None =
    behind-admin (not old.is_admin) (refusal_of_block g (items_of block)) p.accepted in
    All-from_recursion (λ item. item_refusal g item ≡ None) items
    (each-admitted g 1 items (sym (ap (refusal_of_block g) read) ∙ none))
