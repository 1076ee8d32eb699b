-- What is permitted on some grounds, and what is on all.
use Rattle.std.proofs.Common.{◌≡◌, ◌≢◌, ◌⊎◌, ℕ, ◌≤◌, Bool, true, false, List, [], Option, Some, None, refl, sym, ap}
use Rattle.std.proofs.Common.{◌∙◌, arith, inl, inr}
use Rattle.std.specs.Option.{option_or}
use Rattle.kn_history.specs.declared.update.Update.{Update}
use Rattle.kn_reply.specs.declared.refusal.Refusal.{Refusal}
use Rattle.kn_reply.specs.Replies.{Reply, Done, Started, Number, PrivateAdded, Added, Value, Batched, PinnedAt, Log}
use Rattle.kn_reply.specs.Replies.{News, Critical, No, NoMemory}
use Rattle.kn_daemon.specs.Shapes.{Shape}
use Rattle.kn_daemon.specs.Daemon.{DaemonConfig, State, Permits, Does, Answers, own_refusal, placed_refusal}
use Rattle.kn_daemon.specs.Daemon.{first_refusal}
use Rattle.kn_daemon.specs.Daemon.{state_after}
use Rattle.kn_transcript.specs.declared.fault.TheConstants.{AUTH_FAULTS}
use Rattle.kn_daemon.proofs.Updates.{refused-none, lacking-none}
use Rattle.kn_transcript.specs.Followed.{IsPermitted, with_update, history_behind}

-- a refusal adds no update, and neither does a reply when out of memory
pub refused-behind : (past : List Update) (shape : Shape) (refusal : Refusal)
    → history_behind past shape (No refusal) ≡ past
refused-behind past shape refusal = ap (with_update past) (refused-none 0 shape refusal)

pub lacking-behind : (past : List Update) (shape : Shape) → history_behind past shape NoMemory ≡ past
lacking-behind past shape = ap (with_update past) (lacking-none 0 shape)

-- no secret is right, and this is the verdict on each text
abbrev pub config_at : ℕ → DaemonConfig
config_at verdict = record { secret = []; verdict = λ text a. verdict }

-- the daemon refuses the request so
pub record IsRefusal (g : DaemonConfig) (past : List Update) (old : State) (shape : Shape) (reply : Reply)
    (new : State) : Type 0 where
  pub refusal : Refusal
  pub exact : reply ≡ No refusal
  pub first : first_refusal g past old shape ≡ Some refusal
  pub same : new ≡ old

-- whether a reply says that the request was accepted
abbrev pub is_acceptance : Reply → Bool
is_acceptance (No refusal) = false
is_acceptance NoMemory = false
is_acceptance reply = true

-- a request is refused, accepted, or runs out of memory
pub permits_cases : (g : DaemonConfig) (caller : ℕ) (past : List Update) (old : State) (shape : Shape) (reply : Reply)
    (new : State)
    → reply ≢ NoMemory → Permits g caller past old shape reply new
    → IsRefusal g past old shape reply new ⊎ Does g caller past old shape reply new
permits_cases g caller past old shape Done new some p = inr p
permits_cases g caller past old shape (Started s version) new some p = inr p
permits_cases g caller past old shape (Number version) new some p = inr p
permits_cases g caller past old shape (PrivateAdded k) new some p = inr p
permits_cases g caller past old shape (Added k version) new some p = inr p
permits_cases g caller past old shape (Value index name version rows) new some p = inr p
permits_cases g caller past old shape (Batched first added version) new some p = inr p
permits_cases g caller past old shape (PinnedAt version newest) new some p = inr p
permits_cases g caller past old shape (Log n history) new some p = inr p
permits_cases g caller past old shape (News index name version) new some p = inr p
permits_cases g caller past old shape (Critical index ids) new some p = inr p
permits_cases g caller past old shape (No refusal) new some p =
    inl (record { refusal = refusal; exact = refl; first = p.0; same = p.1 })
permits_cases g caller past old shape NoMemory new some p = absurd (some refl)

-- what a daemon does it may reply
pub does_permitted : (g : DaemonConfig) (caller : ℕ) (past : List Update) (old : State) (shape : Shape) (reply : Reply)
    (new : State)
    → is_acceptance reply ≡ true → Does g caller past old shape reply new → Permits g caller past old shape reply new
does_permitted g caller past old shape Done new is d = d
does_permitted g caller past old shape (Started s version) new is d = d
does_permitted g caller past old shape (Number version) new is d = d
does_permitted g caller past old shape (PrivateAdded k) new is d = d
does_permitted g caller past old shape (Added k version) new is d = d
does_permitted g caller past old shape (Value index name version rows) new is d = d
does_permitted g caller past old shape (Batched first added version) new is d = d
does_permitted g caller past old shape (PinnedAt version newest) new is d = d
does_permitted g caller past old shape (Log n history) new is d = d
does_permitted g caller past old shape (News index name version) new is d = d
does_permitted g caller past old shape (Critical index ids) new is d = d
does_permitted g caller past old shape (No refusal) new is d = absurd (cc is)
does_permitted g caller past old shape NoMemory new is d = absurd (cc is)

-- on these grounds no other reply than this is permitted, unless it is `NoMemory`
abbrev pub OnlyAt : DaemonConfig → List Update → State → Shape → Reply → Type 0
OnlyAt g past old shape due = (reply : Reply) (other : State) → reply ≢ NoMemory
    → Permits g 0 (history_behind past shape reply) old shape reply other → reply ≡ due

-- on none it is
abbrev pub OnlyReply : List Update → State → Shape → Reply → Type 0
OnlyReply past old shape due = (g : DaemonConfig) → OnlyAt g past old shape due

-- what a daemon does in reply
abbrev pub DoesReply : DaemonConfig → List Update → State → Shape → Reply → State → Type 0
DoesReply g past old shape reply other = Does g 0 (history_behind past shape reply) old shape reply other

module _ (past : List Update) (old : State) (shape : Shape) where
  -- the state refuses the request
  pub own_only : (refusal : Refusal) (g : DaemonConfig) → own_refusal g old shape ≡ Some refusal
      → OnlyAt g past old shape (No refusal)
  own_only refusal g own reply other some p =
      elim (permits_cases g 0 (history_behind past shape reply) old shape reply other some p) [
        | inr does ↦ absurd (let none = does.accepted in cc (own, none))
        | inl r ↦
            let first : Some refusal ≡ Some r.refusal =
            sym (ap (λ (o : Option Refusal). option_or o (placed_refusal (history_behind past shape reply) shape)) own)
            ∙ r.first in
            let same : refusal ≡ r.refusal = cc in
            r.exact ∙ ap (λ (x : Refusal). No x) (sym same)
      ]

  pub own_permitted : (refusal : Refusal) (verdict : ℕ) → verdict ≤ AUTH_FAULTS
      → own_refusal (config_at verdict) old shape ≡ Some refusal → IsPermitted past old shape (No refusal) old
  own_permitted refusal verdict few own = record {
    grounds = config_at verdict;
    faults = λ text assertion. few;
    permitted = (
      ap (λ (o : Option Refusal). option_or o (placed_refusal (history_behind past shape (No refusal)) shape)) own,
      refl,
    );
  }

  -- the history refuses it
  pub placed_only : (refusal : Refusal) (g : DaemonConfig) → own_refusal g old shape ≡ None
      → placed_refusal past shape ≡ Some refusal
      → ((reply : Reply) (other : State) → DoesReply g past old shape reply other → ⊥)
      → OnlyAt g past old shape (No refusal)
  placed_only refusal g own placed never reply other some p =
      elim (permits_cases g 0 (history_behind past shape reply) old shape reply other some p) [
        | inr does ↦ absurd (never reply other does)
        | inl r ↦
            let here : history_behind past shape reply ≡ past =
            ap (λ (x : Reply). history_behind past shape x) r.exact ∙ refused-behind past shape r.refusal in
            let first : Some refusal ≡ Some r.refusal =
            sym (ap (λ (o : Option Refusal). option_or o (placed_refusal past shape)) own ∙ placed)
            ∙ ap (λ (x : List Update). first_refusal g x old shape) (sym here) ∙ r.first in
            let same : refusal ≡ r.refusal = cc in
            r.exact ∙ ap (λ (x : Refusal). No x) (sym same)
      ]

  pub placed_permitted : (refusal : Refusal) → own_refusal (config_at 0) old shape ≡ None
      → placed_refusal past shape ≡ Some refusal → IsPermitted past old shape (No refusal) old
  placed_permitted refusal own placed = record {
    grounds = config_at 0;
    faults = λ text assertion. omega arith;
    permitted = (
      ap (λ (o : Option Refusal). option_or o (placed_refusal (history_behind past shape (No refusal)) shape)) own
          ∙ ap (λ (x : List Update). placed_refusal x shape) (refused-behind past shape refusal) ∙ placed,
      refl,
    );
  }

  -- nothing refuses it, and this is what it answers
  pub done_only : (due : Reply) (g : DaemonConfig) → own_refusal g old shape ≡ None → placed_refusal past shape ≡ None
      → ((reply : Reply) (other : State) → DoesReply g past old shape reply other → reply ≡ due)
      → OnlyAt g past old shape due
  done_only due g own placed answers reply other some p =
      elim (permits_cases g 0 (history_behind past shape reply) old shape reply other some p) [
        | inr does ↦ answers reply other does
        | inl r ↦
            let here : history_behind past shape reply ≡ past =
            ap (λ (x : Reply). history_behind past shape x) r.exact ∙ refused-behind past shape r.refusal in
            let first : None ≡ Some r.refusal =
            sym (ap (λ (o : Option Refusal). option_or o (placed_refusal past shape)) own ∙ placed)
            ∙ ap (λ (x : List Update). first_refusal g x old shape) (sym here) ∙ r.first in
            absurd (cc first)
      ]

  pub done_permitted : (due : Reply) (new : State) → is_acceptance due ≡ true
      → own_refusal (config_at 0) old shape ≡ None
      → Answers 0 (history_behind past shape due) old shape due
      → new ≡ state_after (history_behind past shape due) old shape → IsPermitted past old shape due new
  done_permitted due new is own answered next = record {
    grounds = config_at 0;
    faults = λ text assertion. omega arith;
    permitted = does_permitted (config_at 0) 0 (history_behind past shape due) old shape due new is
        (record { accepted = own; answered = answered; next = next });
  }
