-- What is replied without a look at the history, and what is replied without more memory.
use Rattle.std.proofs.Common.{◌≡◌, ℕ, true, false, List, Option, Some, None, sym, ap, ◌∙◌}
use Rattle.std.specs.Option.{option_or}
use Rattle.kn_history.specs.declared.update.Update.{Update}
use Rattle.kn_reply.specs.declared.refusal.Refusal.{Refusal}
use Rattle.kn_reply.specs.Replies.{Reply, No, NoMemory}
use Rattle.kn_daemon.specs.Shapes.{Updating, AddText, DropId, ApplyBlock, Look, ForOpen, ForPin, ForPinAt}
use Rattle.kn_daemon.specs.Shapes.{ForNews, ForLog, Question, WithProof, WithCritical, ToKeep, ShowSecret, Leave}
use Rattle.kn_daemon.specs.Shapes.{Shape, Calls, Updates, Looks, Asks, Controls, AtFault}
use Rattle.kn_daemon.specs.Daemon.{DaemonConfig, State, own_refusal, placed_refusal, first_refusal, Answers}
use Rattle.kn_daemon.specs.Daemon.{Does, Permits}
use Rattle.kn_daemon.specs.Linearized.{is_placed}
use Rattle.kn_daemon.specs.Laws.{FewerTakesNoMemory}
use Rattle.kn_daemon.proofs.Refusals.{history-placed}
use Rattle.kn_daemon.proofs.Answered.{news-answered, batch-answered}

both : true ≡ false → ⊥
both e = cc e

-- an accepted update's reply depends on its place
updated-placed : (caller : ℕ) (past : List Update) (old : State) (update : Updating) (reply : Reply)
    → Answers caller past old (Updates update) reply → is_placed (Updates update) reply ≡ true
updated-placed caller past old (AddText text) reply a = ap (is_placed (Updates (AddText text))) a.2
updated-placed caller past old (DropId k) reply a = ap (is_placed (Updates (DropId k))) a.1
updated-placed caller past old (ApplyBlock block) reply a =
    ap (is_placed (Updates (ApplyBlock block))) (batch-answered caller past old block reply a).batch.exact

-- and so does that of an accepted look
looked-placed : (caller : ℕ) (past : List Update) (old : State) (look : Look) (reply : Reply)
    → Answers caller past old (Looks look) reply → is_placed (Looks look) reply ≡ true
looked-placed caller past old ForOpen reply a = ap (is_placed (Looks ForOpen)) a
looked-placed caller past old (ForPin s) reply a = ap (is_placed (Looks (ForPin s))) a
looked-placed caller past old (ForPinAt s version) reply a = ap (is_placed (Looks (ForPinAt s version))) a.1
looked-placed caller past old (ForNews s) reply a =
    ap (is_placed (Looks (ForNews s))) (news-answered caller past old s reply a).news.exact
looked-placed caller past old (ForLog n) reply a = ap (is_placed (Looks (ForLog n))) a.1

module _ (g : DaemonConfig) (caller : ℕ) (past other : List Update) (old : State) where
  asked-free : (question : Question) (s : ℕ) (names : List ℕ) (reply : Reply) (new : State)
      → Does g caller past old (Asks question s names) reply new
      → Does g caller other old (Asks question s names) reply new
  asked-free WithProof s names reply new d = record { accepted = d.accepted; answered = d.answered; next = d.next }
  asked-free WithCritical s names reply new d = record { accepted = d.accepted; answered = d.answered; next = d.next }
  asked-free ToKeep s names reply new d = record { accepted = d.accepted; answered = d.answered; next = d.next }

  done-free : (shape : Shape) (reply : Reply) (new : State) → is_placed shape reply ≡ false
      → Does g caller past old shape reply new → Does g caller other old shape reply new
  done-free (Calls s call) reply new free d = record { accepted = d.accepted; answered = d.answered; next = d.next }
  done-free (Updates update) reply new free d =
      absurd (both (sym (updated-placed caller past old update reply d.answered) ∙ free))
  done-free (Looks look) reply new free d =
      absurd (both (sym (looked-placed caller past old look reply d.answered) ∙ free))
  done-free (Asks question s names) reply new free d = asked-free question s names reply new d
  done-free (Controls (ShowSecret bytes)) reply new free d =
      record { accepted = d.accepted; answered = d.answered; next = d.next }
  done-free (Controls Leave) reply new free d =
      record { accepted = d.accepted; answered = d.answered; next = d.next }
  done-free (AtFault fault) reply new free d = absurd d.answered

  refused-free : (shape : Shape) (refusal : Refusal) → is_placed shape (No refusal) ≡ false
      → first_refusal g past old shape ≡ Some refusal → first_refusal g other old shape ≡ Some refusal
  refused-free shape refusal free = by (own_refusal g old shape)
    where
      by : (own : Option Refusal) → option_or own (placed_refusal past shape) ≡ Some refusal
          → option_or own (placed_refusal other shape) ≡ Some refusal
      by (Some first) e = e
      by None e = absurd (both (sym (history-placed past shape refusal e) ∙ free))

  pub unplaced-free : (shape : Shape) (reply : Reply) (new : State) → is_placed shape reply ≡ false
      → Permits g caller past old shape reply new → Permits g caller other old shape reply new
  unplaced-free shape (No refusal) new free p = (refused-free shape refusal free p.0, p.1)
  unplaced-free shape NoMemory new free p = p
  unplaced-free shape reply new free p = done-free shape reply new free p

pub fewer-takes_no_memory : FewerTakesNoMemory
fewer-takes_no_memory s k text fault =
    (never, never, never, never, never, never, never, never, never)
  where
    never : (g : DaemonConfig) (caller : ℕ) (past : List Update) (old new : State) → (false ≡ true) × (new ≡ old) → ⊥
    never g caller past old new p = both (sym p.0)
