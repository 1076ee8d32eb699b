-- A reply judged by the one that is due.
use Rattle.std.proofs.Common.{◌≡◌, ◌≢◌, ℕ, true, List, ◌++◌, Option, Some, None, sym, ap, ◌∙◌, arith, subst}
use Rattle.std.specs.Prelude.{Result, Ok, Err, IfOk}
use Rattle.kn_history.specs.declared.update.Update.{Update}
use Rattle.kn_reply.specs.declared.refusal.Refusal.{Refusal}
use Rattle.kn_reply.specs.Replies.{Reply, No, reply_text}
use Rattle.kn_reply_reader.specs.Texts.{HasText}
use Rattle.kn_daemon.specs.Shapes.{Shape}
use Rattle.kn_daemon.specs.Daemon.{DaemonConfig, State, Answers, own_refusal, placed_refusal, state_after}
use Rattle.kn_transcript.specs.Followed.{IsPermitted, history_behind}
use Rattle.kn_transcript.specs.Judging.{IsBehind, Judges}
use Rattle.kn_transcript.proofs.ConfigChoices.{OnlyReply, DoesReply, config_at, is_acceptance, own_only, own_permitted}
use Rattle.kn_transcript.proofs.ConfigChoices.{placed_only, placed_permitted, done_only, done_permitted, refused-behind}

module _ (past : List Update) (old : State) (shape : Shape) (left : List ℕ) (history : List Update) (new : State) where
  -- a permitted reply stands there
  pub taken_by : (due : Reply) (rest : List ℕ) → HasText due → IsPermitted past old shape due new
      → history ≡ history_behind past shape due → left ≡ reply_text due ++ rest
      → Judges past old shape left history new (Some rest)
  taken_by due rest text permitted behind cut =
      record { reply = due; taken = record { text = text; cut = cut; permitted = permitted }; behind = behind }

  -- the only one that is permitted doesn't stand there
  pub missed_by : (due : Reply) → OnlyReply past old shape due → ((rest : List ℕ) → left ≢ reply_text due ++ rest)
      → Judges past old shape left history new None
  missed_by due only none reply rest other some taken =
      let same : reply ≡ due = only taken.permitted.grounds reply other some taken.permitted.permitted in
      none rest (taken.cut ∙ ap (λ (r : Reply). reply_text r ++ rest) same)

  -- the only one that is permitted stands there or doesn't
  pub judged_by : (due : Reply) → HasText due → IsPermitted past old shape due new
      → history ≡ history_behind past shape due
      → OnlyReply past old shape due → (found : Option (List ℕ)) → IsBehind left (reply_text due) found
      → Judges past old shape left history new found
  judged_by due text permitted behind only None none = missed_by due only none
  judged_by due text permitted behind only (Some rest) cut = taken_by due rest text permitted behind cut

-- the same of what a call gave
pub judged_ok : (past : List Update) (old : State) (shape : Shape) (left : List ℕ) (history : List Update) (new : State)
    → {X E : Type 0} → (view : X → Option (List ℕ)) → (due : Reply) → HasText due → IsPermitted past old shape due new
    → history ≡ history_behind past shape due → OnlyReply past old shape due → (result : Result X E)
    → IfOk result (λ found. IsBehind left (reply_text due) (view found))
    → IfOk result (λ found. Judges past old shape left history new (view found))
judged_ok past old shape left history new view due text permitted behind only (Ok found) is =
    judged_by past old shape left history new due text permitted behind only (view found) is
judged_ok past old shape left history new view due text permitted behind only (Err e) is = is

module _ (past : List Update) (old : State) (shape : Shape) (left : List ℕ) {X E : Type 0} (view : X
    → Option (List ℕ)) where
  -- the state refuses the request
  pub refused_ok : (refusal : Refusal) → ((g : DaemonConfig) → own_refusal g old shape ≡ Some refusal)
      → (result : Result X E)
      → IfOk result (λ found. IsBehind left (reply_text (No refusal)) (view found))
      → IfOk result (λ found. Judges past old shape left past old (view found))
  refused_ok refusal own result is =
      judged_ok past old shape left past old view (No refusal) tt
      (own_permitted past old shape refusal 0 (omega arith) (own (config_at 0)))
      (sym (refused-behind past shape refusal)) (λ g. own_only past old shape refusal g (own g)) result is

  -- the history does
  pub placed_ok : (refusal : Refusal) → ((g : DaemonConfig) → own_refusal g old shape ≡ None)
      → placed_refusal past shape ≡ Some refusal
      → ((g : DaemonConfig) (reply : Reply) (other : State) → DoesReply g past old shape reply other → ⊥)
      → (result : Result X E)
      → IfOk result (λ found. IsBehind left (reply_text (No refusal)) (view found))
      → IfOk result (λ found. Judges past old shape left past old (view found))
  placed_ok refusal own placed never result is =
      judged_ok past old shape left past old view (No refusal) tt
      (placed_permitted past old shape refusal (own (config_at 0)) placed) (sym (refused-behind past shape refusal))
      (λ g. placed_only past old shape refusal g (own g) placed (never g)) result is

  -- nothing does, and the history stays as it is
  pub done_ok : (due : Reply) (new : State) → HasText due → is_acceptance due ≡ true
      → ((g : DaemonConfig) → own_refusal g old shape ≡ None) → placed_refusal past shape ≡ None
      → history_behind past shape due ≡ past → Answers 0 past old shape due → new ≡ state_after past old shape
      → ((g : DaemonConfig) (reply : Reply) (other : State) → DoesReply g past old shape reply other → reply ≡ due)
      → (result : Result X E)
      → IfOk result (λ found. IsBehind left (reply_text due) (view found))
      → IfOk result (λ found. Judges past old shape left past new (view found))
  done_ok due new text is own placed here answered next answers result behind =
      judged_ok past old shape left past new view due text
      (done_permitted past old shape due new is (own (config_at 0))
      (subst (λ (x : List Update). Answers 0 x old shape due) (sym here) answered)
      (next ∙ ap (λ (x : List Update). state_after x old shape) (sym here)))
      (sym here) (λ g. done_only past old shape due g (own g) placed (answers g)) result behind

-- the same text, told in another way
pub as_text : {X E : Type 0} (result : Result X E) (view : X → Option (List ℕ)) (left a b : List ℕ) → a ≡ b
    → IfOk result (λ found. IsBehind left a (view found)) → IfOk result (λ found. IsBehind left b (view found))
as_text result view left a b same is =
    subst (λ (l : List ℕ). IfOk result (λ found. IsBehind left l (view found))) same is

-- a refusal that was looked for, unless memory ran out
pub told_by : {X E : Type 0} (result : Result X E) (view : X → Option (List ℕ)) (left : List ℕ)
    (refusal : Option Refusal) (Q : X → Type 0)
    → IfOk result (λ found. (due : Refusal) × (refusal ≡ Some due) × IsBehind left (reply_text (No due)) (view found))
    → ((due : Refusal) (r : Result X E) → refusal ≡ Some due
    → IfOk r (λ found. IsBehind left (reply_text (No due)) (view found)) → IfOk r Q)
    → IfOk result Q
told_by (Ok found) view left refusal Q is next = next is.0 (Ok found) is.1 is.2
told_by (Err e) view left refusal Q is next = is
