-- A reply judged where what an authenticator says of a text may be the reply.
use Rattle.std.proofs.Common.{◌≡◌, ◌≢◌, ◌⊎◌, ℕ, ◌≤◌, true, false, List, ◌++◌, Option, Some, None, refl, ap, ◌∙◌}
use Rattle.std.proofs.Common.{arith, inl, inr, subst, sym}
use Rattle.std.specs.Prelude.{Result, Ok, Err, IfOk}
use Rattle.kn_trees.specs.declared.assertion.Assertion.{Assertion}
use Rattle.kn_history.specs.declared.update.Update.{Update}
use Rattle.kn_reply.specs.declared.refusal.Refusal.{Refusal}
use Rattle.kn_reply.specs.declared.refusal.Refusal.TheVariants as R
use Rattle.kn_reply.specs.Replies.{Reply, No, reply_text}
use Rattle.kn_reply_reader.specs.Texts.{HasText}
use Rattle.kn_daemon.specs.Shapes.{Updating, Shape, Updates}
use Rattle.kn_daemon.specs.Daemon.{DaemonConfig, State, Answers, own_refusal, placed_refusal}
use Rattle.kn_daemon.proofs.Admins.{others-refused}
use Rattle.kn_transcript.specs.declared.fault.TheConstants.{AUTH_FAULTS}
use Rattle.kn_transcript.specs.Followed.{IsPermitted, history_behind}
use Rattle.kn_transcript.specs.Judging.{IsBehind, Judges}
use Rattle.kn_transcript.proofs.ConfigChoices.{OnlyAt, config_at, is_acceptance, own_only, own_permitted, placed_only}
use Rattle.kn_transcript.proofs.ConfigChoices.{placed_permitted, done_only, done_permitted, refused-behind}
use Rattle.kn_transcript.proofs.DueReplies.{taken_by, refused_ok}

-- what an authenticator says of each text is the number of a fault
abbrev pub HasFaults : DaemonConfig → Type 0
HasFaults g = (text : List ℕ) (assertion : Assertion) → g.verdict text assertion ≤ AUTH_FAULTS

module _ (past : List Update) (old : State) (shape : Shape) (left : List ℕ) (V : Refusal → Type 0) where
  -- such a refusal is the only reply, or this one is
  abbrev pub OnlyOr : Reply → Type 0
  OnlyOr due = (g : DaemonConfig) → HasFaults g
      → ((told : Refusal) × V told × OnlyAt g past old shape (No told)) ⊎ OnlyAt g past old shape due

  -- no such refusal stands there
  abbrev pub NoneStands : Type 0
  NoneStands = (told : Refusal) (rest : List ℕ) → V told → left ≢ reply_text (No told) ++ rest

  missed_or : (history : List Update) (new : State) (due : Reply) → NoneStands → OnlyOr due
      → ((rest : List ℕ) → left ≢ reply_text due ++ rest) → Judges past old shape left history new None
  missed_or history new due none only missing reply rest other some taken =
      let p = taken.permitted in
      elim (only p.grounds p.faults) [
        | inl o ↦ none o.0 rest o.1 (stands (No o.0) (o.2 reply other some p.permitted))
        | inr o ↦ missing rest (stands due (o reply other some p.permitted))
      ]
    where
      stands : (told : Reply) → reply ≡ told → left ≡ reply_text told ++ rest
      stands told same = taken.cut ∙ ap (λ (r : Reply). reply_text r ++ rest) same

  pub judged_or : (history : List Update) (new : State) → {X E : Type 0}
      → (result : Result X E) (view : X → Option (List ℕ))
      → NoneStands → (due : Reply) → HasText due → IsPermitted past old shape due new
      → history ≡ history_behind past shape due → OnlyOr due
      → IfOk result (λ found. IsBehind left (reply_text due) (view found))
      → IfOk result (λ found. Judges past old shape left history new (view found))
  judged_or history new (Err e) view none due text permitted behind only is = is
  judged_or history new (Ok found) view none due text permitted behind only is = by (view found) is
    where
      by : (o : Option (List ℕ)) → IsBehind left (reply_text due) o → Judges past old shape left history new o
      by (Some rest) cut = taken_by past old shape left history new due rest text permitted behind cut
      by None missing = missed_or history new due none only missing

-- an update is refused without the administrators' secret
pub update_unshown : (past : List Update) (old : State) (update : Updating) (left : List ℕ) → {X E : Type 0}
    → (result : Result X E) (view : X → Option (List ℕ)) → old.is_admin ≡ false
    → IfOk result (λ found. IsBehind left (reply_text (No R.Admin)) (view found))
    → IfOk result (λ found. Judges past old (Updates update) left past old (view found))
update_unshown past old update left result view out behind =
    refused_ok past old (Updates update) left view R.Admin (λ g. (others-refused g old update 0 out).0) result behind

module _ (past : List Update) (old : State) (update : Updating) (left : List ℕ) (V : Refusal → Type 0)
    (none : NoneStands past old (Updates update) left V) where
  -- such a refusal is found, or else this
  abbrev pub RefusesOr : Option Refusal → Type 0
  RefusesOr o = (g : DaemonConfig) → HasFaults g
      → ((told : Refusal) × V told × (own_refusal g old (Updates update) ≡ Some told))
      ⊎ (own_refusal g old (Updates update) ≡ o)

  only_or : (o : Option Refusal) (due : Reply) → RefusesOr o
      → ((g : DaemonConfig) → own_refusal g old (Updates update) ≡ o → OnlyAt g past old (Updates update) due)
      → OnlyOr past old (Updates update) left V due
  only_or o due may next g few = elim (may g few) [
    | inl r ↦ inl (r.0, r.1, own_only past old (Updates update) r.0 g r.2)
    | inr e ↦ inr (next g e)
  ]

  module _ {X E : Type 0} (result : Result X E) (view : X → Option (List ℕ)) where
    abbrev Keeps : Type 0
    Keeps = IfOk result (λ found. Judges past old (Updates update) left past old (view found))

    -- the request is refused whatever is said of its texts, or earlier
    pub update_refused : (refusal : Refusal) → own_refusal (config_at 0) old (Updates update) ≡ Some refusal
        → RefusesOr (Some refusal) → IfOk result (λ found. IsBehind left (reply_text (No refusal)) (view found)) → Keeps
    update_refused refusal zero may behind =
        judged_or past old (Updates update) left V past old result view none (No refusal) tt
        (own_permitted past old (Updates update) refusal 0 (omega arith) zero)
        (sym (refused-behind past (Updates update) refusal))
        (only_or (Some refusal) (No refusal) may (λ g own. own_only past old (Updates update) refusal g own)) behind

    -- the history refuses it
    pub update_placed : (refusal : Refusal) → own_refusal (config_at 0) old (Updates update) ≡ None → RefusesOr None
        → placed_refusal past (Updates update) ≡ Some refusal
        → ((reply : Reply) → Answers 0 (history_behind past (Updates update) reply) old (Updates update) reply → ⊥)
        → IfOk result (λ found. IsBehind left (reply_text (No refusal)) (view found)) → Keeps
    update_placed refusal zero may placed never behind =
        judged_or past old (Updates update) left V past old result view none (No refusal) tt
        (placed_permitted past old (Updates update) refusal zero placed)
        (sym (refused-behind past (Updates update) refusal))
        (only_or None (No refusal) may (λ g own. placed_only past old (Updates update) refusal g own placed
        (λ reply other does. never reply does.answered))) behind

    -- it is made
    pub update_made : (history : List Update) (due : Reply) → HasText due → is_acceptance due ≡ true
        → own_refusal (config_at 0) old (Updates update) ≡ None → RefusesOr None
        → placed_refusal past (Updates update) ≡ None
        → history ≡ history_behind past (Updates update) due → Answers 0 history old (Updates update) due
        → ((reply : Reply) → Answers 0 (history_behind past (Updates update) reply) old (Updates update) reply
        → reply ≡ due)
        → IfOk result (λ found. IsBehind left (reply_text due) (view found))
        → IfOk result (λ found. Judges past old (Updates update) left history old (view found))
    update_made history due text is zero may placed made updated only behind =
        judged_or past old (Updates update) left V history old result view none due text
        (done_permitted past old (Updates update) due old is zero
        (subst (λ (h : List Update). Answers 0 h old (Updates update) due) made updated) refl) made
        (only_or None due may (λ g own. done_only past old (Updates update) due g own placed
        (λ reply other does. only reply does.answered))) behind
