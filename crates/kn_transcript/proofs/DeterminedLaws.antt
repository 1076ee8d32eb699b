-- What a permitted reply makes of history and state is told by its text.
use Rattle.std.proofs.Common.{◌≡◌, ℕ, Bool, true, false, not, ◌&&◌, ◌==◌, List, [], ◌∷◌, ◌++◌, refl, sym}
use Rattle.std.proofs.Common.{ap, ◌∙◌}
use Rattle.kn_history.specs.declared.update.Update.{Update}
use Rattle.kn_reply.specs.Replies.{Reply, Done, Started, Number, PrivateAdded, Added, Value, Batched, PinnedAt, Log}
use Rattle.kn_reply.specs.Replies.{News, Critical, No, NoMemory, reply_text}
use Rattle.kn_daemon.specs.Shapes.{Shape, Updates, AddText, DropId, ApplyBlock}
use Rattle.kn_daemon.specs.Daemon.{DaemonConfig, State, Permits, Does, Answers, state_after}
use Rattle.kn_daemon.proofs.Answered.{batch-answered}
use Rattle.kn_transcript.specs.Followed.{IsPermitted, history_behind}
use Rattle.kn_transcript.specs.Accepted.{is_value}
use Rattle.kn_transcript.specs.Progress.{begins_with_value}
use Rattle.kn_transcript.proofs.ConfigChoices.{is_acceptance, refused-behind, lacking-behind}
use Rattle.kn_transcript.proofs.CommittedLaws.{added_only, removed_only, batched_only}
use Rattle.kn_transcript.proofs.RequestLaws.{value_told}

-- the first two bytes tell whether the request was accepted
is_no : List ℕ → Bool
is_no (a ∷ b ∷ rest) = a == 78 && b == 79
is_no rest = false

no_told : (reply : Reply) → is_no (reply_text reply) ≡ not (is_acceptance reply)
unfolding is_no
no_told Done = refl
no_told (Started s version) = refl
no_told (Number version) = refl
no_told (PrivateAdded k) = refl
no_told (Added k version) = refl
no_told (Value index name version rows) = refl
no_told (Batched first added version) = refl
no_told (PinnedAt version newest) = refl
no_told (Log n history) = refl
no_told (News index name version) = refl
no_told (Critical index ids) = refl
no_told (No refusal) = refl
no_told NoMemory = refl

not_same : (a b : Bool) → not a ≡ not b → a ≡ b
not_same true true e = refl
not_same true false e = absurd (cc e)
not_same false true e = absurd (cc e)
not_same false false e = refl

module _ (g : DaemonConfig) (past made : List Update) (old : State) (shape : Shape) where
  -- where it wasn't, nothing has changed
  kept_by : (reply : Reply) (new : State) → is_acceptance reply ≡ false → Permits g 0 made old shape reply new
      → (new ≡ old) × (history_behind past shape reply ≡ past)
  kept_by Done new is p = absurd (cc is)
  kept_by (Started s version) new is p = absurd (cc is)
  kept_by (Number version) new is p = absurd (cc is)
  kept_by (PrivateAdded k) new is p = absurd (cc is)
  kept_by (Added k version) new is p = absurd (cc is)
  kept_by (Value index name version rows) new is p = absurd (cc is)
  kept_by (Batched first added version) new is p = absurd (cc is)
  kept_by (PinnedAt version newest) new is p = absurd (cc is)
  kept_by (Log n history) new is p = absurd (cc is)
  kept_by (News index name version) new is p = absurd (cc is)
  kept_by (Critical index ids) new is p = absurd (cc is)
  kept_by (No refusal) new is p = (p.1, refused-behind past shape refusal)
  kept_by NoMemory new is p = (p.1, lacking-behind past shape)

  done_by : (reply : Reply) (new : State) → is_acceptance reply ≡ true → Permits g 0 made old shape reply new
      → Does g 0 made old shape reply new
  done_by Done new is p = p
  done_by (Started s version) new is p = p
  done_by (Number version) new is p = p
  done_by (PrivateAdded k) new is p = p
  done_by (Added k version) new is p = p
  done_by (Value index name version rows) new is p = p
  done_by (Batched first added version) new is p = p
  done_by (PinnedAt version newest) new is p = p
  done_by (Log n history) new is p = p
  done_by (News index name version) new is p = p
  done_by (Critical index ids) new is p = p
  done_by (No refusal) new is p = absurd (cc is)
  done_by NoMemory new is p = absurd (cc is)

-- two answers make the same history
one_history : (past : List Update) (old : State) (shape : Shape) (a b : Reply)
    → Answers 0 (history_behind past shape a) old shape a → Answers 0 (history_behind past shape b) old shape b
    → history_behind past shape a ≡ history_behind past shape b
one_history past old (Updates (AddText text)) a b is is' =
    ap (history_behind past (Updates (AddText text)))
    ((added_only past old text a is).0 ∙ sym (added_only past old text b is').0)
one_history past old (Updates (DropId id)) a b is is' =
    ap (history_behind past (Updates (DropId id)))
    ((removed_only past old id a is).0 ∙ sym (removed_only past old id b is').0)
one_history past old (Updates (ApplyBlock block)) a b is is' =
    let asked = batch-answered 0 (history_behind past (Updates (ApplyBlock block)) a) old block a is in
    ap (history_behind past (Updates (ApplyBlock block)))
    ((batched_only past block asked.items asked.read a old is).0
    ∙ sym (batched_only past block asked.items asked.read b old is').0)
one_history past old shape a b is is' = refl

module _ (past : List Update) (old : State) (shape : Shape) (a b : Reply) (new other : State)
    (p : IsPermitted past old shape a new) (q : IsPermitted past old shape b other) (same : reply_text a ≡ reply_text b)
  where
    pub one_value : is_value a ≡ is_value b
    one_value = sym (value_told a []) ∙ ap (λ (l : List ℕ). begins_with_value (l ++ [])) same ∙ value_told b []

    -- two permitted replies of one text have made the same of both
    pub one_outcome : (history_behind past shape a ≡ history_behind past shape b) × (new ≡ other)
    one_outcome = by (is_acceptance a) refl
      where
        alike : is_acceptance a ≡ is_acceptance b
        alike = not_same (is_acceptance a) (is_acceptance b) (sym (no_told a) ∙ ap is_no same ∙ no_told b)

        by : (t : Bool) → is_acceptance a ≡ t → (history_behind past shape a ≡ history_behind past shape b)
            × (new ≡ other)
        by true is =
            let d = done_by p.grounds past (history_behind past shape a) old shape a new is p.permitted in
            let e = done_by q.grounds past (history_behind past shape b) old shape b other (sym alike
            ∙ is) q.permitted in
            let history = one_history past old shape a b d.answered e.answered in
            (history, d.next ∙ ap (λ (h : List Update). state_after h old shape) history ∙ sym e.next)
        by false is =
            let k = kept_by p.grounds past (history_behind past shape a) old shape a new is p.permitted in
            let l = kept_by q.grounds past (history_behind past shape b) old shape b other (sym alike
            ∙ is) q.permitted in
            (k.1 ∙ sym l.1, k.0 ∙ sym l.0)
