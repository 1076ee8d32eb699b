-- The reply to a request, judged with `NOMEM` too, and the request's fault.
use Rattle.std.proofs.Common.{◌≡◌, ◌≢◌, ◌⊎◌, ℕ, true, false, List, ◌++◌, codes, Option, Some, None, refl, sym, ap, ◌∙◌}
use Rattle.std.proofs.Common.{arith, subst, inl, inr}
use Rattle.std.specs.Prelude.{Result, Ok, Err, IfOk}
use Rattle.kn_history.specs.declared.update.Update.{Update}
use Rattle.kn_wire.specs.Requests.{Request}
use Rattle.kn_reply.specs.Replies.{Reply, Done, Started, Number, PrivateAdded, Added, Value, Batched, PinnedAt, Log}
use Rattle.kn_reply.specs.Replies.{News, Critical, No, NoMemory, reply_text}
use Rattle.kn_daemon.specs.Shapes.{Shape, shape_of}
use Rattle.kn_daemon.specs.Daemon.{State, may_lack_memory}
use Rattle.kn_transcript.specs.declared.fault.TranscriptFault.{TranscriptFault}
use Rattle.kn_transcript.specs.declared.fault.TranscriptFault.TheVariants as F
use Rattle.kn_transcript.specs.declared.progress.Progress.{Progress}
use Rattle.kn_transcript.specs.Followed.{IsPermitted}
use Rattle.kn_transcript.specs.Accepted.{is_foreign, is_value}
use Rattle.kn_transcript.specs.Judging.{state_of, Takes, Judges, JudgesReply}
use Rattle.kn_transcript.specs.Progress.{IsAnsweredBy, IsMissed, IsFaultAt, IsRequestJudged, IsBehindReply, IsMovedOn}
use Rattle.kn_transcript.specs.Progress.{NoneIsPermitted, begins_with_value, count_value}
use Rattle.kn_transcript.proofs.ConfigChoices.{config_at, lacking-behind}

memory_or_not : (reply : Reply) → (reply ≡ NoMemory) ⊎ (reply ≢ NoMemory)
memory_or_not Done = inr (λ e. cc e)
memory_or_not (Started s version) = inr (λ e. cc e)
memory_or_not (Number version) = inr (λ e. cc e)
memory_or_not (PrivateAdded k) = inr (λ e. cc e)
memory_or_not (Added k version) = inr (λ e. cc e)
memory_or_not (Value index name version rows) = inr (λ e. cc e)
memory_or_not (Batched first added version) = inr (λ e. cc e)
memory_or_not (PinnedAt version newest) = inr (λ e. cc e)
memory_or_not (Log n history) = inr (λ e. cc e)
memory_or_not (News index name version) = inr (λ e. cc e)
memory_or_not (Critical index ids) = inr (λ e. cc e)
memory_or_not (No refusal) = inr (λ e. cc e)
memory_or_not NoMemory = inl refl

-- only the reply that gives a value begins as that one does
pub value_told : (reply : Reply) (rest : List ℕ) → begins_with_value (reply_text reply ++ rest) ≡ is_value reply
value_told Done rest = refl
value_told (Started s version) rest = refl
value_told (Number version) rest = refl
value_told (PrivateAdded k) rest = refl
value_told (Added k version) rest = refl
value_told (Value index name version rows) rest = refl
value_told (Batched first added version) rest = refl
value_told (PinnedAt version newest) rest = refl
value_told (Log n history) rest = refl
value_told (News index name version) rest = refl
value_told (Critical index ids) rest = refl
value_told (No refusal) rest = refl
value_told NoMemory rest = refl

module _ (past : List Update) (old : State) (shape : Shape) (left : List ℕ) where
  -- `NOMEM` stands there, and is permitted
  pub memory_taken : (rest : List ℕ) → left ≡ codes "NOMEM\n" ++ rest → may_lack_memory shape ≡ true
      → JudgesReply past old shape left past old (Some rest)
  memory_taken rest cut may = record {
    reply = NoMemory;
    taken = record {
      text = tt;
      cut = cut;
      permitted = record { grounds = config_at 0; faults = λ text assertion. omega arith; permitted = (may, refl) };
    };
    behind = sym (lacking-behind past shape);
  }

  -- it doesn't stand there, and other replies were judged
  pub others_judged : (history : List Update) (new : State) (found : Option (List ℕ))
      → ((rest : List ℕ) → left ≢ codes "NOMEM\n" ++ rest) → Judges past old shape left history new found
      → JudgesReply past old shape left history new found
  others_judged history new (Some rest) none judged = judged
  others_judged history new None none judged =
      λ reply rest other taken.
      elim (memory_or_not reply) [
        | inl is ↦ none rest (taken.cut ∙ ap (λ (r : Reply). reply_text r ++ rest) is)
        | inr some ↦ judged reply rest other some taken
      ]

  -- `NOMEM` isn't permitted, and other replies were judged
  pub never_memory : (history : List Update) (new : State) (found : Option (List ℕ)) → may_lack_memory shape ≡ false
      → Judges past old shape left history new found → JudgesReply past old shape left history new found
  never_memory history new (Some rest) may judged = judged
  never_memory history new None may judged =
      λ reply rest other taken.
      elim (memory_or_not reply) [
        | inr some ↦ judged reply rest other some taken
        | inl is ↦
            let permitted : IsPermitted past old shape NoMemory other =
            subst (λ (r : Reply). IsPermitted past old shape r other) is taken.permitted in
            let yes = permitted.permitted.0 in
            absurd (cc (yes, may))
      ]

-- the same of what a call gave
pub others_ok : (past : List Update) (old : State) (shape : Shape) (left : List ℕ) (history : List Update) (new : State)
    {X E : Type 0} (result : Result X E) (view : X → Option (List ℕ))
    → ((rest : List ℕ) → left ≢ codes "NOMEM\n" ++ rest)
    → IfOk result (λ found. Judges past old shape left history new (view found))
    → IfOk result (λ found. JudgesReply past old shape left history new (view found))
others_ok past old shape left history new (Ok found) view none judged =
    others_judged past old shape left history new (view found) none judged
others_ok past old shape left history new (Err e) view none judged = judged

-- The fault of a request, and what follows behind its reply.
module _ (old mid new : Progress) (request : Request) (number : ℕ) (judged : is_foreign request ≡ false)
    (left : mid.left.now ≡ old.left.now) where
  none_permitted : (history : List Update) (state : State)
      → JudgesReply old.book (state_of old.connection) (shape_of request) old.left.now history state None
      → NoneIsPermitted old request
  none_permitted history state none reply other begins permitted =
      none reply begins.more other (record { text = begins.text; cut = begins.cut; permitted = permitted })

  fault_at : NoneIsPermitted old request → (fault : TranscriptFault) → IsMissed mid.left.now number fault
      → IsFaultAt old request number fault
  fault_at none (F.Missing n) missed = (judged, subst (λ (l : List ℕ). IsMissed l number (F.Missing n)) left missed)
  fault_at none (F.Text n) missed = (judged, subst (λ (l : List ℕ). IsMissed l number (F.Text n)) left missed)
  fault_at none (F.Wrong n) missed = (judged, subst (λ (l : List ℕ). IsMissed l number (F.Wrong n)) left missed, none)
  fault_at none (F.Rest at) missed = absurd missed
  fault_at none (F.Foreign n) missed = absurd missed
  fault_at none F.NoMemory missed = absurd missed

  module _ (answers : mid.answers ≡ old.answers) where
    answered_by : (rest : List ℕ)
        → Takes old.book (state_of old.connection) (shape_of request) old.left.now rest mid.book
        (state_of mid.connection)
        → IsBehindReply mid rest new → IsAnsweredBy old request new
    answered_by rest takes behind =
        let connection : state_of mid.connection ≡ state_of new.connection = ap state_of (sym behind.connection) in
        record {
          judged = judged;
          takes = record {
            reply = takes.reply;
            taken = record {
              text = takes.taken.text;
              cut = takes.taken.cut ∙ ap (λ (l : List ℕ). reply_text takes.reply ++ l) (sym behind.left);
              permitted = subst (λ (s : State). IsPermitted old.book (state_of old.connection) (shape_of request)
                  takes.reply s) connection takes.taken.permitted;
            };
            behind = behind.book ∙ takes.behind;
          };
          values =
              behind.values ∙ ap (λ (n : ℕ). count_value n (begins_with_value mid.left.now)) answers
              ∙ ap (count_value old.answers) (ap begins_with_value (left ∙ takes.taken.cut)
              ∙ value_told takes.reply rest);
        }

    pub moved_on : {X : Type 0} (found : Option (List ℕ)) (result : Result X TranscriptFault)
        → JudgesReply old.book (state_of old.connection) (shape_of request) old.left.now mid.book
        (state_of mid.connection) found
        → IsMovedOn mid found number new result → IsRequestJudged old request number new result
    moved_on None (Ok done) none moved = absurd moved
    moved_on None (Err fault) none moved = fault_at (none_permitted mid.book (state_of mid.connection) none) fault moved
    moved_on (Some rest) (Ok done) takes behind = answered_by rest takes behind
    moved_on (Some rest) (Err fault) takes moved = absurd moved
