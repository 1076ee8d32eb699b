-- Replies to QUERY.
use Rattle.std.proofs.Common.{◌≡◌, ℕ, ◌<◌, List, [], ◌∷◌, ◌++◌, length, Option, Some, None, refl, sym, ap, ◌∙◌, subst}
use Rattle.std.proofs.Common.{arith, inl, inr}
use Rattle.std.specs.Prelude.{Bool, false, Result, Ok, Err, IfOk, IsSomeAnd, IsTrue, ◌↔◌, slice_index_or}
use Rattle.std.proofs.lemmas.Option.{same_Some}
use Rattle.std.proofs.lemmas.Bool.{false≢true}
use Rattle.kn_env.specs.Values.{values_of, values_unless, names_fault, between_commas}
use Rattle.kn_env.specs.declared.values.ValuesFault.{ValuesFault}
use Rattle.kn_proof.specs.declared.reply.ReadReply.{ReadReply}
use Rattle.kn_proof.specs.Reading.{IsReplyText}
use Rattle.kn_history.specs.declared.update.Update.{Update}
use Rattle.kn_session.specs.declared.fault.SessionFault.{SessionFault}
use Rattle.kn_session.specs.Sessions.{Session, fault_in}
use Rattle.kn_reply.specs.declared.refusal.Refusal.TheVariants as R
use Rattle.kn_reply.specs.Replies.{Reply, Value, No, reply_text}
use Rattle.kn_reply_reader.specs.declared.value_reply.ValueReply.{ValueReply}
use Rattle.kn_reply_reader.specs.Texts.{HasText}
use Rattle.kn_reply_reader.specs.ValueReplies.{IsValueAt}
use Rattle.kn_daemon.specs.Shapes.{Asks, WithProof}
use Rattle.kn_daemon.specs.Daemon.{DaemonConfig, State, session_of, in_session, refusal_of_names, refusal_of_question}
use Rattle.kn_daemon.specs.Daemon.{own_refusal, IsAnswer, Answers}
use Rattle.kn_daemon.proofs.Answered.{is-there}
use Rattle.kn_verify.proofs.Accepted.{answers_are_proved}
use Rattle.kn_transcript.specs.Followed.{IsPermitted, history_behind}
use Rattle.kn_transcript.specs.Judging.{IsBehind, Judges}
use Rattle.kn_transcript.specs.ValueReplies.{JudgesValue, ProvesAnswer}
use Rattle.kn_transcript.proofs.ConfigChoices.{config_at, permits_cases, done_permitted}
use Rattle.kn_transcript.proofs.DueReplies.{refused_ok, taken_by}
use Rattle.kn_transcript.proofs.CallingLaws.{none_found}

-- the reply of these parts
abbrev pub value_of : ReadReply → Reply
value_of r = Value r.value r.name r.version r.rows

-- A reply that stands at the front of bytes, as a VALUE reply of the line protocol.

text_of : (text : List ℕ) (read : ReadReply) → IsReplyText text read → HasText (value_of read)
text_of text read is = record {
  name_is = is.name;
  index_is = is.value;
  version_is = is.version;
  count = is.count;
  each = is.each;
}

stands_at : (left rest : List ℕ) (read : ReadReply) → HasText (value_of read)
    → left ≡ reply_text (value_of read) ++ rest → IsValueAt left read rest
stands_at left rest read is cut = record {
  text = reply_text (value_of read);
  read = record {
    spelled = refl;
    name = is.name_is;
    value = is.index_is;
    version = is.version_is;
    count = is.count;
    each = is.each;
  };
  cut = cut;
}

-- the reply that was found is the one that stands there
pub found_there : (found : Option ValueReply) (value : ValueReply) (reply : ReadReply) (rest : List ℕ)
    → found ≡ Some value → IsSomeAnd found (λ v. (v.reply ≡ reply) × (v.rest.now ≡ rest)) → value.reply ≡ reply
found_there None value reply rest e is = absurd (cc e)
found_there (Some other) value reply rest e is = ap (λ (v : ValueReply). v.reply) (sym (same_Some other value e)) ∙ is.0

-- where none was found none stands there
pub none_there : (found : Option ValueReply) (reply : ReadReply) (rest : List ℕ) → found ≡ None
    → IsSomeAnd found (λ v. (v.reply ≡ reply) × (v.rest.now ≡ rest)) → ⊥
none_there None reply rest e is = is
none_there (Some value) reply rest e is = absurd (cc e)

-- where the one that stands there proves nothing, none does
pub unproved : (session : Session) (values : List (List ℕ)) (read reply : ReadReply) (proves : Bool) → read ≡ reply
    → (IsTrue proves ↔ ProvesAnswer session values read) → proves ≡ false → ¬ ProvesAnswer session values reply
unproved session values read reply proves same tells not proved =
    false≢true (sym not ∙ tells.1 (subst (ProvesAnswer session values) (sym same) proved))

-- compliance values are some
filled : (names : List ℕ) (values : List (List ℕ)) → values_of names ≡ Some values → 0 < length values
filled names values named = by (between_commas names) named
  where
    some : (name : List ℕ) (names : List (List ℕ)) → 0 < length (name ∷ names)
    some name names = omega arith

    unless : (fault : Option ValuesFault) (name : List ℕ) (names : List (List ℕ))
        → values_unless fault (name ∷ names) ≡ Some values → 0 < length values
    unless None name names e =
        subst (λ (v : List (List ℕ)). 0 < length v) (same_Some (name ∷ names) values e) (some name names)
    unless (Some fault) name names e = absurd (cc e)

    by : (names : List (List ℕ)) → values_unless (names_fault names) names ≡ Some values → 0 < length values
    by [] e = absurd (cc e)
    by (name ∷ names) e = unless (names_fault (name ∷ names)) name names e

-- QUERY by its refusals and its answers.

-- a question adds no update
question_behind : (past : List Update) (s : ℕ) (names : List ℕ) (reply : Reply)
    → history_behind past (Asks WithProof s names) reply ≡ past
question_behind past s names reply = refl

module _ (past : List Update) (now : State) (s : ℕ) (names left : List ℕ) {X E : Type 0} (result : Result X E)
    (view : X → Option (List ℕ)) where
  abbrev Keeps : Type 0
  Keeps = IfOk result (λ found. Judges past now (Asks WithProof s names) left past now (view found))

  -- the session isn't open
  pub query_unknown : (fault : SessionFault) → fault_in s (session_of now s) (λ x. None) ≡ Some fault
      → IfOk result (λ found. IsBehind left (reply_text (No R.Session)) (view found)) → Keeps
  query_unknown fault why behind =
      let none : session_of now s ≡ None = none_found s (session_of now s) fault why in
      refused_ok past now (Asks WithProof s names) left view R.Session (λ g. rw none refl) result behind

  -- the names are no compliance values
  pub query_unnamed : (session : Session) → session_of now s ≡ Some session → values_of names ≡ None
      → IfOk result (λ found. IsBehind left (reply_text (No R.Values)) (view found)) → Keeps
  query_unnamed session found none behind =
      refused_ok past now (Asks WithProof s names) left view R.Values (λ g. rw (found, none) refl) result behind

module _ (past : List Update) (now : State) (s : ℕ) (names left : List ℕ) (session : Session) (values : List (List ℕ))
    (found : session_of now s ≡ Some session) (named : values_of names ≡ Some values) where
  nothing_refuses : (g : DaemonConfig) → own_refusal g now (Asks WithProof s names) ≡ None
  nothing_refuses g =
      ap (λ (o : Option Session). in_session o (λ x.
      refusal_of_names (values_of names) (refusal_of_question WithProof x))) found
      ∙ ap (λ (o : Option (List (List ℕ))). refusal_of_names o (refusal_of_question WithProof session)) named

  -- a proved value is permitted
  value_answered : (read : ReadReply) → ProvesAnswer session values read
      → Answers 0 past now (Asks WithProof s names) (value_of read)
  value_answered read proved =
      is-there (λ x. IsSomeAnd (values_of names) (λ v. IsAnswer x v (value_of read))) (session_of now s) session found
      (is-there (λ v. IsAnswer session v (value_of read)) (values_of names) values named
      (record {
        level = read.value;
        rows = read.rows;
        exact =
            ap (λ (name : List ℕ). Value read.value name read.version read.rows) proved.to_query.name
            ∙ ap (λ (version : ℕ). Value read.value (slice_index_or values read.value []) version read.rows)
            proved.to_query.same_version;
        proved = proved.proof;
        least = proved.least;
      }))

  value_permitted : (read : ReadReply) → ProvesAnswer session values read
      → IsPermitted past now (Asks WithProof s names) (value_of read) now
  value_permitted read proved =
      done_permitted past now (Asks WithProof s names) (value_of read) now refl (nothing_refuses (config_at 0))
      (value_answered read proved) refl

  pub value_taken : (rest : List ℕ) → JudgesValue session values left (Some rest)
      → Judges past now (Asks WithProof s names) left past now (Some rest)
  value_taken rest (read, at, proved) =
      taken_by past now (Asks WithProof s names) left past now (value_of read) rest (text_of at.text read at.read)
      (value_permitted read proved) (sym (question_behind past s names (value_of read)))
      (at.cut ∙ ap (λ (l : List ℕ). l ++ rest) at.read.spelled)

  -- an answer is a value that its rows prove
  answered_proved : (reply : Reply)
      → IsSomeAnd (session_of now s) (λ x. IsSomeAnd (values_of names) (λ v. IsAnswer x v reply))
      → (read : ReadReply) × (reply ≡ value_of read) × ProvesAnswer session values read
  answered_proved reply a =
      answers_are_proved session values reply (filled names values named)
      (subst (λ (o : Option (List (List ℕ))). IsSomeAnd o (λ v. IsAnswer session v reply)) named
      (subst (λ (o : Option Session). IsSomeAnd o (λ x. IsSomeAnd (values_of names) (λ v. IsAnswer x v reply))) found
      a))

  -- only a proved value is permitted
  pub value_missed : JudgesValue session values left None
      → Judges past now (Asks WithProof s names) left past now None
  value_missed none = λ reply rest other some taken.
      let g = taken.permitted.grounds in
      let behind = history_behind past (Asks WithProof s names) reply in
      elim (permits_cases g 0 behind now (Asks WithProof s names) reply other some taken.permitted.permitted) [
        | inl r ↦ absurd (let accepted = nothing_refuses g in let first = r.first in cc (accepted, first))
        | inr does ↦
            let a = answered_proved reply does.answered in
            none a.0 rest
            (stands_at left rest a.0 (subst HasText a.1 taken.text)
            (taken.cut ∙ ap (λ (x : Reply). reply_text x ++ rest) a.1)) a.2
      ]

  -- what a call found of it
  pub value_judged : {X E : Type 0} (result : Result X E) (view : X → Option (List ℕ))
      → IfOk result (λ found. JudgesValue session values left (view found))
      → IfOk result (λ found. Judges past now (Asks WithProof s names) left past now (view found))
  value_judged (Err e) view judged = judged
  value_judged (Ok x) view judged = by (view x) judged
    where
      by : (o : Option (List ℕ)) → JudgesValue session values left o
          → Judges past now (Asks WithProof s names) left past now o
      by None none = value_missed none
      by (Some rest) taken = value_taken rest taken
