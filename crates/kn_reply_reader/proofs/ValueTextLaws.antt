-- The text of a VALUE reply at the front of bytes.
use Rattle.std.proofs.Common.{◌≡◌, ℕ, List, ◌++◌, Some, None, refl, sym, subst}
use Rattle.kn_proof.specs.declared.reply.ReadReply.{ReadReply}
use Rattle.kn_proof.specs.declared.fault.ProofFault.{ProofFault}
use Rattle.kn_proof.specs.Reading.{HasHead, IsFirstFault, IsReplyText}
use Rattle.kn_proof.proofs.OneReplyOrFault.{reply_without_fault}
use Rattle.kn_reply.specs.Replies.{Reply, Done, Started, Number, PrivateAdded, Added, Value, Batched, PinnedAt, Log}
use Rattle.kn_reply.specs.Replies.{News, Critical, No, NoMemory, reply_text}
use Rattle.kn_reply_reader.specs.Texts.{HasText}
use Rattle.kn_reply_reader.specs.Fronts.{IsBehindOne, AreApart}
use Rattle.kn_reply_reader.specs.Kinds.{Proved, IsTextOf, kind_of}
use Rattle.kn_reply_reader.specs.ValueReplies.{IsThroughEnd}
use Rattle.kn_reply_reader.proofs.EndingLaws.{cut_end_once}
use Rattle.kn_reply_reader.proofs.ValueReplyLaws.{value_through_end}

-- the reader's reply, and the text of a reply that its reader reads
value_read : (text : List ℕ) (read : ReadReply) → IsReplyText text read → IsTextOf Proved text
value_read text read is = record {
  reply = Value read.value read.name read.version read.rows;
  has = record { name_is = is.name; index_is = is.value; version_is = is.version; count = is.count; each = is.each };
  is = refl;
  same = is.spelled;
}

read_value : (text : List ℕ) → IsTextOf Proved text → (read : ReadReply) × IsReplyText text read
read_value text is = go is.reply is.has is.is is.same
  where
    go : (reply : Reply) → HasText reply → kind_of reply ≡ Proved → text ≡ reply_text reply → (read : ReadReply)
        × IsReplyText text read
    go (Value index name version rows) has proved same = (
      record { value = index; name = name; version = version; rows = rows },
      record {
        spelled = same;
        name = has.name_is;
        value = has.index_is;
        version = has.version_is;
        count = has.count;
        each = has.each;
      },
    )
    go Done has proved same = absurd (cc)
    go (Started s version) has proved same = absurd (cc)
    go (Number version) has proved same = absurd (cc)
    go (PrivateAdded k) has proved same = absurd (cc)
    go (Added k version) has proved same = absurd (cc)
    go (Batched first added version) has proved same = absurd (cc)
    go (PinnedAt version newest) has proved same = absurd (cc)
    go (Log n history) has proved same = absurd (cc)
    go (News index name version) has proved same = absurd (cc)
    go (Critical index ids) has proved same = absurd (cc)
    go (No refusal) has proved same = absurd (cc)
    go NoMemory has proved same = absurd (cc)

-- it goes through the first line END of the bytes
pub value_ends : (left text rest : List ℕ) → IsTextOf Proved text → left ≡ text ++ rest → IsThroughEnd left text rest
value_ends left text rest is cut =
    let read = read_value text is in
    subst (λ (l : List ℕ). IsThroughEnd l text rest) (sym cut) (value_through_end text rest read.0 read.1)

pub value_apart : AreApart (IsTextOf Proved)
value_apart a b r s is is' e =
    cut_end_once (a ++ r) a b r s (value_ends (a ++ r) a r is refl) (value_ends (a ++ r) b s is' e)

-- without a line END there is none
pub value_none : (left : List ℕ) → ((text rest : List ℕ) → IsThroughEnd left text rest → ⊥)
    → IsBehindOne (IsTextOf Proved) left None
value_none left none text rest is e = none text rest (value_ends left text rest is e)

module _ (left front rest : List ℕ) (through : IsThroughEnd left front rest) where
  pub value_some : (index : ℕ) (name : List ℕ) (version : ℕ) → HasHead front index name version
      → IsBehindOne (IsTextOf Proved) left (Some rest)
  value_some index name version head = (front, value_read front head.reply head.read, through.cut)

  pub value_faulty : (fault : ProofFault) → IsFirstFault front fault → IsBehindOne (IsTextOf Proved) left None
  value_faulty fault first text more is e =
      let same = cut_end_once left text front more rest (value_ends left text more is e) through in
      let read = read_value text is in
      reply_without_fault text read.0 fault read.1 (subst (λ (l : List ℕ). IsFirstFault l fault) (sym same.0) first)
