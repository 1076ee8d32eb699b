-- What is tried of a text without memory.
use Rattle.std.proofs.Common.{◌≡◌, ◌⊎◌, ℕ, ◌+◌, ◌<◌, ◌≤◌, List, [], ◌∷◌, ◌++◌, length, codes, decimal, flat_map, Result}
use Rattle.std.proofs.Common.{Ok, Err, refl, sym, ap, ◌∙◌, subst, inl, inr, arith, append_assoc, length-append}
use Rattle.std.specs.Prelude.{IfErr, MatchResult}
use Rattle.std.proofs.lemmas.List.{flat_map_more}
use Rattle.std.proofs.lemmas.List.Elements.{All-push}
use Rattle.kn_proof.specs.declared.named.Id.{Id}
use Rattle.kn_proof.specs.declared.reply.ReadReply.{ReadReply}
use Rattle.kn_proof.specs.declared.header.Header.{Header}
use Rattle.kn_proof.specs.declared.fault.ProofFault.{ProofFault}
use Rattle.kn_proof.specs.declared.fault.ProofFault.TheVariants.{Line, Number, Count, NoMemory}
use Rattle.kn_proof.specs.Texts.{id_text, quoted_byte, row_text}
use Rattle.kn_proof.specs.Lines.{AreBytes}
use Rattle.kn_proof.specs.Quoting.{HasNoByte, IsQuotedTo}
use Rattle.kn_proof.specs.Reading.{HasHead, IsFirstFault, IsHeader, IsRowLinesFault, IsUnread, header_text}
use Rattle.kn_proof.specs.Reading.{id_number}
use Rattle.kn_proof.specs.Words.{AreCountedLines, AreCountedTo, AreRowWords, IsEndFault, IsFaultBehind, IsRowAt}
use Rattle.kn_proof.proofs.Lines.{row_of_words}
use Rattle.kn_proof.proofs.Quotes.{closed, one_principal}
use Rattle.kn_proof.proofs.OneReplyOrFault.{reply_without_fault}
use Rattle.kn_proof.proofs.Sizes.{row_bytes}
use Rattle.kn_proof.proofs.WholeReplies.{more_rows, reply_from}

-- one more byte is quoted
pub quoted_more : (text rest behind : List ℕ) (byte : ℕ) → IsQuotedTo text rest → byte < 256
    → rest ≡ quoted_byte byte ++ behind → IsQuotedTo text behind
quoted_more text rest behind byte to small next = record {
  principal = to.principal ++ byte ∷ [];
  spelled =
      to.spelled ∙ ap (λ (l : List ℕ). flat_map quoted_byte to.principal ++ l) next
      ∙ sym (append_assoc (flat_map quoted_byte to.principal) (quoted_byte byte) behind)
      ∙ ap (λ (l : List ℕ). l ++ behind) (flat_map_more quoted_byte [] to.principal byte);
  bytes = All-push (λ b. b < 256) to.principal byte to.bytes small;
}

-- the row of these words
pub row_at : (text value_word id_word quoted behind rest : List ℕ) (value : ℕ) (id : Id)
    → AreRowWords text value_word id_word quoted → IsQuotedTo quoted behind
    → behind ≡ codes "\"\n" ++ rest → decimal value ≡ value_word → value ≤ 255 → id_text id ≡ id_word
    → id_number id < 1000000000 → IsRowAt text value id quoted rest
row_at text value_word id_word quoted behind rest value id are to close told small named range = record {
  row = record { value = value; id = id; principal = to.principal };
  same_value = refl;
  same_id = refl;
  spelled = rw (told, named)
      (row_of_words text value_word id_word quoted to.principal behind rest are to.spelled close);
  range = record { value = small; id = range; principal = to.bytes };
  closed = to.spelled ∙ ap (λ (l : List ℕ). flat_map quoted_byte to.principal ++ l) close;
}

-- it has the principal that is read of its quoted bytes
pub row_again : (text quoted rest principal behind : List ℕ) (value : ℕ) (id : Id) → IsRowAt text value id quoted rest
    → quoted ≡ flat_map quoted_byte principal ++ behind
    → AreBytes principal → HasNoByte behind → text ≡ row_text (record { value = value; id = id; principal = principal })
    ++ rest
row_again text quoted rest principal behind value id at spelled bytes all =
    let same = (one_principal at.row.principal principal (34 ∷ 10 ∷ rest) behind at.range.principal bytes
    (closed (10 ∷ rest)) all (sym at.closed ∙ spelled)).0 in
    at.spelled ∙ ap (λ (n : ℕ). text_of n at.row.id at.row.principal) at.same_value
    ∙ ap (λ (i : Id). text_of value i at.row.principal) at.same_id ∙ ap (text_of value id) same
  where
    text_of : ℕ → Id → List ℕ → List ℕ
    text_of v i p = row_text (record { value = v; id = i; principal = p }) ++ rest

-- one more row is counted
pub counted_more : (lines rest quoted behind : List ℕ) (count value : ℕ) (id : Id) → AreCountedTo lines count rest
    → IsRowAt rest value id quoted behind → AreCountedTo lines (count + 1) behind
counted_more lines rest quoted behind count value id so_far at = record {
  rows = so_far.rows ++ at.row ∷ [];
  counted = let same = so_far.counted in rw length-append (omega arith);
  to = more_rows lines rest behind so_far.rows at.row so_far.to at.spelled at.range;
}

pub few_more : (lines rest quoted behind : List ℕ) (count value : ℕ) (id : Id) → count + length rest ≤ length lines
    → IsRowAt rest value id quoted behind → count + 1 + length behind ≤ length lines
few_more lines rest quoted behind count value id few at =
    let some = row_bytes at.row at.range in
    let size : length rest ≡ length (row_text at.row) + length behind = ap length at.spelled
    ∙ length-append (row_text at.row) behind in
    omega arith

end_cause : (header : Header) (rows : ℕ) (left after : List ℕ) (fault : ProofFault) → left ≡ codes "END\n" ++ after
    → IsEndFault header rows after fault → IsRowLinesFault header rows left fault
end_cause header rows left after (Line n) ends is = inr (is.0, is.1, (after, ends, is.2))
end_cause header rows left after (Number n) ends is = absurd is
end_cause header rows left after (Count n) ends is = (is.0, is.1, (after, ends))
end_cause header rows left after NoMemory ends is = absurd is

pub end_behind : (header : Header) (lines left after : List ℕ) (count : ℕ) (r : Result (Unit {0}) ProofFault)
    → AreCountedTo lines count left → left ≡ codes "END\n" ++ after
    → IfErr r (λ fault. IsEndFault header count after fault) → IfErr r (λ fault. IsFaultBehind header lines fault)
end_behind header lines left after count (Ok done) so_far ends is = tt
end_behind header lines left after count (Err fault) so_far ends is = record {
  rows = so_far.rows;
  left = left;
  before = so_far.to;
  cause = subst (λ (n : ℕ). IsRowLinesFault header n left fault) (sym so_far.counted)
      (end_cause header count left after fault ends is);
}

-- the head of what was tried
pub head_of : (text lines : List ℕ) (header : Header) → text ≡ header_text header ++ lines → IsHeader header
    → AreCountedLines header.count lines
    → HasHead text header.value header.name header.version
head_of text lines header spelled is are = record {
  reply = reply;
  read = reply_from text lines header reply spelled is (record {
    of_header = record { same_value = refl; same_name = refl; same_version = refl; same_count = are.counted };
    spelled = are.spelled;
    each = are.each;
  });
  head = record { tells_value = refl; tells_name = refl; tells_version = refl };
}
  where
    reply : ReadReply
    reply = record { value = header.value; name = header.name; version = header.version; rows = are.rows }

-- why the text of a reply isn't read
pub unread : (text name : List ℕ) (value version : ℕ) (r : Result ReadReply ProofFault)
    → HasHead text value name version
    → IfErr r (λ fault. (fault ≡ NoMemory) ⊎ IsFirstFault text fault) → IfErr r (λ fault. IsUnread text fault)
unread text name value version (Ok read) head err = tt
unread text name value version (Err fault) head err =
    elim err [ inl none ↦ inr (none, (head.reply, head.read)) | inr first ↦ inl first ]

-- a text that has a first fault was tried, and has this one
pub told_first : (text name : List ℕ) (value version : ℕ) (r : Result ReadReply ProofFault)
    → HasHead text value name version → (fault : ProofFault) → IsFirstFault text fault
    → MatchResult r (λ read. ⊥) (λ told. told ≡ fault)
told_first text name value version r head fault first =
    absurd (reply_without_fault text head.reply fault head.read first)
