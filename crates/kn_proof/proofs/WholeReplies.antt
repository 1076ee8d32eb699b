-- A whole reply from its line 1 and the lines behind it.
use Rattle.std.proofs.Common.{◌≡◌, ◌⊎◌, ℕ, List, [], ◌∷◌, ◌++◌, codes, flat_map, Result, Ok, Err, sym, ap, ◌∙◌, inl}
use Rattle.std.proofs.Common.{inr, append_assoc}
use Rattle.std.specs.Prelude.{IfOk, IfErr, MatchResult}
use Rattle.std.proofs.lemmas.List.{flat_map_more}
use Rattle.std.proofs.lemmas.List.Elements.{All-push}
use Rattle.kn_proof.specs.declared.named.NamedRow.{NamedRow}
use Rattle.kn_proof.specs.declared.reply.ReadReply.{ReadReply}
use Rattle.kn_proof.specs.Texts.{row_text}
use Rattle.kn_proof.specs.Texts.{value_text}
use Rattle.kn_proof.specs.declared.fault.ProofFault.{ProofFault}
use Rattle.kn_proof.specs.declared.fault.ProofFault.TheVariants as F
use Rattle.kn_proof.specs.declared.header.Header.{Header}
use Rattle.kn_proof.specs.Reading.{IsReadRow, IsHeader, IsReplyText, IsFirstFault, header_text}
use Rattle.kn_proof.specs.Words.{AreRowLines, AreRowsTo, IsFaultBehind}
use Rattle.kn_proof.proofs.OneReplyOrFault.{header_of, one_reply, reply_without_fault}

-- one more row is read
pub more_rows : (lines rest behind : List ℕ) (rows : List NamedRow) (row : NamedRow) → AreRowsTo lines rows rest
    → rest ≡ row_text row ++ behind → IsReadRow row
    → AreRowsTo lines (rows ++ row ∷ []) behind
more_rows lines rest behind rows row so_far next is = record {
  spelled =
      so_far.spelled ∙ ap (λ (l : List ℕ). flat_map row_text rows ++ l) next
      ∙ sym (append_assoc (flat_map row_text rows) (row_text row) behind)
      ∙ ap (λ (l : List ℕ). l ++ behind) (flat_map_more row_text [] rows row);
  each = All-push IsReadRow rows row so_far.each is;
}

regrouped : (r : ReadReply) → header_text (header_of r) ++ (flat_map row_text r.rows ++ codes "END\n")
    ≡ value_text r.value r.name r.version r.rows
regrouped r = simp append_assoc

header_from : (h : Header) (r : ReadReply) (lines : List ℕ) → AreRowLines h lines r → h ≡ header_of r
header_from h r lines are =
    ap (λ (v : ℕ). made v h.name h.version h.count) (sym are.of_header.same_value)
    ∙ ap (λ (n : List ℕ). made r.value n h.version h.count) (sym are.of_header.same_name)
    ∙ ap (λ (v : ℕ). made r.value r.name v h.count) (sym are.of_header.same_version)
    ∙ ap (made r.value r.name r.version) (sym are.of_header.same_count)
  where
    made : ℕ → List ℕ → ℕ → ℕ → Header
    made value name version count = record { value = value; name = name; version = version; count = count }

pub reply_from : (text lines : List ℕ) (h : Header) (r : ReadReply) → text ≡ header_text h ++ lines → IsHeader h
    → AreRowLines h lines r → IsReplyText text r
reply_from text lines h r spelled is are =
    let same = header_from h r lines are in
    let first : IsHeader (header_of r) = rw (sym same) is in
    record {
      spelled = spelled ∙ ap (λ (l : List ℕ). header_text h ++ l) are.spelled
          ∙ ap (λ (k : Header). header_text k ++ (flat_map row_text r.rows ++ codes "END\n")) same ∙ regrouped r;
      name = first.name;
      value = first.value;
      version = first.version;
      count = first.count;
      each = are.each;
    }

pub reply_told : (text lines : List ℕ) (h : Header) (r : Result ReadReply ProofFault) → text ≡ header_text h ++ lines
    → IsHeader h → IfOk r (λ reply. AreRowLines h lines reply)
    → IfOk r (λ reply. IsReplyText text reply)
reply_told text lines h (Ok r) spelled is are = reply_from text lines h r spelled is are
reply_told text lines h (Err e) spelled is are = tt

pub fault_from : (text lines : List ℕ) (h : Header) (fault : ProofFault) → text ≡ header_text h ++ lines → IsHeader h
    → IsFaultBehind h lines fault → IsFirstFault text fault
fault_from text lines h fault spelled is behind =
    inr (record {
      header = h;
      rows = behind.rows;
      left = behind.left;
      before = record {
        spelled = spelled ∙ ap (λ (l : List ℕ). header_text h ++ l) behind.before.spelled
            ∙ sym (append_assoc (header_text h) (flat_map row_text behind.rows) behind.left);
        first = is;
        each = behind.before.each;
      };
      cause = behind.cause;
    })

pub fault_told : (text lines : List ℕ) (h : Header) (r : Result ReadReply ProofFault) → text ≡ header_text h ++ lines
    → IsHeader h
    → IfErr r (λ fault. (fault ≡ F.NoMemory) ⊎ IsFaultBehind h lines fault)
    → IfErr r (λ fault. (fault ≡ F.NoMemory) ⊎ IsFirstFault text fault)
fault_told text lines h (Ok r) spelled is told = tt
fault_told text lines h (Err e) spelled is told =
    elim told [ inl none ↦ inl none | inr behind ↦ inr (fault_from text lines h e spelled is behind) ]

pub only_reply : (text : List ℕ) (r : Result ReadReply ProofFault) → IfOk r (λ reply. IsReplyText text reply)
    → IfErr r (λ fault. (fault ≡ F.NoMemory) ⊎ IsFirstFault text fault) → (reply : ReadReply) → IsReplyText text reply
    → MatchResult r (λ read. read ≡ reply) (λ fault. fault ≡ F.NoMemory)
only_reply text (Ok read) ok err reply is = one_reply text read reply ok is
only_reply text (Err fault) ok err reply is =
    elim err [ inl none ↦ none | inr first ↦ absurd (reply_without_fault text reply fault is first) ]
