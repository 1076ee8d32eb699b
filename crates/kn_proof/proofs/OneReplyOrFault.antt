-- A text has the parts of one reply or one first fault, and not both.
use Rattle.std.proofs.Common.{◌≡◌, ◌≢◌, ℕ, List, [], ◌∷◌, ◌++◌, length, codes, flat_map, All, refl, sym, ap, ◌∙◌, arith}
use Rattle.std.proofs.Common.{inl, inr, append_assoc}
use Rattle.std.proofs.lemmas.List.{append_cancel_left}
use Rattle.std.proofs.lemmas.List.Elements.{All-head, All-tail}
use Rattle.kn_proof.specs.declared.named.NamedRow.{NamedRow}
use Rattle.kn_proof.specs.declared.reply.ReadReply.{ReadReply}
use Rattle.kn_proof.specs.Texts.{row_text}
use Rattle.kn_proof.specs.Texts.{value_text}
use Rattle.kn_proof.specs.declared.fault.ProofFault.{ProofFault}
use Rattle.kn_proof.specs.declared.fault.ProofFault.TheVariants.{Line, Number, Count, NoMemory}
use Rattle.kn_proof.specs.declared.header.Header.{Header}
use Rattle.kn_proof.specs.Lines.{RowTexts, header_line, row_line}
use Rattle.kn_proof.specs.Reading.{IsReadRow, IsReplyText, IsReadTo, HasNoRow, HasLargeRow, IsEnd, IsHeaderFault}
use Rattle.kn_proof.specs.Reading.{IsRowLinesFault, IsLaterFault, IsFirstFault, header_text}
use Rattle.kn_base.proofs.Cuts.{heads_apart}
use Rattle.kn_proof.proofs.Lines.{header_once, row_once, cut_header}
use Rattle.kn_proof.proofs.LineTexts.{header_texts, row_texts, header_form, header_range, row_form, row_range}
use Rattle.kn_proof.proofs.LineTexts.{header_read_once, row_read_once}

-- no ROW line in range stands there
abbrev pub Stops : List ℕ → Type 0
Stops left = (row : NamedRow) (rest : List ℕ) → IsReadRow row → left ≢ row_text row ++ rest

rows_once : (xs ys : List NamedRow) (r s : List ℕ) → All IsReadRow xs → All IsReadRow ys → Stops r → Stops s
    → flat_map row_text xs ++ r ≡ flat_map row_text ys ++ s → (xs ≡ ys) × (r ≡ s)
rows_once [] [] r s each each' stop stop' e = (refl, e)
rows_once [] (y ∷ ys) r s each each' stop stop' e =
    absurd (stop y (flat_map row_text ys ++ s) (All-head IsReadRow y ys each') (e
    ∙ append_assoc (row_text y) (flat_map row_text ys) s))
rows_once (x ∷ xs) [] r s each each' stop stop' e =
    absurd (stop' x (flat_map row_text xs ++ r) (All-head IsReadRow x xs each) (sym e
    ∙ append_assoc (row_text x) (flat_map row_text xs) r))
rows_once (x ∷ xs) (y ∷ ys) r s each each' stop stop' e =
    let next : row_text x ++ (flat_map row_text xs ++ r) ≡ row_text y ++ (flat_map row_text ys ++ s) =
    sym (append_assoc (row_text x) (flat_map row_text xs) r) ∙ e ∙ append_assoc (row_text y) (flat_map row_text ys) s in
    let row = row_read_once x y _ _ (All-head IsReadRow x xs each) (All-head IsReadRow y ys each') next in
    let rest = rows_once xs ys r s (All-tail IsReadRow x xs each) (All-tail IsReadRow y ys each') stop stop' row.1 in
    let same : x ≡ y = row.0 in
    let behind : xs ≡ ys = rest.0 in
    (cc, rest.1)

-- what is read of a text up to where no ROW line in range stands
pub record IsSameRead (h h' : Header) (rows rows' : List NamedRow) (left left' : List ℕ) : Type 0 where
  pub same_header : h ≡ h'
  pub same_rows : rows ≡ rows'
  pub same_left : left ≡ left'

pub read_once : (text : List ℕ) (h h' : Header) (rows rows' : List NamedRow) (left left' : List ℕ)
    → IsReadTo text h rows left → IsReadTo text h' rows' left' → Stops left → Stops left'
    → IsSameRead h h' rows rows' left left'
read_once text h h' rows rows' left left' read read' stop stop' =
    let e : header_text h ++ (flat_map row_text rows ++ left) ≡ header_text h' ++ (flat_map row_text rows' ++ left') =
    sym (append_assoc (header_text h) (flat_map row_text rows) left) ∙ sym read.spelled ∙ read'.spelled
    ∙ append_assoc (header_text h') (flat_map row_text rows') left' in
    let header = header_read_once h h' _ _ read.first read'.first e in
    let each = rows_once rows rows' left left' read.each read'.each stop stop' header.1 in
    record { same_header = header.0; same_rows = each.0; same_left = each.1 }

no_row_at_end : (left rest : List ℕ) (texts : RowTexts) (behind : List ℕ) → IsEnd left rest
    → left ≢ row_line texts ++ behind
no_row_at_end left rest texts behind end e = heads_apart 69 82 _ _ (λ d. omega arith) (sym end ∙ e)

end_stops : (left rest : List ℕ) → IsEnd left rest → Stops left
end_stops left rest end row behind is e = no_row_at_end left rest (row_texts row) behind end e

no_row_stops : (left : List ℕ) → HasNoRow left → Stops left
no_row_stops left none row rest is e = none (row_texts row) rest (row_form row is) e

large_row_stops : (left : List ℕ) → HasLargeRow left → Stops left
large_row_stops left large row rest is e =
    let same = (row_once large.texts (row_texts row) large.rest rest large.form (row_form row is) (sym large.begins
    ∙ e)).0 in
    large.large (rw same (row_range row is))

fault_stops : (h : Header) (n : ℕ) (left : List ℕ) (fault : ProofFault) → IsRowLinesFault h n left fault → Stops left
fault_stops h n left (Line k) is =
    elim is [ inl none ↦ no_row_stops left none.1 | inr end ↦ end_stops left end.2.0 end.2.1 ]
fault_stops h n left (Number k) is = large_row_stops left is.1
fault_stops h n left (Count k) is = end_stops left is.2.0 is.2.1
fault_stops h n left NoMemory is = absurd is

-- a line 1 in range has no fault
no_header_fault : (text : List ℕ) (h : Header) (rows : List NamedRow) (left : List ℕ) (fault : ProofFault)
    → IsReadTo text h rows left → IsHeaderFault text fault → ⊥
no_header_fault text h rows left (Line n) read is =
    is.1 (header_texts h) (flat_map row_text rows ++ left) (header_form h read.first) (read.spelled
    ∙ append_assoc (header_text h) (flat_map row_text rows) left)
no_header_fault text h rows left (Number n) read is =
    let large = is.1 in
    let e : header_line large.texts ++ large.rest ≡ header_line (header_texts h) ++ (flat_map row_text rows ++ left) =
    sym large.begins ∙ read.spelled ∙ append_assoc (header_text h) (flat_map row_text rows) left in
    let same = (header_once large.texts (header_texts h) _ _ (cut_header _ large.form)
    (cut_header _ (header_form h read.first)) e).0 in
    large.large (rw same (header_range h read.first))
no_header_fault text h rows left (Count n) read is = is
no_header_fault text h rows left NoMemory read is = is

abbrev pub header_of : ReadReply → Header
header_of r = record { value = r.value; name = r.name; version = r.version; count = length r.rows }

-- a reply is read to its END line
pub reply_read : (text : List ℕ) (r : ReadReply) → IsReplyText text r
    → IsReadTo text (header_of r) r.rows (codes "END\n")
reply_read text r is = record {
  spelled = is.spelled ∙ regrouped r;
  first = record { name = is.name; value = is.value; version = is.version; count = is.count };
  each = is.each;
}
  where
    regrouped : (r : ReadReply) → value_text r.value r.name r.version r.rows ≡ header_text (header_of r)
        ++ flat_map row_text r.rows ++ codes "END\n"
    regrouped r = simp append_assoc

reply_stops : Stops (codes "END\n")
reply_stops = end_stops (codes "END\n") [] refl

abbrev reply_made : ℕ → List ℕ → ℕ → List NamedRow → ReadReply
reply_made value name version rows = record { value = value; name = name; version = version; rows = rows }

reply_same : (a b : ReadReply) → a.value ≡ b.value → a.name ≡ b.name → a.version ≡ b.version → a.rows ≡ b.rows → a ≡ b
reply_same a b e f g h =
    ap (λ (v : ℕ). reply_made v a.name a.version a.rows) e
    ∙ ap (λ (n : List ℕ). reply_made b.value n a.version a.rows) f
    ∙ ap (λ (v : ℕ). reply_made b.value b.name v a.rows) g ∙ ap (reply_made b.value b.name b.version) h

-- a text is that of one reply
pub one_reply : (text : List ℕ) (a b : ReadReply) → IsReplyText text a → IsReplyText text b → a ≡ b
one_reply text a b is is' =
    let same = read_once text (header_of a) (header_of b) a.rows b.rows _ _ (reply_read text a is)
    (reply_read text b is') reply_stops reply_stops in
    let header = same.same_header in
    reply_same a b (ap (λ (h : Header). h.value) header) (ap (λ (h : Header). h.name) header)
    (ap (λ (h : Header). h.version) header) same.same_rows

no_fault_at_end : (h : Header) (n : ℕ) (fault : ProofFault) → n ≡ h.count → IsRowLinesFault h n (codes "END\n") fault
    → ⊥
no_fault_at_end h n (Line k) same is = elim is [
  | inl none ↦ none.2 [] refl
  | inr end ↦ end.2.2 (append_cancel_left (codes "END\n") end.2.0 [] (sym end.2.1))
]
no_fault_at_end h n (Number k) same is = no_row_at_end (codes "END\n") [] is.1.texts is.1.rest refl is.1.begins
no_fault_at_end h n (Count k) same is = is.1 same
no_fault_at_end h n NoMemory same is = is

-- the text of a reply has no fault
pub reply_without_fault : (text : List ℕ) (r : ReadReply) (fault : ProofFault) → IsReplyText text r
    → IsFirstFault text fault → ⊥
reply_without_fault text r fault is has =
    let read = reply_read text r is in
    elim has [
      | inl first ↦ no_header_fault text (header_of r) r.rows (codes "END\n") fault read first
      | inr later ↦
          let same = read_once text (header_of r) later.header r.rows later.rows (codes "END\n") later.left read
          later.before reply_stops
          (fault_stops later.header (length later.rows) later.left fault later.cause) in
          let count : length later.rows ≡ later.header.count = ap length (sym same.same_rows)
          ∙ ap (λ (h : Header). h.count) same.same_header in
          no_fault_at_end later.header (length later.rows) fault count (rw (same.same_left) later.cause)
    ]

one_header_fault : (text : List ℕ) (f g : ProofFault) → IsHeaderFault text f → IsHeaderFault text g → f ≡ g
one_header_fault text (Line m) (Line n) is is' = ap (λ (k : ℕ). Line k) (is.0 ∙ sym is'.0)
one_header_fault text (Line m) (Number n) is is' = absurd (is.1 is'.1.texts is'.1.rest is'.1.form is'.1.begins)
one_header_fault text (Number m) (Line n) is is' = absurd (is'.1 is.1.texts is.1.rest is.1.form is.1.begins)
one_header_fault text (Number m) (Number n) is is' = ap (λ (k : ℕ). Number k) (is.0 ∙ sym is'.0)
one_header_fault text (Count m) g is is' = absurd is
one_header_fault text NoMemory g is is' = absurd is
one_header_fault text (Line m) (Count n) is is' = absurd is'
one_header_fault text (Line m) NoMemory is is' = absurd is'
one_header_fault text (Number m) (Count n) is is' = absurd is'
one_header_fault text (Number m) NoMemory is is' = absurd is'

one_row_fault : (h : Header) (n : ℕ) (left : List ℕ) (f g : ProofFault) → IsRowLinesFault h n left f
    → IsRowLinesFault h n left g → f ≡ g
one_row_fault h n left (Line j) (Line k) is is' = elim is [
  | inl none ↦ elim is' [
    | inl none' ↦ ap (λ (m : ℕ). Line m) (none.0 ∙ sym none'.0)
    | inr end' ↦ absurd (none.2 end'.2.0 end'.2.1)
  ]
  | inr end ↦ elim is' [
    | inl none' ↦ absurd (none'.2 end.2.0 end.2.1)
    | inr end' ↦ ap (λ (m : ℕ). Line m) (end.0 ∙ sym end'.0)
  ]
]
one_row_fault h n left (Line j) (Number k) is is' = elim is [
  | inl none ↦ absurd (none.1 is'.1.texts is'.1.rest is'.1.form is'.1.begins)
  | inr end ↦ absurd (no_row_at_end left end.2.0 is'.1.texts is'.1.rest end.2.1 is'.1.begins)
]
one_row_fault h n left (Number j) (Line k) is is' = elim is' [
  | inl none ↦ absurd (none.1 is.1.texts is.1.rest is.1.form is.1.begins)
  | inr end ↦ absurd (no_row_at_end left end.2.0 is.1.texts is.1.rest end.2.1 is.1.begins)
]
one_row_fault h n left (Line j) (Count k) is is' = elim is [
  | inl none ↦ absurd (none.2 is'.2.0 is'.2.1)
  | inr end ↦ absurd (is'.1 end.1)
]
one_row_fault h n left (Count j) (Line k) is is' = elim is' [
  | inl none ↦ absurd (none.2 is.2.0 is.2.1)
  | inr end ↦ absurd (is.1 end.1)
]
one_row_fault h n left (Number j) (Number k) is is' = ap (λ (m : ℕ). Number m) (is.0 ∙ sym is'.0)
one_row_fault h n left (Number j) (Count k) is is' =
    absurd (no_row_at_end left is'.2.0 is.1.texts is.1.rest is'.2.1 is.1.begins)
one_row_fault h n left (Count j) (Number k) is is' =
    absurd (no_row_at_end left is.2.0 is'.1.texts is'.1.rest is.2.1 is'.1.begins)
one_row_fault h n left (Count j) (Count k) is is' = ap (λ (m : ℕ). Count m) (is.0 ∙ sym is'.0)
one_row_fault h n left NoMemory g is is' = absurd is
one_row_fault h n left (Line j) NoMemory is is' = absurd is'
one_row_fault h n left (Number j) NoMemory is is' = absurd is'
one_row_fault h n left (Count j) NoMemory is is' = absurd is'

one_later_fault : (text : List ℕ) (f g : ProofFault) → IsLaterFault text f → IsLaterFault text g → f ≡ g
one_later_fault text f g is is' =
    let same = read_once text is.header is'.header is.rows is'.rows is.left is'.left is.before is'.before
    (fault_stops is.header (length is.rows) is.left f is.cause)
    (fault_stops is'.header (length is'.rows) is'.left g is'.cause) in
    one_row_fault is'.header (length is'.rows) is'.left f g
    (rw (sym same.same_header, sym same.same_rows, sym same.same_left) is.cause) is'.cause

-- a text has one first fault
pub one_first_fault : (text : List ℕ) (f g : ProofFault) → IsFirstFault text f → IsFirstFault text g → f ≡ g
one_first_fault text f g is is' = elim is [
  | inl first ↦ elim is' [
    | inl first' ↦ one_header_fault text f g first first'
    | inr later' ↦ absurd (no_header_fault text later'.header later'.rows later'.left f later'.before first)
  ]
  | inr later ↦ elim is' [
    | inl first' ↦ absurd (no_header_fault text later.header later.rows later.left g later.before first')
    | inr later' ↦ one_later_fault text f g later later'
  ]
]
