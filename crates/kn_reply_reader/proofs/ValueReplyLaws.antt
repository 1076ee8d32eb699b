-- A VALUE reply at the front of bytes.
use Rattle.std.proofs.Common.{◌≡◌, ℕ, List, [], ◌∷◌, ◌++◌, codes, flat_map, All, refl, sym, subst, arith, append_assoc}
use Rattle.std.proofs.lemmas.List.{append-nil}
use Rattle.std.proofs.lemmas.List.Elements.{All-head, All-tail}
use Rattle.kn_base.proofs.Cuts.{heads_apart}
use Rattle.kn_proof.specs.declared.named.NamedRow.{NamedRow}
use Rattle.kn_proof.specs.declared.reply.ReadReply.{ReadReply}
use Rattle.kn_proof.specs.Texts.{row_text}
use Rattle.kn_proof.specs.Reading.{IsHeader, IsReadRow, IsReadTo, IsReplyText, header_text}
use Rattle.kn_proof.proofs.OneLine.{header_is_line, row_is_line}
use Rattle.kn_proof.proofs.OneReplyOrFault.{header_of, reply_read}
use Rattle.kn_proof.proofs.LineTexts.{header_texts, header_form, row_texts, row_form}
use Rattle.kn_reply_reader.specs.ValueReplies.{IsOtherLine, AreOtherLines, IsThroughEnd, IsValueAt}
use Rattle.kn_reply_reader.proofs.EndingLaws.{none_before, one_more}

-- line 1 and the ROW lines of a reply are lines, and none of them is END
header_other : (reply : ReadReply) → IsHeader (header_of reply) → IsOtherLine (header_text (header_of reply))
header_other reply is = record {
  whole = header_is_line (header_texts (header_of reply)) (header_form (header_of reply) is);
  other = λ e. heads_apart 86 69 _ _ (λ d. omega arith) e;
}

row_other : (row : NamedRow) → IsReadRow row → IsOtherLine (row_text row)
row_other row is = record {
  whole = row_is_line (row_texts row) (row_form row is);
  other = λ e. heads_apart 82 69 _ _ (λ d. omega arith) e;
}

rows_other : (before : List ℕ) (rows : List NamedRow) → AreOtherLines before → All IsReadRow rows
    → AreOtherLines (before ++ flat_map row_text rows)
rows_other before [] others each = subst AreOtherLines (sym (append-nil before)) others
rows_other before (row ∷ rows) others each =
    subst AreOtherLines (append_assoc before (row_text row) (flat_map row_text rows))
    (rows_other (before ++ row_text row) rows
    (one_more before (row_text row) others (row_other row (All-head IsReadRow row rows each)))
    (All-tail IsReadRow row rows each))

-- the text of a reply goes through the first line END, whatever is behind it
pub value_through_end : (text rest : List ℕ) (reply : ReadReply) → IsReplyText text reply
    → IsThroughEnd (text ++ rest) text rest
value_through_end text rest reply is =
    let to : IsReadTo text (header_of reply) reply.rows (codes "END\n") = reply_read text reply is in
    record {
      before = header_text (header_of reply) ++ flat_map row_text reply.rows;
      others =
          rows_other (header_text (header_of reply)) reply.rows
          (one_more [] (header_text (header_of reply)) none_before (header_other reply to.first)) to.each;
      ends = to.spelled;
      cut = refl;
    }

-- so a text of a reply that stands at a front is the bytes through the first line END
pub value_cut : (left : List ℕ) (reply : ReadReply) (rest : List ℕ) (at : IsValueAt left reply rest)
    → IsThroughEnd left at.text rest
value_cut left reply rest at =
    subst (λ (l : List ℕ). IsThroughEnd l at.text rest) (sym at.cut) (value_through_end at.text rest reply at.read)

-- and is the text of that reply
pub value_there : (left text rest : List ℕ) (reply : ReadReply) (others : List ℕ) (at : IsValueAt left reply others)
    → (text ≡ at.text) × (rest ≡ others) → IsReplyText text reply
value_there left text rest reply others at same = subst (λ (l : List ℕ). IsReplyText l reply) (sym same.0) at.read
